-- `writing::write_reduct` meets its contract.
use mathlib.Core.Path.{refl}
use Rattle.sides.specs.passes.Tasks.{task}
use Rattle.sides.proofs.writing.Turns.{writing-starts}
use Rattle.sides.proofs.writing.write_reduct.Goals as goal

pub write-requires : goal.write-requires
write-requires c =
    let a = c.args in
    let q = c.requires in (
      record { sided = q.sided; lengths = q.lengths; based = q.based; later = q.later },
      writing-starts a.gap (task a.side.now a.area.now a.gap.front a.bindings.now a.source) refl q,
    )

pub returns : goal.returns
returns c = c.write.ensures.written
