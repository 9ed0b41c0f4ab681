-- `crowded::write_words` meets its contract.
use Rattle.sides.specs.passes.Tasks.{task}
use Rattle.sides.proofs.crowded.FirstPass.{wording-starts, wording-ends}
use Rattle.sides.proofs.crowded.write_words.Goals as goal

pub write-requires : goal.write-requires
write-requires c =
    let a = c.args in
    let q = c.requires in (
      record { sided = q.sided; lengths = q.lengths; based = q.based; later = q.later },
      wording-starts (task a.side.now a.area.now a.back a.bindings.now a.source) q,
    )

pub returns : goal.returns
returns c = wording-ends c.write.ensures
