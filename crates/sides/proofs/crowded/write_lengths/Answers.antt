-- `crowded::write_lengths` meets its contract.
use Rattle.system.specs.Signature.{signature_of}
use Rattle.sides.specs.passes.Tasks.{task}
use Rattle.sides.proofs.crowded.SecondPass.{lengthening-starts}
use Rattle.sides.proofs.crowded.write_lengths.Goals as goal

pub write-requires : goal.write-requires
write-requires c =
    let a = c.args in
    let q = c.requires.passable in (
      record { sided = q.sided; lengths = q.lengths; based = q.based; later = q.later },
      lengthening-starts (signature_of a.book.now) (task a.side.now a.area.now a.back a.bindings.now a.source) c.requires,
    )

pub returns : goal.returns
returns c = let v = c.write.ensures in (v.left.written, v.lengthened)
