-- The row of words, and then that of lengths, each written in a pass: what stands there.
use Rattle.std.specs.Prelude.{ℕ, ◌+◌, ◌≡◌, List, length, drop}
use Rattle.buffers.specs.Words.{over}
use Rattle.system.specs.Signature.{Signature}
use Rattle.system.specs.System.{instance}
use Rattle.rows.specs.lengths.Lengthened.{Lengthened}
use Rattle.sides.specs.writing.Reduct.{stretch}
use Rattle.sides.specs.passes.Tasks.{Task, Left}
use Rattle.sides.specs.crowded.Passes.{Passable, Lengthable}

-- the words of the side that are not among `rest`, filled
abbrev pub done : Task → List ℕ → List ℕ
done t rest = instance (stretch t.area t.stretches t.source) (drop (length rest) t.side)

-- they are written
pub record Wording (t : Task) (rest ws : List ℕ) (to : ℕ) : Type 0 where
  pub asked : Passable t.side t.area t.back t.back t.stretches t.source
  pub left : Left t rest to
  pub size : to + length (done t rest) ≡ t.back
  pub area : ws ≡ over t.area to (done t rest)

-- they have their lengths
pub record Lengthening (g : Signature) (t : Task) (rest ws : List ℕ) (to : ℕ) : Type 0 where
  pub asked : Lengthable g t.side t.area t.back t.stretches t.source
  pub left : Left t rest to
  pub lengthened : Lengthened g t.area t.back ws to
