-- Words and lengths written in one pass: what stands there.
use Rattle.std.specs.Prelude.{ℕ, ◌≡◌, List, length, drop}
use Rattle.system.specs.Signature.{Signature}
use Rattle.system.specs.System.{instance}
use Rattle.rows.specs.declared.gap.Gap.{Gap}
use Rattle.rows.specs.lengths.Written.{Written}
use Rattle.sides.specs.passes.Tasks.{Task, Left}
use Rattle.sides.specs.writing.Reduct.{stretch, Writable}

-- all words of the side but those of `rest` are written before the gap, filled, with their lengths
pub record Writing (g : Signature) (gap : Gap) (t : Task) (rest ws : List ℕ) (to : ℕ) : Type 0 where
  pub asked : Writable g t.side t.area gap t.stretches t.source
  pub back : t.back ≡ gap.front
  pub left : Left t rest to
  pub written : Written g t.area gap t.back ws to (instance (stretch t.area t.stretches t.source) (drop (length rest) t.side))
