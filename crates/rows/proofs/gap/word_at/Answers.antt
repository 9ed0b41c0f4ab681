-- `gap::word_at` meets its contract.
use mathlib.Core.Path.{ap, ◌∙◌}
use Prim.Native.Nat.{ℕ}
use lib.ListN.{get_or}
use Rattle.rows.proofs.gap.Closed.{term-at}
use Rattle.rows.proofs.gap.word_at.Goals as goal

pub returns : goal.returns
returns c =
    let a = c.args in
    ap (λ (k : ℕ). get_or a.area.now k 0) c.slot.ensures.0 ∙ term-at a.area.now a.gap c.requires.0 a.i c.requires.1
