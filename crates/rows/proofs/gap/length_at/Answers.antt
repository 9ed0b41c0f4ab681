-- `gap::length_at` meets its contract.
use mathlib.Core.Path.{ap, ◌∙◌}
use Prim.Native.Nat.{ℕ, ◌+◌}
use lib.ListN.{get_or}
use Rattle.system.specs.Limits.{term_words}
use Rattle.rows.proofs.gap.Closed.{lengths-at}
use Rattle.rows.proofs.gap.length_at.Goals as goal

pub returns : goal.returns
returns c =
    let a = c.args in (
      c.wide.ensures.0
          ∙ ap (λ (k : ℕ). get_or a.area.now (term_words + k) 0) c.slot.ensures.0
          ∙ lengths-at a.area.now a.gap c.requires.0 a.i c.requires.1,
      c.wide.ensures.1,
    )
