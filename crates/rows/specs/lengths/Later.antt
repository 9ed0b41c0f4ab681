-- The lengths from a word of the term on, whatever stands before it.
use Rattle.std.specs.Prelude.{◌≡◌, List, drop, ℕ, ◌≤◌}
use Rattle.system.specs.Signature.{Signature}
use Rattle.system.specs.Spans.{spans}
use Rattle.rows.specs.declared.gap.Gap.{Gap}
use Rattle.rows.specs.Rows.{Gapped, term_in, lengths_in}

-- they are true of the words from n on
pub record MeasuredFrom (g : Signature) (ws : List ℕ) (gap : Gap) (n : ℕ) : Type 0 where
  pub gapped : Gapped ws gap
  pub lengths : drop n (lengths_in ws gap) ≡ spans g (drop n (term_in ws gap))

-- the same of words that stand before the gap, or begin behind it: before them others may be written
pub record Onward (g : Signature) (ws : List ℕ) (gap : Gap) (to : ℕ) : Type 0 where
  pub measured : MeasuredFrom g ws gap to
  pub before : to ≤ gap.front
