-- "Beside each word stands the length of the part that starts there, read from there and true after every step and every opened argument" (02, F-5).
use Rattle.std.specs.Prelude.{◌≡◌, List, ℕ}
use Rattle.system.specs.Signature.{Signature}
use Rattle.system.specs.Spans.{spans}
use Rattle.rows.specs.declared.gap.Gap.{Gap}
use Rattle.rows.specs.Rows.{Gapped, term_in, lengths_in}

-- the rows hold a term around the gap, and beside each of its words the length of the subterm that starts there
pub record Measured (g : Signature) (ws : List ℕ) (gap : Gap) : Type 0 where
  pub gapped : Gapped ws gap
  pub lengths : lengths_in ws gap ≡ spans g (term_in ws gap)
