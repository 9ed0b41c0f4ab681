-- Lengths put beside words that stand there already.
use Rattle.std.specs.Prelude.{ℕ, ◌+◌, ◌-◌, ◌≤◌, ◌≡◌, List, take}
use Rattle.buffers.specs.Words.{over}
use Rattle.system.specs.Limits.{term_words}
use Rattle.system.specs.Signature.{Signature}
use Rattle.system.specs.Spans.{spans}
use Rattle.rows.specs.Rows.{term_in}
use Rattle.rows.specs.gap.Gaps.{behind}

-- the words from `back'` on before those from `back` on have their lengths beside them; nothing else has changed
pub record Lengthened (g : Signature) (ws : List ℕ) (back : ℕ) (ws' : List ℕ) (back' : ℕ) : Type 0 where
  pub before : back' ≤ back
  pub area : ws' ≡ over ws (term_words + back') (take (back - back') (spans g (term_in ws (behind back'))))
