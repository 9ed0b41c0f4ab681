-- The lengths on the way to a rewrite, raised one by one.
use Rattle.std.specs.Prelude.{ℕ, zero, suc, ◌+◌, ◌-◌, ◌≤◌, ◌<◌, ◌≡◌, List, [], ◌∷◌, ◌++◌, length, get_or, take, drop}
use Rattle.system.specs.Limits.{max_word, term_words}
use Rattle.rows.specs.Rows.{counts_at, word_row, length_row}
use Rattle.rewriting.specs.Ways.{raise}

-- the numbers at these indices of the row may be taken d from, one after the other, and have room for e
pub record Raisable (ws qs : List ℕ) (d e : ℕ) : Type 0 where
  pub room : counts_at ≤ length ws
  pub within : (j : ℕ) → j < length qs → get_or qs j 0 < term_words
  pub less : (j : ℕ) → j < length qs → d ≤ get_or (raise (take j qs) d e (length_row ws)) (get_or qs j 0) 0
  pub fits : (j : ℕ) → j < length qs → get_or (raise (take j qs) d e (length_row ws)) (get_or qs j 0) 0 - d + e ≤ max_word

-- the row of lengths then; nothing else has changed
pub record Raised (ws qs : List ℕ) (d e : ℕ) (ws' : List ℕ) : Type 0 where
  pub lengths : length_row ws' ≡ raise qs d e (length_row ws)
  pub words : word_row ws' ≡ word_row ws
  pub counts : drop counts_at ws' ≡ drop counts_at ws
  pub total : length ws' ≡ length ws

-- the way to the base, as it is kept at the end of the third row: n symbols, the root in the last word, each before the one above it
unfoldable pub way_in : List ℕ → ℕ → List ℕ
way_in ws zero = []
way_in ws (suc n) = way_in ws n ++ get_or ws (counts_at + (term_words - suc n)) 0 ∷ []
