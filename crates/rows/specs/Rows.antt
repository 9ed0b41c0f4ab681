-- A term in an area of lent words (02, F-5): two rows of 4,096 words with a gap in both. In the first stand the term's words, in the second, "beside
-- each word", the length of the subterm that starts there; a third row follows them.
use Rattle.std.specs.Prelude.{ℕ, ◌*◌, ◌≤◌, List, ◌++◌, length, take, drop}
use Rattle.system.specs.Limits.{term_words}
use Rattle.rows.specs.declared.gap.Gap.{Gap}

-- where the third row starts
abbrev pub counts_at : ℕ
counts_at = 2 * term_words

abbrev pub word_row : List ℕ → List ℕ
word_row ws = take term_words ws

abbrev pub length_row : List ℕ → List ℕ
length_row ws = take term_words (drop term_words ws)

-- the gap lies in a row
pub record Lies (g : Gap) : Type 0 where
  pub low : g.front ≤ g.back
  pub high : g.back ≤ term_words

pub record Gapped (ws : List ℕ) (g : Gap) : Type 0 where
  pub room : counts_at ≤ length ws
  pub lies : Lies g

-- a row without its gap
unfoldable pub closed : Gap → List ℕ → List ℕ
closed g row = take g.front row ++ drop g.back row

-- the term that an area holds, and the lengths beside its words
abbrev pub term_in : List ℕ → Gap → List ℕ
term_in ws g = closed g (word_row ws)

abbrev pub lengths_in : List ℕ → Gap → List ℕ
lengths_in ws g = closed g (length_row ws)
