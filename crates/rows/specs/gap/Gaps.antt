-- A gap in two rows: where the term's words stand around it, and how it is moved.
use Rattle.std.specs.Prelude.{ℕ, ◌+◌, ◌-◌, ◌≡◌, cond, List, length, drop, ltb}
use Rattle.system.specs.Limits.{term_words}
use Rattle.rows.specs.declared.gap.Gap.{Gap}
use Rattle.rows.specs.Rows.{counts_at, Gapped, term_in, lengths_in}

-- how many words the term has, and where in a row word i of it stands
abbrev pub words_in : Gap → ℕ
words_in g = g.front + (term_words - g.back)

unfoldable pub slot_of : Gap → ℕ → ℕ
slot_of g i = cond (ltb i g.front) i (i + (g.back - g.front))

-- a gap before which no word stands
abbrev pub behind : ℕ → Gap
behind b = record { front = 0; back = b }

-- one of no words
abbrev pub even : ℕ → Gap
even b = record { front = b; back = b }

-- a gap moved to word `to`: the term stays as it is, and so do the lengths and the third row
pub record Moved (ws : List ℕ) (g : Gap) (to : ℕ) (g' : Gap) (ws' : List ℕ) : Type 0 where
  pub front : g'.front ≡ to
  pub size : words_in g' ≡ words_in g
  pub gapped : Gapped ws' g'
  pub words : term_in ws' g' ≡ term_in ws g
  pub lengths : lengths_in ws' g' ≡ lengths_in ws g
  pub total : length ws' ≡ length ws
  pub counts : drop counts_at ws' ≡ drop counts_at ws
