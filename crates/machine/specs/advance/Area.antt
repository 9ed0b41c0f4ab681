-- The machine's state as it lies in memory: an area of 12,288 words. Two rows hold the term and, beside each of its words, the length of the
-- subterm that starts there; the third one holds the counts of begun entries, outermost level first. What stands in the gap of the rows and
-- behind the counts does not matter.
use Rattle.std.specs.Prelude.{ℕ, ◌+◌, ◌-◌, ◌≤◌, ◌<◌, ◌≡◌, List, length, get_or, take, drop}
use Rattle.system.specs.Signature.{Signature}
use Rattle.system.specs.System.{System}
use Rattle.system.specs.Terms.{Whole}
use Rattle.rows.specs.declared.gap.Gap.{Gap}
use Rattle.rows.specs.Rows.{counts_at, term_in}
use Rattle.rows.specs.Measured.{Measured}
use Rattle.redexes.specs.search.Redexes.{binding_words}
use Rattle.rewriting.specs.Machine.{strategy_at, position}
use Rattle.rewriting.specs.Opened.{Opened}
use Rattle.system.specs.Limits.{area_words, levels, term_words}

-- with `level` levels around the innermost one, the counts of those and the innermost one's
abbrev pub outer_in : List ℕ → ℕ → List ℕ
outer_in ws level = take level (drop counts_at ws)

abbrev pub count_in : List ℕ → ℕ → ℕ
count_in ws level = get_or ws (counts_at + level) 0

-- the area holds the term t, with true lengths, and these counts
pub record Stands (g : Signature) (ws : List ℕ) (gap : Gap) (t cs : List ℕ) : Type 0 where
  pub total : length ws ≡ area_words
  pub measured : Measured g ws gap
  pub term : term_in ws gap ≡ t
  pub counts : take (length cs) (drop counts_at ws) ≡ cs

-- a state that the machine may be in, that evaluates the subterm at `base`, with the levels `outer` around the innermost one, of which c entries
-- are begun: never more than 4,096 words in the term, never more than 64 levels
pub record Valid (s : System) (t : List ℕ) (base : ℕ) (outer : List ℕ) (c : ℕ) : Type 0 where
  pub whole : Whole s.arities t
  pub bounded : length t ≤ term_words
  pub room : length outer < levels
  pub inside : base < length t
  pub opened : Opened s t base outer
  pub begun : c ≤ length (strategy_at s t (position s t outer base))

-- where the open levels start, outermost first: the first one at the base
abbrev pub Positioned : System → List ℕ → ℕ → List ℕ → List ℕ → Type 0
Positioned s t base outer positions = (k : ℕ) → k ≤ length outer → get_or positions k 0 ≡ position s t (take k outer) base

-- an area that holds a state. (02, F-5: the lengths are "true after every step and every opened argument")
pub record Represents (s : System) (ws : List ℕ) (gap : Gap) (base level : ℕ) : Type 0 where
  pub total : length ws ≡ area_words
  pub measured : Measured s.arities ws gap
  pub valid : Valid s (term_in ws gap) base (outer_in ws level) (count_in ws level)
  pub levels : length (outer_in ws level) ≡ level

-- the words of a call's frame: the positions of the open levels, outermost first, and behind them the bindings of the match that was found last
abbrev pub frame_words : ℕ
frame_words = levels + binding_words

-- the base of a frame: its first word
abbrev pub base_of : List ℕ → ℕ
base_of positions = get_or positions 0 0

-- the last words of the third row, as many as stand before the base: the machine leaves them alone (the way to the base may be kept there)
abbrev pub last_words : ℕ → List ℕ → List ℕ
last_words base ws = drop (term_words - base) (drop counts_at ws)

-- and the positions of its levels
pub record Tracks (s : System) (ws positions : List ℕ) (gap : Gap) (base level : ℕ) : Type 0 where
  pub represents : Represents s ws gap base level
  pub slots : length positions ≡ frame_words
  pub positioned : Positioned s (term_in ws gap) base (outer_in ws level) positions
