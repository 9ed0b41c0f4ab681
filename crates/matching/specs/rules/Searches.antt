-- What the layers above are told of a match: how long its reduct is.
use Rattle.std.specs.Prelude.{ℕ, ◌+◌, ◌-◌, ◌≤◌, ◌<◌, ◌≡◌, List, [], ◌∷◌, cond, length, get_or, take, drop, ltb}
use Rattle.system.specs.Limits.{side_words, variable, variables}
use Rattle.matching.specs.Bindings.{Bindings}

-- ---- the reduct

-- how many words the instance of a side has, where the variables' terms have these lengths
unfoldable pub reduct_length : List ℕ → List ℕ → ℕ
reduct_length lengths [] = 0
reduct_length lengths (w ∷ ws) = cond (ltb w variable) 1 (get_or lengths (w - variable) 0) + reduct_length lengths ws

-- a side of a rule: its words are symbols and variables of number 0 to 15
pub record NumberedSide (side : List ℕ) : Type 0 where
  pub small : length side ≤ side_words
  pub known : (j : ℕ) → j < length side → get_or side j 0 < variable + variables

-- a right side that stands in the book
pub record RightSideAt (book : List ℕ) (rhs size : ℕ) : Type 0 where
  pub fits : rhs + size ≤ length book
  pub right : NumberedSide (take size (drop rhs book))

-- the stretches of the variables, by where they start and how many words they have
abbrev pub stretches : List ℕ → List ℕ → Bindings
stretches starts lengths = record { starts = starts; lengths = lengths }

-- they lie in ws
pub record Within (ws starts lengths : List ℕ) : Type 0 where
  pub size-starts : length starts ≡ variables
  pub size-lengths : length lengths ≡ variables
  pub inside : (v : ℕ) → get_or starts v 0 + get_or lengths v 0 ≤ length ws
