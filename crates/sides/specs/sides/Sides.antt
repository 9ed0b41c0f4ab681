-- The words of a rule's sides, and what their variables stand for.
use Rattle.std.specs.Prelude.{ℕ, ◌+◌, ◌≤◌, ◌<◌, List, length, get_or, take, drop}
use Rattle.system.specs.Limits.{side_words, variable, variables}

-- words of a side, or some at its front: symbols and variables of number 0 to 15
pub record Sided (side : List ℕ) : Type 0 where
  pub small : length side ≤ side_words
  pub known : (j : ℕ) → j < length side → get_or side j 0 < variable + variables

-- what the variables of a side stand for: stretches of the redex, by the first word and the number of words of each
pub record Stretches : Type 0 where
  pub starts : List ℕ
  pub lengths : List ℕ

-- the same as words that are handed on (`binding_words` of them), since what is lent costs no copy: first where the stretches start, then how many
-- words they have
abbrev pub stretches_in : List ℕ → Stretches
stretches_in bs = record { starts = take variables bs; lengths = drop variables bs }
