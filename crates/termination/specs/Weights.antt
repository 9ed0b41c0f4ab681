-- Weights under which every rule makes a term lighter (02, F-6: "Finite shows"): a system that has them terminates.
use Rattle.std.specs.Prelude.{ℕ, ◌+◌, ◌≤◌, ◌<◌, ◌≡◌, cond, List, [], ◌∷◌, length, get_or, ltb}
use Rattle.system.specs.Limits.{variable, variables, max_weight}
use Rattle.system.specs.BuiltIns.{literal, is_literal, is_built_in}
use Rattle.system.specs.System.{System, Rule, rule}
use Rattle.system.specs.Terms.{occurs}
use Rattle.system.specs.Rules.{RuleOf}

-- "a lent list that gives each name a weight": one for each listed symbol
abbrev pub Weights : Type 0
Weights = List ℕ

-- "levels weigh 0, the built-in words 1"
unfoldable pub built_in_weight : ℕ → ℕ
built_in_weight w = cond (is_literal w) 0 (cond (is_built_in w) 1 0)

-- what a word weighs: below the literals, where the names are, what the list says, and nothing where it has no entry; from there on the
-- built-in weight. What is no symbol weighs nothing ("placeholders nothing")
unfoldable pub word_weight : Weights → ℕ → ℕ
word_weight m w = cond (ltb w literal) (get_or m w 0) (built_in_weight w)

-- what the words of a side weigh "in all", and "the first cue's total weight"
unfoldable pub weight : Weights → List ℕ → ℕ
weight m [] = 0
weight m (w ∷ ws) = word_weight m w + weight m ws

-- "A rule falls if its left side's words weigh more in all than its right side's (placeholders nothing)", and none is on the right more often
-- than on the left (02, F-7: "In F-6 a placeholder may be on the right as often as on the left")
pub record Falls (m : Weights) (r : Rule) : Type 0 where
  pub lighter : weight m r.rhs < weight m r.lhs
  pub kept : (v : ℕ) → v < variables → occurs (variable + v) r.rhs ≤ occurs (variable + v) r.lhs

-- "If all fall", the built-in rules too
abbrev pub Falling : Weights → System → Type 0
Falling m s = (k : ℕ) (r : Rule) → RuleOf s k r → Falls m r

-- "the lowest rule that doesn't fall": it is listed, and every lower one falls
pub record RisesFirst (m : Weights) (s : System) (k : ℕ) : Type 0 where
  pub known : k < length s.rules
  pub rises : Falls m (rule s k) → ⊥
  pub lower : (j : ℕ) (r : Rule) → RuleOf s j r → j < k → Falls m r

-- a list of weights for the system: its length is S, and no weight "is out of range"
pub record Weighs (m : Weights) (s : System) : Type 0 where
  pub total : length m ≡ length s.arities
  pub range : (f : ℕ) → f < length m → (1 ≤ get_or m f 0) × (get_or m f 0 ≤ max_weight)
