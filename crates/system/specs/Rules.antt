-- The rules of a system: those that the book lists, and the built-in ones (02, F-2 and F-4). Whatever is said of "the rules" (matches,
-- steps, the strategy test, demand 3) is said over `RuleOf`, so that a built-in rule is never a case of its own.
use Rattle.std.specs.Prelude.{ℕ, ◌+◌, ◌<◌, [], ◌∷◌, length}
use Rattle.system.specs.BuiltIns.{literal, literals, maximum, minimum, square, larger, smaller, square_law}
use Rattle.system.specs.System.{System, Rule, rule}

-- "These act as rules 128 and 129"
abbrev pub maximum_rule : ℕ
maximum_rule = 128

abbrev pub minimum_rule : ℕ
minimum_rule = 129

-- "rule 130"
abbrev pub square_rule : ℕ
square_rule = 130

-- `BuiltIn k r`: r is one of the instances of built-in rule k, of which there are 65,536 where two levels stand ("where both arguments are
-- levels, a step puts the larger or smaller level there") and 256 where one does ("level n becomes ..")
pub data BuiltIn : ℕ → Rule → Type 0 where
  max : {m n : ℕ} → m < literals → n < literals →
      BuiltIn maximum_rule (record { lhs = maximum ∷ (literal + m) ∷ (literal + n) ∷ []; rhs = (literal + larger m n) ∷ [] })
  min : {m n : ℕ} → m < literals → n < literals →
      BuiltIn minimum_rule (record { lhs = minimum ∷ (literal + m) ∷ (literal + n) ∷ []; rhs = (literal + smaller m n) ∷ [] })
  sqr : {n : ℕ} → n < literals → BuiltIn square_rule (record { lhs = square ∷ (literal + n) ∷ []; rhs = (literal + square_law n) ∷ [] })

-- `RuleOf s k r`: r is rule k of the system ("as if their 131,072 instances stood in the book", and the curve's 256)
pub data RuleOf (s : System) : ℕ → Rule → Type 0 where
  listed : {k : ℕ} → k < length s.rules → RuleOf s k (rule s k)
  built_in : {k : ℕ} {r : Rule} → BuiltIn k r → RuleOf s k r
