-- What demand 3 asks of an evaluation that ends within its limits.
use Rattle.std.specs.Prelude.{ℕ, ◌*◌, ◌≤◌, ◌≡◌, List}
use Rattle.std.proofs.Math.Option.{some}
use Rattle.system.specs.System.{System, Rule}
use Rattle.system.specs.Rules.{RuleOf}
use Rattle.system.specs.Terms.{Whole}
use Rattle.matching.specs.Matching.{Matches}
use Rattle.rewriting.specs.Evaluation.{Limits, start, finished, evaluation}
use Rattle.rewriting.specs.Rewriting.{Active, Steps}
use Rattle.system.specs.Limits.{term_words}

-- "Done", whether or not the system is safe. "The reported number is the steps of the expander's answer. That the list of steps leads
-- from the cue handed in to the cue handed back is one claim about the whole list": n steps lead from t₀ to t, which is whole; with none
-- the two are equal; the step limit allows n, and a record (02, F-3: "its room is one more limit in demands 2 and 3") has room for n pairs;
-- no term in that list has more than 4,096 words
pub record Done (s : System) (limits : Limits) (t₀ t : List ℕ) (n : ℕ) : Type 0 where
  pub path : Steps s term_words n t₀ t
  pub none : n ≡ 0 → t₀ ≡ t
  pub afford : n ≤ limits.steps
  pub roomy : (m : ℕ) → limits.room ≡ some m → 2 * n ≤ m
  pub whole : Whole s.arities t

-- no rule matches at an active position of t
abbrev pub Normal : System → List ℕ → Type 0
Normal s t = (p : ℕ) → Active s t p → (k : ℕ) (r : Rule) → RuleOf s k r → Matches s.arities t p r → ⊥

-- "Found", where the system is safe ("A book passed if the order test answers 0"): t is whole, no rule matches at an active position of
-- it, and evaluating it again takes no step and changes nothing
pub record Stable (s : System) (t : List ℕ) : Type 0 where
  pub whole : Whole s.arities t
  pub normal : Normal s t
  pub again : (limits : Limits) → evaluation s limits t ≡ finished (start t)
