-- What 02 (F-6) asks of the test by weights and the evaluator together, without and with a record.
use Rattle.std.specs.Prelude.{ℕ, ◌+◌, ◌≤◌, ◌≡◌, List}
use Rattle.system.specs.Numbers.{number_of, limit_number}
use Rattle.system.specs.declared.numbers.Limit.TheVariants.{Spent}
use Rattle.system.specs.declared.numbers.Verdict.TheVariants.{Taken}
use Rattle.rewriting.specs.Evaluation.{Limits}
use Rattle.termination.specs.Weights.{Weights, weight}
use Rattle.termination.specs.WeightTest.{weight_limit, PassedWeights}
use Rattle.evaluation.specs.Expansion.{Expansion, handed_back}

-- of an expansion x of a term, with these limits
pub record Finite (m : Weights) (term : List ℕ) (limits : Limits) (x : Expansion) : Type 0 where
  -- "the steps reported are at most the first cue's total weight less the answer's" (said without a difference)
  pub paid : x.numbers.number ≡ number_of Taken → x.numbers.steps + weight m (handed_back x) ≤ weight m term
  -- in any case, also where no term is handed back, they are at most the first term's weight
  pub bounded : x.numbers.steps ≤ weight m term
  -- "an allowance of the first cue's weight is never answered with 11"
  pub unspent : weight m term ≤ limits.steps → x.numbers.number ≡ limit_number Spent → ⊥

-- "If all fall": where the test passes book and list
abbrev pub IsFinite : List ℕ → Weights → List ℕ → Limits → Expansion → Type 0
IsFinite book m term limits x = PassedWeights book m → Finite m term limits x

-- where the step limit is the term's weight, as 32 bits hold it: no condition is left
abbrev pub NeverSpent : List ℕ → Weights → List ℕ → Limits → Expansion → Type 0
NeverSpent book m term limits x =
    PassedWeights book m → limits.steps ≡ weight_limit m term → x.numbers.number ≡ limit_number Spent → ⊥
