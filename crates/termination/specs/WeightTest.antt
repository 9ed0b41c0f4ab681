-- The termination test by weights as a computation, and what it answers.
use Rattle.std.specs.Prelude.{ℕ, zero, suc, ◌+◌, ◌≡◌, Bool, true, false, ◌&&◌, List, [], ◌∷◌, length, ltb, leb, eqb}
use Rattle.std.proofs.Math.Option.{Option, none, some}
use Rattle.system.specs.declared.Answer.{Answer}
use Rattle.system.specs.Limits.{variable, variables, max_steps, max_weight}
use Rattle.system.specs.Numbers.{number_of}
use Rattle.system.specs.declared.numbers.Verdict.TheVariants.{Taken, Misweighed, Rising}
use Rattle.system.specs.BuiltIns.{smaller}
use Rattle.system.specs.System.{System, Rule, rule}
use Rattle.reader.specs.Parser.{ok, fault, read}
use Rattle.reader.specs.Answers.{answer_of}
use Rattle.system.specs.FirstFailing.{first_failing}
use Rattle.termination.specs.Weights.{Weights, weight}
use Rattle.system.specs.Terms.{occurs}

-- whether variable v is on the right at most as often as on the left
unfoldable pub keeps_at : Rule → ℕ → Bool
keeps_at r v = leb (occurs (variable + v) r.rhs) (occurs (variable + v) r.lhs)

-- a test that every number below n passes
unfoldable pub below : (ℕ → Bool) → ℕ → Bool
below test zero = true
below test (suc n) = below test n && test n

-- whether the rule falls
unfoldable pub falls : Weights → Rule → Bool
falls m r = ltb (weight m r.rhs) (weight m r.lhs) && below (keeps_at r) variables

-- whether each weight is "from 1 to 1,000"
unfoldable pub in_range : Weights → Bool
in_range [] = true
in_range (w ∷ ws) = (leb 1 w && leb w max_weight) && in_range ws

-- whether it is a list of weights for so many symbols
unfoldable pub weighs : Weights → ℕ → Bool
weighs m n = eqb (length m) n && in_range m

-- ---- what the test answers

-- the lowest listed rule that does not fall; none where all do
abbrev pub first_rising : Weights → System → Option ℕ
first_rising m s = first_failing (λ k. falls m (rule s k)) 0 (length s.rules)

-- "then 19, place the lowest rule that doesn't fall"
abbrev pub fall_answer : Option ℕ → Answer
fall_answer none = record { number = number_of Taken; place = 0; steps = 0 }
fall_answer (some k) = record { number = number_of Rising; place = k; steps = 0 }

-- "18 if the list's length is not S or a weight is out of range"
abbrev pub misweighed_answer : Answer
misweighed_answer = record { number = number_of Misweighed; place = 0; steps = 0 }

-- the test of a system that was read
unfoldable pub system_answer : Weights → System → Answer
system_answer m s = elim (weighs m (length s.arities)) [ false ↦ misweighed_answer | true ↦ fall_answer (first_rising m s) ]

-- "Turned away: after the book, 18 ..; then 19"
unfoldable pub weights_answer : List ℕ → Weights → Answer
weights_answer book m = elim (read book) [ fault f i ↦ answer_of (fault f i) | ok s i ↦ system_answer m s ]

-- a list by which a book passed: the test answers 0
abbrev pub PassedWeights : List ℕ → Weights → Type 0
PassedWeights book m = (weights_answer book m).number ≡ number_of Taken

-- ---- the weight of a term as a step limit ("an allowance of the first cue's weight")

-- the weight, where it fits 32 bits, and else the largest step limit. (Of a term that is expanded it fits: `weight-fits`.)
unfoldable pub weight_limit : Weights → List ℕ → ℕ
weight_limit m ws = smaller (weight m ws) max_steps
