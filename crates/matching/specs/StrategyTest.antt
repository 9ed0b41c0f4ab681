-- The strategy test (01: the order test) as a computation, and what it answers.
use Rattle.std.specs.Prelude.{ℕ, zero, suc, ◌≡◌, List, [], ◌∷◌, Bool, true, false, not, ◌&&◌, ◌||◌, length, leb, eqb}
use Rattle.std.proofs.Math.Option.{Option, none, some}
use Rattle.system.specs.declared.Answer.{Answer}
use Rattle.system.specs.Numbers.{number_of}
use Rattle.system.specs.declared.numbers.Verdict.TheVariants.{Taken, Unsettled}
use Rattle.system.specs.Limits.{variable}
use Rattle.system.specs.Signature.{Signature}
use Rattle.system.specs.System.{System, Rule, strategy, head}
use Rattle.system.specs.Terms.{occurs}
use Rattle.system.specs.FirstFailing.{first_failing}
use Rattle.reader.specs.Parser.{ok, fault, read}
use Rattle.reader.specs.Answers.{answer_of}
use Rattle.matching.specs.Safety.{argument_word}

-- a test that every rule passes
unfoldable pub every : (Rule → Bool) → List Rule → Bool
every test [] = true
every test (r ∷ rs) = test r && every test rs

-- whether the argument with i others before it is "a placeholder that its left side holds once" (02, F-7)
unfoldable pub held_once : Signature → List ℕ → ℕ → Bool
held_once g lhs i = leb variable (argument_word g lhs i) && eqb (occurs (argument_word g lhs i) lhs) 1

-- whether the argument of f, a listed symbol, with i others before it is idle: so "in every left side of the name"
unfoldable pub idle_test : System → ℕ → ℕ → Bool
idle_test s f i = every (λ r. not (eqb (head r.lhs) f) || held_once s.arities r.lhs i) s.rules

-- whether all entries are idle arguments
unfoldable pub idles : (ℕ → Bool) → List ℕ → Bool
idles test [] = true
idles test (zero ∷ es) = false
idles test (suc i ∷ es) = test i && idles test es

-- whether it "holds a 0 and every entry after the last 0 is an idle argument"
unfoldable pub closes : (ℕ → Bool) → List ℕ → Bool
closes test [] = false
closes test (zero ∷ es) = idles test es || closes test es
closes test (suc i ∷ es) = closes test es

-- whether "no left side starts with" f, a listed symbol
unfoldable pub constructs : System → ℕ → Bool
constructs s f = every (λ r. not (eqb (head r.lhs) f)) s.rules

-- whether the listed symbol f passes: either of the two. (The built-in symbols pass in every book: no test looks at them.)
unfoldable pub passes : System → ℕ → Bool
passes s f = constructs s f || closes (idle_test s f) (strategy s f)

-- ---- what the test answers

-- "the lowest-numbered name that fails" (02, F-1)
abbrev pub first_unsafe : System → Option ℕ
first_unsafe s = first_failing (passes s) 0 (length s.arities)

-- "All pass: 0. Otherwise 14" (01); "Number 14's place becomes the lowest-numbered name that fails" (02, F-1)
abbrev pub safety_answer : Option ℕ → Answer
safety_answer none = record { number = number_of Taken; place = 0; steps = 0 }
safety_answer (some f) = record { number = number_of Unsettled; place = f; steps = 0 }

-- "A book that the reader refuses gets the reader's answer."
unfoldable pub test_answer : List ℕ → Answer
test_answer book = elim (read book) [ fault f i ↦ answer_of (fault f i) | ok s i ↦ safety_answer (first_unsafe s) ]

-- "A book passed if the order test answers 0"
abbrev pub PassedBook : List ℕ → Type 0
PassedBook book = (test_answer book).number ≡ number_of Taken
