-- What the sort test (02, F-8) answers.
use Rattle.std.specs.Prelude.{ℕ, ◌≡◌, Bool, true, false, ◌&&◌, List, [], ◌∷◌, length, leb, eqb}
use Rattle.std.proofs.Math.Option.{Option, none, some}
use Rattle.system.specs.declared.Answer.{Answer}
use Rattle.system.specs.Limits.{max_sort}
use Rattle.system.specs.Numbers.{number_of}
use Rattle.system.specs.declared.numbers.Verdict.{Verdict}
use Rattle.system.specs.declared.numbers.Verdict.TheVariants.{Taken, Broken, Missorted, IllRule, IllTerm}
use Rattle.system.specs.Signature.{Signature}
use Rattle.system.specs.System.{System, rule}
use Rattle.system.specs.TermCheck.{term_fault}
use Rattle.system.specs.FirstFailing.{first_failing}
use Rattle.reader.specs.Parser.{ok, fault, read}
use Rattle.reader.specs.Answers.{answer_of}
use Rattle.sorts.specs.Sorts.{Sorts, entries}
use Rattle.sorts.specs.SortCheck.{sorted_rule, sorted_term}

-- whether no sort is above 63
unfoldable pub all_small : Sorts → Bool
all_small [] = true
all_small (k ∷ ks) = leb k max_sort && all_small ks

-- whether it is a list of sorts for the signature
unfoldable pub lists : Sorts → Signature → Bool
lists ks g = eqb (length ks) (entries g) && all_small ks

-- "From 18 on, and on 0 in the tools added below, place and steps are 0 unless a request says otherwise"
abbrev pub answer_with : Verdict → ℕ → Answer
answer_with v p = record { number = number_of v; place = p; steps = 0 }

-- "20 for a list of wrong length or a kind above 63"
abbrev pub missorted_answer : Answer
missorted_answer = answer_with Missorted 0

-- "22 for a cue that isn't well-kinded"
abbrev pub sorted_answer : Bool → Answer
sorted_answer true = answer_with Taken 0
sorted_answer false = answer_with IllTerm 0

-- "then, after 9, 22"
unfoldable pub term_test : Signature → Sorts → List ℕ → Answer
term_test g ks t = elim (term_fault g 1 t 0) [ some i ↦ answer_with Broken i | none ↦ sorted_answer (sorted_term g ks t) ]

-- the lowest listed rule that fails; none where all pass
abbrev pub first_ill : Sorts → System → Option ℕ
first_ill ks s = first_failing (λ k. sorted_rule s.arities ks (rule s k)) 0 (length s.rules)

-- "then 21, place the lowest rule that fails"
abbrev pub rule_test : System → Sorts → List ℕ → Option ℕ → Answer
rule_test s ks t none = term_test s.arities ks t
rule_test s ks t (some k) = answer_with IllRule k

-- the test of a system that was read
unfoldable pub system_test : System → Sorts → List ℕ → Answer
system_test s ks t = elim (lists ks s.arities) [ false ↦ missorted_answer | true ↦ rule_test s ks t (first_ill ks s) ]

-- "Turned away: after the book, 20 ..; then 21 ..; then, after 9, 22"
unfoldable pub sorts_answer : List ℕ → List ℕ → Sorts → Answer
sorts_answer book t ks = elim (read book) [ fault f i ↦ answer_of (fault f i) | ok s i ↦ system_test s ks t ]

-- a list by which book and term passed: the test answers 0
abbrev pub PassedSorts : List ℕ → List ℕ → Sorts → Type 0
PassedSorts book t ks = (sorts_answer book t ks).number ≡ number_of Taken
