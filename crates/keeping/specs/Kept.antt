-- What 02 (F-8) asks of the sort test and the evaluator together, without and with a record: "a well-kinded cue stays so, and keeps its kind, at
-- every step".
use Rattle.std.specs.Prelude.{ℕ, ◌≡◌, List, length}
use Rattle.system.specs.Numbers.{number_of, limit_number}
use Rattle.system.specs.declared.numbers.Limit.{Limit}
use Rattle.system.specs.declared.numbers.Verdict.TheVariants.{Taken}
use Rattle.system.specs.System.{head}
use Rattle.system.specs.Terms.{Whole}
use Rattle.reader.specs.Book.{system_of}
use Rattle.rewriting.specs.Anywhere.{AnySteps}
use Rattle.rewriting.specs.Evaluation.{Limits}
use Rattle.rewriting.specs.Stopped.{Stopped}
use Rattle.rewriting.specs.Trace.{Trace}
use Rattle.sorts.specs.Sorts.{Sorts, result_sort, SortedTerm}
use Rattle.sort_test.specs.SortTest.{PassedSorts}
use Rattle.evaluation.specs.Expansion.{Expansion, handed_back}

-- a term t that is whole and well-sorted, and has the sort of the term that was handed in, over the book's signature
pub record SameSort (book : List ℕ) (ks : Sorts) (term t : List ℕ) : Type 0 where
  pub whole : Whole (system_of book).arities t
  pub sorted : SortedTerm (system_of book).arities ks (result_sort (system_of book).arities ks (head term)) t

-- of an expansion x of a term, with these limits
pub record Kept (book : List ℕ) (ks : Sorts) (term : List ℕ) (limits : Limits) (x : Expansion) : Type 0 where
  -- "at every step": with any rule that matches, built-in ones too, at any position, active or not
  pub stays : (n : ℕ) (t : List ℕ) → AnySteps (system_of book) n term t → SameSort book ks term t
  -- so the term that is handed back
  pub handed : x.numbers.number ≡ number_of Taken → SameSort book ks term (handed_back x)
  -- and where a limit stops it (11, 12, 13, or 16 where a record is lent), the term to which the steps reported lead
  pub reached : (l : Limit) → x.numbers.number ≡ limit_number l →
      (h : Trace) × (d : Stopped (system_of book) limits term l h) × (x.numbers.steps ≡ length h) × SameSort book ks term d.last

-- "If all rules pass, a well-kinded cue ..": where the test passes book, term and list
abbrev pub IsKept : List ℕ → Sorts → List ℕ → Limits → Expansion → Type 0
IsKept book ks term limits x = PassedSorts book term ks → Kept book ks term limits x
