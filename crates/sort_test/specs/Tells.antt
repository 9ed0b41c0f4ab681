-- What the sort test tells of a book, a term and a list of sorts.
use Rattle.std.specs.Prelude.{ℕ, ◌≤◌, ◌≡◌, ◌↔◌, true, false, List, length}
use Rattle.std.proofs.Math.Option.{some}
use Rattle.system.specs.declared.Answer.{Answer}
use Rattle.system.specs.Limits.{term_words}
use Rattle.system.specs.declared.numbers.Fault.{Fault}
use Rattle.system.specs.declared.numbers.Verdict.TheVariants.{Broken, IllRule}
use Rattle.system.specs.System.{head}
use Rattle.system.specs.Terms.{Whole}
use Rattle.system.specs.TermCheck.{term_fault}
use Rattle.reader.specs.Book.{system_of}
use Rattle.reader.specs.Parser.{ok, fault, read}
use Rattle.reader.specs.Answers.{answer_of}
use Rattle.sorts.specs.Sorts.{Sorts, result_sort, SortedTerm, WellSorted, IllFirst, Lists}
use Rattle.sort_test.specs.SortTest.{answer_with, missorted_answer, sorted_answer}

-- of a book: it is accepted, and the list is not one of sorts for it
pub record MissortedBook (b : List ℕ) (ks : Sorts) : Type 0 where
  pub accepted : read b ≡ ok (system_of b) (length b)
  pub missorted : Lists ks (system_of b).arities → ⊥

-- or it is, and rule k is the lowest that fails
pub record IllBook (b : List ℕ) (ks : Sorts) (k : ℕ) : Type 0 where
  pub accepted : read b ≡ ok (system_of b) (length b)
  pub lists : Lists ks (system_of b).arities
  pub first : IllFirst ks (system_of b) k

-- or all rules pass
pub record SortedBook (b : List ℕ) (ks : Sorts) : Type 0 where
  pub accepted : read b ≡ ok (system_of b) (length b)
  pub lists : Lists ks (system_of b).arities
  pub rules : WellSorted ks (system_of b)

-- of the term: it is whole, and well-sorted, or of no sort
pub record WellSortedTerm (b t : List ℕ) (ks : Sorts) : Type 0 where
  pub whole : Whole (system_of b).arities t
  pub bounded : length t ≤ term_words
  pub sorted : SortedTerm (system_of b).arities ks (result_sort (system_of b).arities ks (head t)) t

pub record IllTerm (b t : List ℕ) (ks : Sorts) : Type 0 where
  pub whole : Whole (system_of b).arities t
  pub bounded : length t ≤ term_words
  pub ill : (e : ℕ) → SortedTerm (system_of b).arities ks e t → ⊥

-- what the test's answer tells
pub record TellsSorts (b t : List ℕ) (ks : Sorts) (r : Answer) : Type 0 where
  -- a book that the reader refuses gets the reader's answer
  pub refused : (f : Fault) (i : ℕ) → read b ≡ fault f i → r ≡ answer_of (fault f i)
  -- 20 exactly for an accepted book and what is not a list of sorts for it
  pub missorted : (r ≡ missorted_answer) ↔ MissortedBook b ks
  -- 21 at k exactly if k is "the lowest rule that fails"
  pub ill : (k : ℕ) → (r ≡ answer_with IllRule k) ↔ IllBook b ks k
  -- 9 at i exactly if all rules pass and the term is broken there
  pub breaks : (i : ℕ) → (r ≡ answer_with Broken i) ↔ (SortedBook b ks × (term_fault (system_of b).arities 1 t 0 ≡ some i))
  -- 22 exactly if all rules pass and the term is whole, but not well-sorted
  pub ill_sorted : (r ≡ sorted_answer false) ↔ (SortedBook b ks × IllTerm b t ks)
  -- 0 exactly if all rules pass and the term is whole and well-sorted
  pub sorted : (r ≡ sorted_answer true) ↔ (SortedBook b ks × WellSortedTerm b t ks)
