-- Kinds (02, F-8) in the evaluator's own answers, which its contract gives as `expansion`.
use Prim.Native.Nat.{ℕ}
use mathlib.Core.List.{List}
use Rattle.system.specs.System.{System, head}
use Rattle.system.specs.Terms.{Whole, WellFormed}
use Rattle.reader.specs.Book.{system_of}
use Rattle.reader.proofs.Accepts.{accepts}
use Rattle.rewriting.specs.Anywhere.{AnySteps}
use Rattle.rewriting.specs.Evaluation.{Limits}
use Rattle.rewriting.specs.Rewriting.{Steps}
use Rattle.rewriting.proofs.Contexts.{anywhere-whole}
use Rattle.rewriting.proofs.Done.{path-steps}
use Rattle.sorts.specs.Sorts.{Sorts, result_sort}
use Rattle.sorts.proofs.Kept.{steps-keep, anywhere-keeps}
use Rattle.sort_test.specs.SortTest.{PassedSorts}
use Rattle.sort_test.specs.Tells.{SortedBook, WellSortedTerm}
use Rattle.sort_test.proofs.Tests.{passed-sorts}
use Rattle.evaluation.specs.Expansion.{expansion}
use Rattle.demands.proofs.Demand3.{is-done}
use Rattle.demands.proofs.Stopped.{is-stopped}
use Rattle.keeping.specs.Kept.{SameSort, IsKept}

module _ (book : List ℕ) (ks : Sorts) (term : List ℕ) (p : PassedSorts book term ks) where
  abbrev s : System
  s = system_of book

  abbrev passed : SortedBook book ks × WellSortedTerm book term ks
  passed = passed-sorts book term ks p

  well : WellFormed s
  well = ((accepts book s).0 passed.0.accepted).0

  abbrev sort : ℕ
  sort = result_sort s.arities ks (head term)

  -- steps from a term that passed, the evaluator's or any, lead to one of its sort
  steps-same : {size n : ℕ} {t : List ℕ} → Whole s.arities t → Steps s size n term t → SameSort book ks term t
  steps-same h path = record { whole = h; sorted = steps-keep s well ks passed.0.rules sort passed.1.whole path passed.1.sorted }

  any_same : (n : ℕ) (t : List ℕ) → AnySteps s n term t → SameSort book ks term t
  any_same n t path = record {
    whole = anywhere-whole s well passed.1.whole path;
    sorted = anywhere-keeps s well ks passed.0.rules sort path passed.1.sorted;
  }

-- KEPT, of every book, list, term, limits and buffers
pub is-kept : (book : List ℕ) (ks : Sorts) (term : List ℕ) (limits : Limits) (out work : List ℕ) → IsKept book ks term limits (expansion book term limits out work)
is-kept book ks term limits out work p = record {
  stays = any_same book ks term p;
  handed = λ z. let d = (is-done book term limits out work z).1 in steps-same book ks term p d.whole d.path;
  reached = λ l z.
      let d = is-stopped book term limits out work l z in
      (d.0, d.1, d.2, steps-same book ks term p d.1.whole (path-steps (system_of book) d.1.path));
}
