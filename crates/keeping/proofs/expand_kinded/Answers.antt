-- `expand_kinded` meets its contract.
use mathlib.Core.Path.{sym, ap, ◌∙◌, subst}
use Rattle.sort_test.specs.SortTest.{sorts_answer}
use Rattle.evaluation.specs.Expansion.{expansion}
use Rattle.rewriting.specs.Evaluation.{unrecorded}
use Rattle.keeping.specs.Kept.{IsKept}
use Rattle.keeping.proofs.Kept.{is-kept}
use Rattle.keeping.proofs.expand_kinded.Goals as goal

pub returns : goal.returns
returns c =
    let a = c.args in
    let ks = a.kinds.now in
    let v = a.term.now in
    let l = unrecorded a.limit in
    let is = c.scan_book-s.ensures in
    let e = c.expand_scanned-answer.ensures ∙ ap (λ b. expansion b.now v l a.out.now a.work.now) is in
    let kept = subst (IsKept a.book.now ks v l) (sym e) (is-kept a.book.now ks v l a.out.now a.work.now) in
    record {
      tested = c.test-test.ensures ∙ ap (λ b. sorts_answer b.now v ks) is;
      expanded = e;
      kept = kept;
    }
