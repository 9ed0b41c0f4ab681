-- `expand_kinded_recorded` meets its contract.
use mathlib.Core.Path.{sym, ap, ◌∙◌, subst}
use Rattle.sort_test.specs.SortTest.{sorts_answer}
use Rattle.evaluation.specs.Expansion.{expansion, record_after}
use lib.ListN.{length}
use Rattle.rewriting.specs.Evaluation.{recorded}
use Rattle.keeping.specs.Kept.{IsKept}
use Rattle.keeping.proofs.Kept.{is-kept}
use Rattle.keeping.proofs.expand_kinded_recorded.Goals as goal

pub returns : goal.returns
returns c =
    let a = c.args in
    let ks = a.kinds.now in
    let v = a.term.now in
    let l = recorded a.limit (length a.«record».now) in
    let is = c.scan_book-s.ensures in
    let e = c.expand_within-answer.ensures.expanded ∙ ap (λ b. expansion b.now v l a.out.now a.work.now) is in
    let kept = subst (IsKept a.book.now ks v l) (sym e) (is-kept a.book.now ks v l a.out.now a.work.now) in
    record {
      tested = c.test-test.ensures ∙ ap (λ b. sorts_answer b.now v ks) is;
      expanded = e;
      told = c.expand_within-answer.ensures.told ∙ ap (λ b. record_after b.now v l a.out.now a.work.now a.«record».now) is;
      kept = kept;
    }
