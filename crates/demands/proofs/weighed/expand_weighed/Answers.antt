-- `weighed::expand_weighed` meets its contract.
use mathlib.Core.Path.{sym, ap, ◌∙◌, subst}
use Rattle.termination.specs.WeightTest.{weights_answer}
use Rattle.evaluation.specs.Expansion.{expansion}
use Rattle.rewriting.specs.Evaluation.{unrecorded}
use Rattle.demands.specs.Finite.{IsFinite}
use Rattle.demands.proofs.Finite.{is_finite}
use Rattle.demands.proofs.weighed.expand_weighed.Goals as goal

pub returns : goal.returns
returns c =
    let a = c.args in
    let m = a.weights.now in
    let v = a.term.now in
    let l = unrecorded a.limit in
    let is = c.scan_book-s.ensures in
    let e = c.expand_scanned-answer.ensures ∙ ap (λ b. expansion b.now v l a.out.now a.work.now) is in
    let finite = subst (IsFinite a.book.now m v l) (sym e) (is_finite a.book.now m v l a.out.now a.work.now) in
    record {
      tested = c.test-test.ensures ∙ ap (λ b. weights_answer b.now m) is;
      expanded = e;
      finite = finite;
    }
