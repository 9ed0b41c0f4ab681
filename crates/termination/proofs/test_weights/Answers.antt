-- `test_weights` meets its contract.
use mathlib.Core.Path.{sym, ap, ◌∙◌, subst}
use Rattle.termination.specs.WeightTest.{weights_answer}
use Rattle.termination.specs.Tells.{TellsWeights}
use Rattle.termination.proofs.Tests.{weights-tell}
use Rattle.termination.proofs.test_weights.Goals as goal

pub returns : goal.returns
returns c =
    let a = c.args in
    let e = c.test.ensures ∙ ap (λ w. weights_answer w.now c.args.weights.now) c.scan_book.ensures in
    record {
      tested = e;
      told = subst (TellsWeights a.book.now a.weights.now) (sym e) (weights-tell a.book.now a.weights.now);
    }
