-- `test_strategies` meets its contract.
use mathlib.Core.Path.{sym, ap, ◌∙◌, subst}
use Rattle.matching.specs.Safety.{Tells}
use Rattle.matching.specs.StrategyTest.{test_answer}
use Rattle.matching.proofs.Tests.{test-tells}
use Rattle.matching.proofs.test_strategies.Goals as goal

pub returns : goal.returns
returns c =
    let b = c.args.book.now in
    let e = c.test.ensures ∙ ap (λ w. test_answer w.now) c.scan_book.ensures in
    record {
      tested = e;
      told = subst (Tells b) (sym e) (test-tells b);
    }
