-- `test_kinds` meets its contract.
use mathlib.Core.Path.{sym, ap, ◌∙◌, subst}
use Rattle.sort_test.specs.SortTest.{sorts_answer}
use Rattle.sort_test.specs.Tells.{TellsSorts}
use Rattle.sort_test.proofs.Tests.{sorts-tell}
use Rattle.sort_test.proofs.test_kinds.Goals as goal

pub returns : goal.returns
returns c =
    let a = c.args in
    let e = c.test.ensures ∙ ap (λ w. sorts_answer w.now c.args.term.now c.args.kinds.now) c.scan_book.ensures in
    record {
      tested = e;
      told = subst (TellsSorts a.book.now a.term.now a.kinds.now) (sym e) (sorts-tell a.book.now a.term.now a.kinds.now);
    }
