-- `check_words` meets its contract.
use mathlib.Core.Path.{ap, ◌∙◌}
use Rattle.reader.proofs.scan.Outcomes.{scan-refused, scan-accepted}
use Rattle.matching.specs.StrategyTest.{test_answer}
use Rattle.check_book.proofs.report.Telling.{by-fault, by-test}
use Rattle.check_book.proofs.report.check_words.Goals as goal

pub returns-in-Err : goal.returns-in-Err
returns-in-Err g c =
    let s = c.scan_book-s in
    rw c.put_fault.ensures (by-fault _ c.args.book.now (scan-refused s.result s.ensures c.in-Err.is))

pub returns : goal.returns
returns g c =
    let s = c.scan_book-s in
    rw (c.put_order.ensures, c.put_taken.ensures.whole)
    (by-test _ c.args.book.now (scan-accepted s.result s.ensures c.in_default.is) (c.test.ensures ∙ ap (λ b. test_answer b.now) s.ensures))
