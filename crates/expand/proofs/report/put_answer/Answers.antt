-- `put_answer` meets its contract.
use native.Mathlib.Omega.{arith}
use lib.ListN.{length-take}
use Rattle.std.proofs.Common.{rules}
use Rattle.system.proofs.Taken.{number-taken, number-untaken}
use Rattle.expand.proofs.report.Reports.{answer-words, answer-refused}
use Rattle.expand.proofs.report.put_answer.Goals as goal

pub put_words-requires : goal.put_words-requires
put_words-requires g c =
    let t = length-take c.args.a.place c.args.out.now in
    (search rules, omega (arith, c.put_numbers.ensures.short, c.requires.small, c.requires.room))

pub returns-then-is_taken : goal.returns-then-is_taken
returns-then-is_taken g c =
    rw (c.put_words.ensures, c.put_numbers.ensures.whole, c.put_heading.ensures.whole) (answer-words _ c.args.out.now c.args.a (number-taken c.is_taken.ensures c.if-is_taken.true))

pub returns-else-is_taken : goal.returns-else-is_taken
returns-else-is_taken g c =
    rw (c.put_numbers.ensures.whole, c.put_heading.ensures.whole) (answer-refused _ c.args.out.now c.args.a (number-untaken c.is_taken.ensures c.if-is_taken.false))
