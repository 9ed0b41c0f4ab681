-- `put_order` meets its contract.
use Rattle.system.proofs.Taken.{number-taken, number-untaken}
use Rattle.check_book.proofs.lines.Rows.{order-passes, order-fails}
use Rattle.check_book.proofs.lines.put_order.Goals as goal

pub returns-then-is_taken : goal.returns-then-is_taken
returns-then-is_taken g c = rw c.put_line.ensures.whole (order-passes _ c.args.t (number-taken c.is_taken.ensures c.if-is_taken.true))

pub returns : goal.returns
returns g c = rw (c.put_place.ensures, c.put.ensures.whole) (order-fails _ c.args.t (number-untaken c.is_taken.ensures c.if-is_taken.false))
