-- `put_fault` meets its contract.
use Rattle.check_book.specs.Verdict.{row}
use Rattle.check_book.proofs.lines.Rows.{refused}
use Rattle.check_book.proofs.lines.put_fault.Goals as goal

pub returns : goal.returns
returns g c =
    let r = c.args.r in
    rw (c.put_place.ensures, c.put-2.ensures.whole, c.put.ensures.whole, c.row.ensures.told.0, c.row.ensures.told.1)
    (refused _ "show.book: " (row r.fault) " at word " r.place)
