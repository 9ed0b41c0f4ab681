-- `put_taken` meets its contract.
use mathlib.Core.List.{append_assoc}
use Rattle.check_book.specs.Verdict.{taken_line}
use Rattle.check_book.proofs.lines.put_taken.Goals as goal

pub returns-clause-whole : goal.returns-clause-whole
unfolding taken_line
returns-clause-whole g c = rw (c.put_line.ensures.whole, c.put_decimal.ensures.whole, c.put.ensures.whole) (simp append_assoc)
