-- `put_line` meets its contract.
use Rattle.printing.proofs.Writing.{written_then}
use Rattle.printing.proofs.put_line.Goals as goal

pub returns : goal.returns
returns c = written_then c.put-end.ensures c.put.ensures
