-- `put_heading` meets its contract.
use Rattle.printing.proofs.Writing.{written_page}
use Rattle.printing.proofs.Page.put_heading.Goals as goal

pub returns-clause-whole : goal.returns-clause-whole
returns-clause-whole g c = written_page c.put_heading-self-inside.ensures c.self.view_is
