-- `listed::rules_of` meets its contract.
use Rattle.layout.proofs.listed.Walks.{walk-starts}
use Rattle.layout.proofs.listed.rules_of.Goals as goal

pub invariant_of-result : goal.invariant_of-result
invariant_of-result c = let w = walk-starts c.args.book.now.accepted in record { within = w.within; stands = w.stands }
