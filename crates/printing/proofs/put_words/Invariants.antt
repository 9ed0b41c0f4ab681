-- `put_words` meets its contract.
use Rattle.printing.proofs.Writing.{Lines}
use Rattle.printing.proofs.put_words.Given as goal

abbrev pub invariant-loop-w : goal.invariant-loop-w
invariant-loop-w l = Lines l.initial.text l.at l.ws l.end l.w-index l.text
