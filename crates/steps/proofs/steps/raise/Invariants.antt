-- `steps::raise` meets its contract: a law of Raising at each place.
use Rattle.steps.proofs.steps.Raising.{Raising}
use Rattle.steps.proofs.steps.raise.Given as goal

abbrev pub invariant-loop-q : goal.invariant-loop-q
invariant-loop-q l = Raising l.initial.area l.way l.width l.size l.area l.q-index
