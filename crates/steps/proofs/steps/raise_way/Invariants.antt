-- `steps::raise_way` meets its contract: a law of Raising at each place.
use Rattle.steps.proofs.steps.Raising.{Raising}
use Rattle.steps.specs.steps.Raised.{way_in}
use Rattle.steps.proofs.steps.raise_way.Given as goal

abbrev pub invariant-loop-k : goal.invariant-loop-k
invariant-loop-k l = Raising l.initial.area (way_in l.initial.area l.n) l.width l.size l.area l.k
