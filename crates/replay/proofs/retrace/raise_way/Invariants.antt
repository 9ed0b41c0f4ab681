-- `retrace::raise_way` meets its contract: a law of Raising (steps) at each place.
use Rattle.steps.proofs.steps.Raising.{Raising}
use Rattle.walks.specs.walk.Way.{way_in}
use Rattle.replay.proofs.retrace.raise_way.Given as goal

abbrev pub invariant-loop-j : goal.invariant-loop-j
invariant-loop-j l = Raising l.initial.area (way_in l.initial.area l.level) l.width l.size l.area l.j
