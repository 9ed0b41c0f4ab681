-- `walk::climb` meets its contract. The loop's invariant: the area holds a way to the finger, which goes up, for each system for which it did.
use Rattle.system.specs.System.{System}
use Rattle.system.specs.Terms.{WellFormed}
use Rattle.walks.specs.walk.Way.{PointsIn}
use Rattle.walks.proofs.walk.climb.Given as goal

abbrev pub invariant-loop-level : goal.invariant-loop-level
invariant-loop-level l = (s : System) → WellFormed s → PointsIn s l.area (record { gap = l.f.gap; level = l.f.level; at = l.initial.at })
    → PointsIn s l.area (record { gap = l.f.gap; level = l.level; at = l.at })

abbrev pub decreases-loop-level : goal.decreases-loop-level
decreases-loop-level l = l.level
