-- `sides::check` meets its contract: by recursion, the words left of a side falling.
use Prim.Native.Nat.{◌-◌}
use Rattle.system.specs.Limits.{side_words}
use Rattle.sorts.proofs.sides.SideSteps.{Loop}
use Rattle.sorts.proofs.sides.+check.Given as goal

-- the words of the side from `at` on
abbrev pub decreases-check : goal.decreases-check
decreases-check l = side_words - l.at

abbrev pub invariant-loop-due : goal.invariant-loop-due
invariant-loop-due l = Loop l.kinds l.marks l.initial.vars l.at l.k l.n l.p l.i l.due l.vars

abbrev pub decreases-loop-due : goal.decreases-loop-due
decreases-loop-due l = side_words - l.p
