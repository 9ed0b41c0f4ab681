-- `weighing::weigh` meets its contract.
use Prim.Native.Nat.{◌+◌, ◌≤◌}
use mathlib.Core.Path.{◌≡◌}
use lib.ListN.{drop}
use Rattle.system.specs.Limits.{max_steps}
use Rattle.termination.specs.Weights.{weight}
use Rattle.termination.proofs.weighing.weigh.Given as goal

abbrev pub invariant-loop-w : goal.invariant-loop-w
invariant-loop-w l = (l.sum ≤ max_steps) × (l.sum + weight l.weights (drop l.w-index l.words) ≡ weight l.weights l.words)
