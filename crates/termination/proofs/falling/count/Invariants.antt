-- `falling::count` meets its contract.
use lib.ListN.{take}
use Rattle.termination.specs.falling.Counts.{Counts}
use Rattle.termination.proofs.falling.count.Given as goal

abbrev pub invariant-loop-w : goal.invariant-loop-w
invariant-loop-w l = Counts (take l.w-index l.words) l.counts
