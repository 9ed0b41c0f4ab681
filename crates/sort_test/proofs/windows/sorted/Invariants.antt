-- `windows::sorted` meets its contract.
use Prim.Native.Nat.{◌-◌}
use lib.ListN.{length}
use Rattle.system.specs.Signature.{signature_of}
use Rattle.sort_test.proofs.windows.TermSteps.{Passes}
use Rattle.sort_test.proofs.windows.sorted.Given as goal

abbrev pub invariant-loop-low : goal.invariant-loop-low
invariant-loop-low l = Passes (signature_of l.book) l.kinds l.term l.low

abbrev pub decreases-loop-low : goal.decreases-loop-low
decreases-loop-low l = length l.term - l.low
