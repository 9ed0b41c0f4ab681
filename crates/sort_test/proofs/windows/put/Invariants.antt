-- `windows::put` meets its contract.
use Rattle.sort_test.proofs.windows.Putting.{Putting}
use Rattle.sort_test.proofs.windows.put.Given as goal

abbrev pub invariant-loop-j : goal.invariant-loop-j
invariant-loop-j l = Putting l.kinds l.low l.h l.k l.n l.initial.window l.j l.window
