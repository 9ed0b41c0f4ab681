-- `windows::pass` meets its contract.
use Rattle.system.specs.Signature.{signature_of}
use Rattle.sort_test.proofs.windows.TermSteps.{Passing}
use Rattle.sort_test.proofs.windows.pass.Given as goal

abbrev pub invariant-loop-w : goal.invariant-loop-w
invariant-loop-w l = Passing (signature_of l.book) l.kinds l.term l.low l.window l.due l.w-index
