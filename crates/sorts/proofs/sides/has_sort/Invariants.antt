-- `sides::has_sort` meets its contract.
use Rattle.system.specs.Signature.{signature_of}
use Rattle.sorts.proofs.sides.Marking.{Marking}
use Rattle.sorts.proofs.sides.has_sort.Given as goal

abbrev pub invariant-loop-j : goal.invariant-loop-j
invariant-loop-j l = Marking (signature_of l.book) l.side l.j l.marks
