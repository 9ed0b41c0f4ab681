-- `sides::offset` meets its contract.
use Rattle.std.proofs.Common.{◌≡◌, ◌*◌, ◌≤◌}
use Rattle.system.specs.Signature.{signature_of}
use Rattle.sorts.specs.Sorts.{offset}
use Rattle.sorts.proofs.sides.offset.Given as goal

abbrev pub invariant-loop-j : goal.invariant-loop-j
invariant-loop-j l = (l.o ≡ offset (signature_of l.book) l.j) × (l.o ≤ l.j * 65536)
