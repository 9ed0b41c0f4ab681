-- `sides::reduct_length` meets its contract. The loop's invariant: the total and the length of what is left of the side make the whole.
use mathlib.Core.Path.{◌≡◌}
use Prim.Native.Nat.{◌+◌, ◌*◌, ◌≤◌}
use lib.ListN.{drop}
use Rattle.system.specs.Limits.{variables}
use Rattle.matching.specs.rules.Searches.{reduct_length}
use Rattle.sides.proofs.sides.reduct_length.Given as goal

abbrev pub invariant-loop-w : goal.invariant-loop-w
invariant-loop-w l = (l.total ≤ l.w-index * 65535)
    × (l.total + reduct_length (drop variables l.bindings) (drop l.w-index l.side) ≡ reduct_length (drop variables l.bindings) l.side)
