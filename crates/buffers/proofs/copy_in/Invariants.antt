-- `copy_in` meets its contract. The loop's invariant: the words before this one are written.
use mathlib.Core.Path.{◌≡◌}
use Prim.Native.Nat.{◌≤◌}
use lib.ListN.{length, take}
use Rattle.buffers.specs.Words.{over}
use Rattle.buffers.proofs.copy_in.Given as goal

abbrev pub invariant-loop-i : goal.invariant-loop-i
invariant-loop-i l = (l.i ≤ length l.src) × (length l.w ≡ length l.initial.w) × (l.w ≡ over l.initial.w l.at (take l.i l.src))
