-- The loop keeps: the words passed and the span of what is still due make the whole span.
use Rattle.system.specs.Signature.{signature_of}
use Rattle.system.specs.Signature.{span}
use lib.ListN.{length, drop}
use Prim.Native.Nat.{◌+◌, ◌≤◌}
use mathlib.Core.Path.{◌≡◌}
use Rattle.system.proofs.words.spans.Given as goal

abbrev pub invariant-loop-i : goal.invariant-loop-i
invariant-loop-i l = (l.i ≤ length l.ws) × (l.i + span (signature_of l.book) (drop l.i l.ws) l.due ≡ span (signature_of l.book) l.ws l.k)
