-- The loop keeps: the check of the words from i on, with what is due, finds what that of the whole term does.
use Rattle.system.specs.Limits.{term_words}
use Rattle.system.specs.Signature.{signature_of}
use Rattle.system.specs.TermCheck.{term_fault}
use lib.ListN.{drop}
use Prim.Native.Nat.{◌+◌, ◌*◌, ◌≤◌}
use mathlib.Core.Path.{◌≡◌}
use Rattle.terms.proofs.checking.first_break.Given as goal

abbrev pub invariant-loop-i : goal.invariant-loop-i
invariant-loop-i l = (l.i ≤ term_words) × (l.due ≤ 1 + 65535 * l.i)
    × (term_fault (signature_of l.book) l.due (drop l.i l.term) l.i ≡ term_fault (signature_of l.book) 1 l.term 0)
