-- The loop keeps: the words still to be read from here, with what is due and known, answer as the whole side does.
use Rattle.system.specs.Signature.{signature_of}
use Rattle.reader.specs.scan.Sections.{side_of}
use Rattle.reader.specs.Parser.{read_words}
use mathlib.Core.Bool.{true}
use lib.Dec.{eqb}
use lib.ListN.{length}
use Prim.Native.Nat.{◌+◌, ◌-◌, ◌*◌, ◌≤◌}
use mathlib.Core.Path.{◌≡◌}
use Rattle.reader.proofs.scan.sides.read_words.Given as goal

abbrev pub invariant-loop-j : goal.invariant-loop-j
invariant-loop-j l = (l.at + l.j ≤ length l.book) × (l.due ≤ 1 + 65535 * l.j) × (l.seen ≤ l.known + l.j) ×
    (side_of (read_words l.book (signature_of l.book) l.role (eqb l.j 0) (l.n - l.j) l.due l.seen (l.at + l.j)) ≡ side_of (read_words l.book (signature_of l.book) l.role true l.n 1 l.known l.at))
