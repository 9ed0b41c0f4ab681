-- The loop keeps: the numbers still to be read from here answer as all of them do from the start.
use Rattle.reader.specs.scan.Sections.{section_of}
use Rattle.reader.specs.Parser.{times, number}
use lib.ListN.{length}
use Prim.Native.Nat.{◌+◌, ◌-◌, ◌≤◌}
use mathlib.Core.Path.{◌≡◌}
use Rattle.reader.proofs.scan.numbers.read_numbers.Given as goal

abbrev pub invariant-loop-i : goal.invariant-loop-i
invariant-loop-i l = (l.i ≤ length l.book) × (section_of (times (l.at + l.n - l.i) (number l.book l.otherwise 0 l.high) l.i) ≡ section_of (times l.n (number l.book l.otherwise 0 l.high) l.at))
