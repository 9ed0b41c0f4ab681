-- The loop keeps: the rules still to be read from here answer as all of them do from the start.
use Rattle.system.specs.Signature.{signature_of}
use Rattle.reader.specs.scan.Sections.{section_of}
use Rattle.reader.specs.Parser.{times, read_rule}
use lib.ListN.{length}
use Prim.Native.Nat.{◌+◌, ◌-◌, ◌≤◌}
use mathlib.Core.Path.{◌≡◌}
use Rattle.reader.proofs.scan.sections.read_rules.Given as goal

abbrev pub invariant-loop : goal.invariant-loop
invariant-loop l = (l.end ≤ length l.book)
    × (section_of (times (l.n - l.counter) (read_rule l.book (signature_of l.book)) l.end) ≡ section_of (times l.n (read_rule l.book (signature_of l.book)) (l.at + 1)))
