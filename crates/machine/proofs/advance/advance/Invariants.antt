-- The places of `machine::advance`: its loop's invariant and measure, and at each place what the generated record there tells, in our terms.
-- The invariant: the area holds a state of the same term from which the machine comes to the same place, and the entries that were followed
-- lead to no rewrite. The measure: the transitions that are left.
use mathlib.Core.Path.{◌≡◌}
use lib.ListN.{length}
use Rattle.machine.specs.advance.Area.{base_of}
use Rattle.reader.specs.Book.{system_of}
use Rattle.machine.proofs.advance.Rounds.{remaining_in, Advancing}
use Rattle.reader.specs.Book.{system_of}
use Rattle.machine.specs.advance.Area.{base_of}
use Rattle.machine.proofs.advance.advance.Given as goal

abbrev pub invariant-loop-at : goal.invariant-loop-at
invariant-loop-at l = Advancing (system_of l.index.book.words.now) (record { gap = l.gap; level = l.initial.level }) (base_of l.initial.frame) l.initial.area l.area l.frame l.level l.floor l.since ×
    (length l.area ≡ length l.initial.area) × (length l.frame ≡ length l.initial.frame)

abbrev pub decreases-loop-at : goal.decreases-loop-at
decreases-loop-at l = remaining_in (system_of l.index.book.words.now) l.area l.gap (base_of l.initial.frame) l.level
