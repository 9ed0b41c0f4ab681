-- `walk::descend` meets its contract. The loop's invariant: the area holds the same term and a way to the finger, whose subterm holds q.
use Prim.Native.Nat.{◌-◌}
use mathlib.Core.Path.{◌≡◌}
use lib.ListN.{length}
use Rattle.reader.specs.Book.{system_of}
use Rattle.rows.specs.Rows.{term_in}
use Rattle.walks.specs.walk.Way.{Over}
use Rattle.walks.proofs.walk.descend.Given as goal

abbrev pub invariant-loop-f : goal.invariant-loop-f
invariant-loop-f l = Over (system_of l.index.book.words.now) (term_in l.initial.area l.initial.f.gap) l.area l.f l.q × (length l.area ≡ length l.initial.area)

abbrev pub decreases-loop-f : goal.decreases-loop-f
decreases-loop-f l = l.q - l.f.at
