-- `walk::holder` meets its contract. The loop's invariant: q lies in the argument at `start`, or in one behind it.
use Prim.Native.Nat.{◌-◌}
use Rattle.reader.specs.Book.{system_of}
use Rattle.rows.specs.Rows.{term_in}
use Rattle.walks.proofs.walk.Hopping.{Hopping}
use Rattle.walks.proofs.walk.holder.Given as goal

abbrev pub invariant-loop-number : goal.invariant-loop-number
invariant-loop-number l = Hopping (system_of l.book.words.now) (term_in l.area l.gap) l.at l.q l.last l.number l.start

abbrev pub decreases-loop-number : goal.decreases-loop-number
decreases-loop-number l = l.last - l.number
