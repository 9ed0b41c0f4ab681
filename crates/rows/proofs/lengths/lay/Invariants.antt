-- `lengths::lay` meets its contract. The loop's invariant: all words of the term but those that are left are written.
use Rattle.system.specs.Signature.{signature_of}
use Rattle.rows.proofs.lengths.Pushes.{Pushing}
use Rattle.rows.proofs.lengths.lay.Given as goal

abbrev pub invariant-loop-w : goal.invariant-loop-w
invariant-loop-w l = Pushing (signature_of l.book) l.initial.area l.term l.w-iterator.iter.rest.now l.area l.at
