-- `index::note_strategies` meets its contract. The loop's invariant: the strategies before this one are noted.
use Rattle.layout.proofs.index.Noting.{NotingStrategies}
use Rattle.layout.proofs.index.note_strategies.Given as goal

abbrev pub invariant-loop-f : goal.invariant-loop-f
invariant-loop-f l = (goal.iterator-loop-f).can_next l.f-iterator × (goal.iterator-loop-f).is_finite l.f-iterator
    × NotingStrategies l.book.words.now l.strategies l.f-iterator
