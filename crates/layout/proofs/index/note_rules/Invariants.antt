-- `index::note_rules` meets its contract. The loop's invariant: the rules before this one are noted.
use Rattle.layout.proofs.index.Noting.{NotingRules}
use Rattle.layout.proofs.index.note_rules.Given as goal

abbrev pub invariant-loop-k : goal.invariant-loop-k
invariant-loop-k l = (goal.iterator-loop-k).can_next l.k-iterator × (goal.iterator-loop-k).is_finite l.k-iterator
    × NotingRules l.book.words.now l.rules l.k-iterator
