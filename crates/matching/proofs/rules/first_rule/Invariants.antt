-- `rules::first_rule` meets its contract.
use lib.ListN.{length}
use Rattle.matching.proofs.rules.Finding.{Searched}
use Rattle.matching.proofs.rules.Searches.{Walked}
use Rattle.matching.proofs.rules.first_rule.Given as goal

abbrev pub invariant-words : goal.invariant-words
invariant-words l = Walked l.book.words.now l.ws l.number (length l.rule.lhs.now) l.word-index l.q l.starts l.lengths

abbrev pub invariant-rules : goal.invariant-rules
invariant-rules l = (goal.iterator-rules).can_next l.number-iterator × (goal.iterator-rules).is_finite l.number-iterator
    × Searched l.book.words.now l.ws l.found l.number-iterator
