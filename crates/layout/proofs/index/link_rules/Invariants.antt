-- `index::link_rules` meets its contract. The loop's invariant: the rules from number k on are in the lists.
use Rattle.layout.proofs.index.Noting.{Linking}
use Rattle.layout.proofs.index.link_rules.Given as goal

abbrev pub invariant-loop-k : goal.invariant-loop-k
invariant-loop-k l = Linking l.book.words.now l.firsts l.nexts l.k
