-- `redexes::first_redex` meets its contract.
use Prim.Native.Nat.{◌+◌}
use lib.ListN.{length, drop}
use Rattle.rows.specs.Rows.{term_in}
use Rattle.redexes.proofs.search.Tries.{Searching, Trying, rules_left}
use Rattle.redexes.proofs.search.first_redex.Given as goal

abbrev pub invariant-words : goal.invariant-words
invariant-words l = Trying l.index.book.words.now (term_in l.area l.spot.gap) l.p l.number (length l.l-items + 1) l.bindings (l.l-index + 1) l.q

abbrev pub invariant-rules : goal.invariant-rules
invariant-rules l = Searching l.index.book.words.now l.index.book.shape (drop l.p (term_in l.area l.spot.gap)) l.bindings l.found l.next

abbrev pub decreases-rules : goal.decreases-rules
decreases-rules l = rules_left l.index.book.shape.rules l.next
