-- `redexes::same_around` meets its contract.
use lib.ListN.{take, drop}
use Rattle.rows.specs.Rows.{term_in}
use Rattle.matching.proofs.SameWords.{SameTo}
use Rattle.redexes.proofs.search.same_around.Given as goal

abbrev pub invariant-loop-i : goal.invariant-loop-i
invariant-loop-i l = SameTo (take l.n (drop l.p (term_in l.area l.gap))) (take l.n (drop l.q (term_in l.area l.gap))) l.i
