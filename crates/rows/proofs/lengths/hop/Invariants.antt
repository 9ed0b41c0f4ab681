-- `lengths::hop` meets its contract. The loop's invariant: the subterms that are left end where all of them do.
use Rattle.rows.proofs.lengths.Hops.{Hopping}
use Rattle.rows.proofs.lengths.hop.Given as goal

abbrev pub invariant-loop : goal.invariant-loop
invariant-loop l = Hopping l.area l.gap l.from l.k l.at l.counter
