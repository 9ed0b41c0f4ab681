-- `safety::first_unsafe` meets its contract. The loop's invariant: the symbols before this one pass.
use Rattle.matching.proofs.safety.SafetySteps.{Through}
use Rattle.matching.proofs.safety.first_unsafe.Given as goal

abbrev pub invariant-loop-f : goal.invariant-loop-f
invariant-loop-f l = (goal.iterator-loop-f).can_next l.f-iterator × (goal.iterator-loop-f).is_finite l.f-iterator × Through l.book.words.now l.f-iterator
