-- `safety::closes` meets its contract. The loop's invariant: whether the strategy closes is whether the entries that are left do.
use mathlib.Core.Path.{◌≡◌}
use Rattle.std.specs.Iterator.Adapters.{rev_source}
use Rattle.std.specs.Slice.Iter.{iter_rest}
use Rattle.matching.specs.StrategyTest.{idle_test, closes}
use Rattle.reader.specs.Book.{system_of}
use Rattle.matching.proofs.safety.closes.Given as goal

abbrev pub invariant-loop-e : goal.invariant-loop-e
invariant-loop-e l = (goal.iterator-loop-e).can_next l.e-iterator × (goal.iterator-loop-e).is_finite l.e-iterator
    × (closes (idle_test (system_of l.book.words.now) l.f) (iter_rest (rev_source l.e-iterator)) ≡ closes (idle_test (system_of l.book.words.now) l.f) l.entries)
