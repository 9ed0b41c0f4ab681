-- `running::run_at` meets its contract. The loop's invariant: the area holds a state from which what is left to run is the run asked for, whatever
-- steps were taken before; the measure is the steps that are left.
use Prim.Native.Nat.{◌-◌}
use Rattle.reader.specs.Book.{system_of}
use Rattle.runs.proofs.running.Running.{Running}
use Rattle.runs.proofs.running.run_at.Given as goal

abbrev pub invariant-loop-redex : goal.invariant-loop-redex
invariant-loop-redex l = Running (system_of l.index.book.words.now)
    (record { from = l.from; ws = l.initial.area; frame = l.initial.frame; words = l.initial.«record» }) l.area l.frame l.«record» l.gap l.level l.steps

abbrev pub decreases-loop-redex : goal.decreases-loop-redex
decreases-loop-redex l = l.from.most - (l.steps - l.from.steps)
