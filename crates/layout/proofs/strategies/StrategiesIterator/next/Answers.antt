-- `next` of a walk over the strategies meets its contract.
use Prim.Native.Nat.{◌<◌, ◌≤◌}
use native.Mathlib.Omega.{arith}
use mathlib.Core.Path.{◌≡◌, refl, ap}
use lib.ListN.{length}
use Rattle.layout.proofs.strategies.Walks.{Walks, Steps, steps, step-room}
use Rattle.layout.proofs.strategies.StrategiesIterator.next.Goals as goal
use Rattle.layout.proofs.strategies.StrategiesIterator.next.Goals.{Start, After-wide}

room : (c : Start) → let s = c.args.self.now in (s.left ≡ 0 → ⊥) → (s.at < length s.book.words.now) × (length s.book.words.now ≤ 65535)
room c some =
    let s = c.args.self.now in
    let w : Walks s.book.words.now s.book.shape s.at s.left = record { accepted = s.book.accepted; within = s.within; stands = s.stands } in
    step-room w (omega arith)

here : (c : After-wide) → let s = c.args.self.now in Steps s.book.words.now s.book.shape s.at s.left c.wide.result
here c =
    let s = c.args.self.now in
    let w : Walks s.book.words.now s.book.shape s.at s.left = record { accepted = s.book.accepted; within = s.within; stands = s.stands } in
    steps w (omega arith) c.wide.ensures.0

pub overflow_add-first : goal.overflow_add-first
overflow_add-first c = let r = room (goal.at.overflow_add-first c).Start c.if-self-eq0.false in omega arith

pub offset_bounds-words-at : goal.offset_bounds-words-at
offset_bounds-words-at c = let r = room (goal.at.offset_bounds-words-at c).Start c.if-self-eq0.false in omega arith

pub bounds-words-at : goal.bounds-words-at
bounds-words-at c = (room (goal.at.bounds-words-at c).Start c.if-self-eq0.false).0

pub overflow_add-end : goal.overflow_add-end
overflow_add-end c = let z = here (goal.at.overflow_add-end c).After-wide in omega arith

pub slice_bounds-entries-end : goal.slice_bounds-entries-end
slice_bounds-entries-end c = let z = here (goal.at.slice_bounds-entries-end c).After-wide in omega arith

pub invariant_of-self : goal.invariant_of-self
invariant_of-self c =
    let w = (here (goal.at.invariant_of-self c).After-wide).goes in
    record { within = w.within; stands = w.stands }

pub invariant_of-result : goal.invariant_of-result
invariant_of-result c = record { inside = (here (goal.at.invariant_of-result c).After-wide).inside }

pub returns-clause-steps : goal.returns-clause-steps
returns-clause-steps c = ((here (goal.at.returns-clause-steps c).After-wide).first, refl, refl)

pub returns-clause-goes : goal.returns-clause-goes
returns-clause-goes c =
    let z = ap length (here (goal.at.returns-clause-goes c).After-wide).first in
    record { on = λ h. (tt, tt, omega (arith, z)); keeps = tt; rests = λ h. tt }
