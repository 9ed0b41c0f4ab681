use Prim.Native.Nat.{◌<◌}
use native.Mathlib.Omega.{arith}
use borrow.Author.Rules.{rules}
use mathlib.Core.Logic.{inl}
use mathlib.Core.Path.{◌≡◌}
use lib.ListN.{length}
use Rattle.std.specs.Iterator.Adapters.{enumerate_source, enumerate_count}
use Rattle.layout.proofs.index.Noting.{strategies-start, strategy-slot, strategies-next, strategies-end}
use Rattle.layout.proofs.strategies.Turns.{Turned, left-few, turned, ended}
use Rattle.layout.proofs.index.note_strategies.Goals as goal
use Rattle.layout.proofs.index.note_strategies.Goals.{In-Some}

-- the strategy of this turn
here : (c : In-Some) → Turned c.args.book.now.words.now (enumerate_count c.loop-f.f-iterator) c.in-Some.strategy (enumerate_source c.next.new.self)
here c = turned c.loop-f.invariant.2.at c.in-Some.ensures.steps.0

slot : (c : In-Some) → c.in-Some.f < length c.loop-f.strategies
slot c = strategy-slot c.args.book.now.accepted c.loop-f.invariant.2 c.in-Some.ensures.steps.1 (here c)

-- ---- the goals

pub loop-f-init : goal.loop-f-init
loop-f-init c =
    let n = left-few (enumerate_source c.into_iter-f-iterator.result) in
    let z : enumerate_count c.into_iter-f-iterator.result ≡ 0 = cc in
    ((tt, tt, inl (omega arith)), tt, strategies-start c.args.book.now.accepted (search) (cc) (cc) (cc))

pub offset_bounds-strategies-f : goal.offset_bounds-strategies-f
offset_bounds-strategies-f c = let r = slot (goal.at.offset_bounds-strategies-f c).In-Some in omega arith

pub bounds-strategies-f : goal.bounds-strategies-f
bounds-strategies-f c = let r = slot (goal.at.bounds-strategies-f c).In-Some in omega arith

pub loop-f-preserved : goal.loop-f-preserved
loop-f-preserved c =
    let e = c.in-Some.ensures.steps in
    let h = here (goal.at.loop-f-preserved c).In-Some in
    (search rules, tt, strategies-next c.args.book.now.accepted c.loop-f.invariant.2 e.1 e.2 h)

pub returns : goal.returns
returns c = strategies-end c.args.book.now.accepted c.loop-f.invariant.2 (ended c.loop-f.invariant.2.at c.in-None.ensures.steps.0.0)
