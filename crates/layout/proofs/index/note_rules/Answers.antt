use Prim.Native.Nat.{◌<◌}
use native.Mathlib.Omega.{arith}
use borrow.Author.Rules.{rules}
use mathlib.Core.Logic.{inl}
use mathlib.Core.Path.{◌≡◌}
use lib.ListN.{length}
use Rattle.std.specs.Iterator.Adapters.{enumerate_source, enumerate_count}
use Rattle.layout.proofs.index.Noting.{rules-start, rule-slot, rules-next, rules-end}
use Rattle.layout.proofs.listed.Turns.{Turned, left-few, turned, ended}
use Rattle.layout.proofs.index.note_rules.Goals as goal
use Rattle.layout.proofs.index.note_rules.Goals.{In-Some}

-- the rule of this turn
here : (c : In-Some) → Turned c.args.book.now.words.now (enumerate_count c.loop-k.k-iterator) c.in-Some.rule (enumerate_source c.next.new.self)
here c = turned c.loop-k.invariant.2.at c.in-Some.ensures.steps.0

slot : (c : In-Some) → c.in-Some.k < length c.loop-k.rules
slot c = rule-slot c.args.book.now.accepted c.loop-k.invariant.2 c.in-Some.ensures.steps.1 (here c)

-- ---- the goals

pub loop-k-init : goal.loop-k-init
loop-k-init c =
    let n = left-few (enumerate_source c.into_iter-k-iterator.result) in
    let z : enumerate_count c.into_iter-k-iterator.result ≡ 0 = cc in
    ((tt, tt, inl (omega arith)), tt, rules-start c.args.book.now.accepted (search) (cc) (cc) (cc))

pub offset_bounds-rules-k : goal.offset_bounds-rules-k
offset_bounds-rules-k c = let r = slot (goal.at.offset_bounds-rules-k c).In-Some in omega arith

pub bounds-rules-k : goal.bounds-rules-k
bounds-rules-k c = let r = slot (goal.at.bounds-rules-k c).In-Some in omega arith

pub loop-k-preserved : goal.loop-k-preserved
loop-k-preserved c =
    let e = c.in-Some.ensures.steps in
    let h = here (goal.at.loop-k-preserved c).In-Some in
    (search rules, tt, rules-next c.args.book.now.accepted c.loop-k.invariant.2 e.1 e.2 h)

pub returns : goal.returns
returns c = rules-end c.args.book.now.accepted c.loop-k.invariant.2 (ended c.loop-k.invariant.2.at c.in-None.ensures.steps.0.0)
