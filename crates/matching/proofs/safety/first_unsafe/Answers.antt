use mathlib.Core.Logic.{inl}
use mathlib.Core.Path.{◌≡◌, sym, ap, ◌∙◌}
use borrow.Author.Rules.{rules}
use native.Mathlib.Omega.{arith}
use Rattle.std.specs.Iterator.Adapters.{enumerate_source, enumerate_count}
use Rattle.reader.specs.Book.{system_of}
use Rattle.system.specs.System.{strategy}
use Rattle.layout.proofs.strategies.Turns.{Turned, left-few, turned, ended}
use Rattle.matching.proofs.safety.SafetySteps.{test-starts, test-passes, test-fails, test-goes}
use Rattle.matching.proofs.safety.first_unsafe.Goals as goal
use Rattle.matching.proofs.safety.first_unsafe.Goals.{In-Some}

-- the strategy of this turn
here : (c : In-Some) → Turned c.args.book.now.words.now (enumerate_count c.loop-f.f-iterator) c.in-Some.strategy (enumerate_source c.next.new.self)
here c = turned c.loop-f.invariant.2.at c.in-Some.ensures.steps.0

-- ---- the goals

pub loop-f-init : goal.loop-f-init
loop-f-init c =
    let n = left-few (enumerate_source c.into_iter-f-iterator.result) in
    let z : enumerate_count c.into_iter-f-iterator.result ≡ 0 = cc in
    ((tt, tt, inl (omega arith)), tt, test-starts c.args.book.now.accepted (cc) (cc) (cc))

pub passes-requires : goal.passes-requires
passes-requires c =
    let h = here (goal.at.passes-requires c).In-Some in
    (h.entries ∙ ap (strategy (system_of c.args.book.now.words.now)) (sym c.in-Some.ensures.steps.1))

pub returns-then-not-passes : goal.returns-then-not-passes
returns-then-not-passes c =
    let h = here (goal.at.returns-then-not-passes c).In-Some in
    test-fails c.args.book.now.accepted c.loop-f.invariant.2 c.in-Some.ensures.steps.1 c.passes.ensures h.more c.if-not-passes.true

pub loop-f-preserved : goal.loop-f-preserved
loop-f-preserved c =
    let h = here (goal.at.loop-f-preserved c).In-Some in
    let e = c.in-Some.ensures.steps in
    (search rules, tt, test-goes c.args.book.now.accepted c.loop-f.invariant.2 e.1 c.passes.ensures h.goes e.2 c.if-not-passes.false)

pub returns : goal.returns
returns c = test-passes c.args.book.now.accepted c.loop-f.invariant.2 (ended c.loop-f.invariant.2.at c.in-None.ensures.steps.0.0)
