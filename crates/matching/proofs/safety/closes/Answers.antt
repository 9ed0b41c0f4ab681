use Prim.Native.Nat.{◌-◌}
use mathlib.Core.Path.{◌≡◌, sym, ap, ◌∙◌}
use Rattle.std.proofs.lemmas.List.{nil_from_length}
use Rattle.std.specs.Iterator.Adapters.{rev_source}
use Rattle.std.specs.Slice.Iter.{iter_rest}
use Rattle.matching.specs.StrategyTest.{idle_test, closes}
use Rattle.matching.proofs.safety.SafetySteps.{look-ends, look-zero, look-busy, look-idle}
use Rattle.reader.specs.Book.{system_of}
use Rattle.matching.proofs.safety.closes.Goals as goal

-- ---- the goals

pub loop-e-init : goal.loop-e-init
loop-e-init c =
    let e : iter_rest (rev_source c.into_iter-e-iterator.result) ≡ c.args.entries.now = cc in
    (tt, tt, ap (closes (idle_test (system_of c.args.book.now.words.now) c.args.f)) e)

pub returns-then-e-eq0 : goal.returns-then-e-eq0
returns-then-e-eq0 c =
    let test = idle_test (system_of c.args.book.now.words.now) c.args.f in
    sym (look-zero test (iter_rest (rev_source c.next.new.self)) c.in-Some.ensures.steps (sym c.from-e.ensures ∙ c.if-e-eq0.true)) ∙ c.loop-e.invariant.2

pub returns-then-not-idle : goal.returns-then-not-idle
returns-then-not-idle c =
    let test = idle_test (system_of c.args.book.now.words.now) c.args.f in
    let is = c.from-e.ensures in
    sym (look-busy test (iter_rest (rev_source c.next.new.self)) c.in-Some.ensures.steps (λ z. c.if-e-eq0.false (is ∙ z))
    (ap (λ n. test (n - 1)) (sym is) ∙ sym c.idle.ensures ∙ c.if-not-idle.true))
    ∙ c.loop-e.invariant.2

pub loop-e-preserved : goal.loop-e-preserved
loop-e-preserved c =
    let test = idle_test (system_of c.args.book.now.words.now) c.args.f in
    let is = c.from-e.ensures in (
      tt,
      tt,
      sym (look-idle test (iter_rest (rev_source c.next.new.self)) c.in-Some.ensures.steps (λ z. c.if-e-eq0.false (is ∙ z))
          (ap (λ n. test (n - 1)) (sym is) ∙ sym c.idle.ensures ∙ c.if-not-idle.false))
          ∙ c.loop-e.invariant.2,
    )

pub returns : goal.returns
returns c =
    let test = idle_test (system_of c.args.book.now.words.now) c.args.f in
    sym (look-ends test (nil_from_length (iter_rest (rev_source c.loop-e.e-iterator)) c.in-None.ensures.steps.0)) ∙ c.loop-e.invariant.2
