-- `machine::advance` meets its contract: at each place a law of Advancing, Retrying or Arriving.
use native.Mathlib.Omega.{arith}
use mathlib.Core.Path.{refl, sym, ◌∙◌}
use Rattle.machine.specs.advance.Area.{base_of}
use Rattle.reader.specs.Book.{system_of}
use Rattle.machine.proofs.advance.Rounds.{round-of, advancing-start}
use Rattle.machine.proofs.advance.Advancing.{rules-bounds, rules-measured, goes-repeated, goes-argument, goes_left, goes_down}
use Rattle.machine.proofs.advance.Arriving.{arrives-end, arrives-deep}
use Rattle.machine.proofs.advance.Retrying.{bindings-part, retried-size, none-matches, one-matches}
use Rattle.machine.proofs.advance.advance.Goals as goal

pub loop-at-init : goal.loop-at-init
loop-at-init c =
    let a = c.args in
    (advancing-start (system_of a.index.now.book.words.now) a.state (base_of a.frame.now) a.area.now a.frame.now c.from-since.result c.requires c.from-since.ensures, refl, refl)

-- ---- an entry is repeated

pub loop-at-smaller-in-Repeated : goal.loop-at-smaller-in-Repeated
loop-at-smaller-in-Repeated c =
    (goes-repeated (round-of c.args.index.now.book.accepted c.loop-at.invariant.0 c.at_level-at.ensures c.take_transition.ensures.performed) c.in-Repeated.is).less

pub loop-at-preserved-in-Repeated : goal.loop-at-preserved-in-Repeated
loop-at-preserved-in-Repeated c = (
  (goes-repeated (round-of c.args.index.now.book.accepted c.loop-at.invariant.0 c.at_level-at.ensures c.take_transition.ensures.performed) c.in-Repeated.is).on,
  c.take_transition.auto.area ∙ c.loop-at.invariant.1,
  c.take_transition.auto.frame ∙ c.loop-at.invariant.2,
)

-- ---- the rules are tried

pub first_redex-found-requires : goal.first_redex-found-requires
first_redex-found-requires c =
    let τ = round-of c.args.index.now.book.accepted c.loop-at.invariant.0 c.at_level-at.ensures c.take_transition.ensures.performed in
    let w = rules-bounds τ c.in-Rules.is in
    (rules-measured τ c.in-Rules.is, omega (arith, w.within, c.from-at.ensures), bindings-part τ.positions' w.slots)

pub returns-in-Some : goal.returns-in-Some
returns-in-Some c =
    let τ = round-of c.args.index.now.book.accepted c.loop-at.invariant.0 c.at_level-at.ensures c.take_transition.ensures.performed in
    let told = one-matches τ c.in-Rules.is c.first_redex-found.new.bindings c.first_redex-found.auto.bindings c.from-at.ensures
    (sym c.first_redex-found.ensures.found ∙ c.in-Some.is) c.first_redex-found.ensures.bound in
    record { advanced = told.0; measured = told.1 }

pub loop-at-smaller-in_default : goal.loop-at-smaller-in_default
loop-at-smaller-in_default c =
    let τ = round-of c.args.index.now.book.accepted c.loop-at.invariant.0 c.at_level-at.ensures c.take_transition.ensures.performed in
    (none-matches τ c.in-Rules.is c.first_redex-found.new.bindings c.first_redex-found.auto.bindings c.from-at.ensures (sym c.first_redex-found.ensures.found ∙ c.in_default.is)).less

pub loop-at-preserved-in_default : goal.loop-at-preserved-in_default
loop-at-preserved-in_default c =
    let τ = round-of c.args.index.now.book.accepted c.loop-at.invariant.0 c.at_level-at.ensures c.take_transition.ensures.performed in
    let goes = none-matches τ c.in-Rules.is c.first_redex-found.new.bindings c.first_redex-found.auto.bindings c.from-at.ensures (sym c.first_redex-found.ensures.found ∙ c.in_default.is) in (
      goes.on,
      c.take_transition.auto.area ∙ c.loop-at.invariant.1,
      retried-size τ c.in-Rules.is c.first_redex-found.new.bindings c.first_redex-found.auto.bindings ∙ c.take_transition.auto.frame ∙ c.loop-at.invariant.2,
    )

-- ---- an argument is opened

pub loop-at-smaller-in-Argument : goal.loop-at-smaller-in-Argument
loop-at-smaller-in-Argument c =
    (goes-argument (round-of c.args.index.now.book.accepted c.loop-at.invariant.0 c.at_level-at.ensures c.take_transition.ensures.performed) c.in-Argument.is).less

pub loop-at-preserved-in-Argument : goal.loop-at-preserved-in-Argument
loop-at-preserved-in-Argument c = (
  (goes-argument (round-of c.args.index.now.book.accepted c.loop-at.invariant.0 c.at_level-at.ensures c.take_transition.ensures.performed) c.in-Argument.is).on,
  c.take_transition.auto.area ∙ c.loop-at.invariant.1,
  c.take_transition.auto.frame ∙ c.loop-at.invariant.2,
)

-- ---- the strategy is at its end

pub returns-then-level-eq0 : goal.returns-then-level-eq0
returns-then-level-eq0 c =
    let τ = round-of c.args.index.now.book.accepted c.loop-at.invariant.0 c.at_level-at.ensures c.take_transition.ensures.performed in
    let told = arrives-end τ c.in-End.is c.if-level-eq0.true in
    record { advanced = told.0; measured = told.1 }

pub loop-at-smaller-then-level-floor : goal.loop-at-smaller-then-level-floor
loop-at-smaller-then-level-floor c =
    let τ = round-of c.args.index.now.book.accepted c.loop-at.invariant.0 c.at_level-at.ensures c.take_transition.ensures.performed in
    (goes_down τ c.in-End.is (let h = c.if-level-eq0.false in omega arith) c.from-since-then-level-floor.result c.from-since-then-level-floor.ensures).less

pub loop-at-preserved-then-level-floor : goal.loop-at-preserved-then-level-floor
loop-at-preserved-then-level-floor c =
    let τ = round-of c.args.index.now.book.accepted c.loop-at.invariant.0 c.at_level-at.ensures c.take_transition.ensures.performed in (
      (goes_down τ c.in-End.is (let h = c.if-level-eq0.false in omega arith) c.from-since-then-level-floor.result c.from-since-then-level-floor.ensures).on,
      c.take_transition.auto.area ∙ c.loop-at.invariant.1,
      c.take_transition.auto.frame ∙ c.loop-at.invariant.2,
    )

pub loop-at-smaller : goal.loop-at-smaller
loop-at-smaller c =
    let τ = round-of c.args.index.now.book.accepted c.loop-at.invariant.0 c.at_level-at.ensures c.take_transition.ensures.performed in
    (goes_left τ c.in-End.is (let h = c.if-level-eq0.false in omega arith) (let h = c.if-level-floor.false in omega arith)).less

pub loop-at-preserved : goal.loop-at-preserved
loop-at-preserved c =
    let τ = round-of c.args.index.now.book.accepted c.loop-at.invariant.0 c.at_level-at.ensures c.take_transition.ensures.performed in (
      (goes_left τ c.in-End.is (let h = c.if-level-eq0.false in omega arith) (let h = c.if-level-floor.false in omega arith)).on,
      c.take_transition.auto.area ∙ c.loop-at.invariant.1,
      c.take_transition.auto.frame ∙ c.loop-at.invariant.2,
    )

-- ---- it would be too deep

pub returns-in-TooDeep : goal.returns-in-TooDeep
returns-in-TooDeep c =
    let told = arrives-deep (round-of c.args.index.now.book.accepted c.loop-at.invariant.0 c.at_level-at.ensures c.take_transition.ensures.performed) c.in-TooDeep.is in
    record { advanced = told.0; measured = told.1 }
