use native.Mathlib.Omega.{arith}
use Rattle.sorts.specs.declared.sides.Mark.TheVariants.{Nothing}
use Rattle.sorts.proofs.sides.SideSteps.{loop-ends, loop-full, loop-short, loop-clash, loop-noted, loop-differs, loop-last, loop-fails, loop-on}
use Rattle.sorts.proofs.sides.+check.Goals as goal

pub returns-in_err-v-clause-ran : goal.returns-in_err-v-clause-ran
returns-in_err-v-clause-ran t c =
    rw c.from_residual.ensures (loop-full _ _ _ _ _ _ c.loop-due.invariant c.loop-due-test.true c.in_err-v.ensures.lookup.3 _)

pub returns-in-Nothing-clause-ran : goal.returns-in-Nothing-clause-ran
returns-in-Nothing-clause-ran t c =
    loop-short _ _ _ _ _ _ c.loop-due.invariant c.loop-due-test.true (c.in_ok-v.ensures.lookup.3.1 Nothing) c.in-Nothing.is _

pub returns-then-not-note-clause-ran : goal.returns-then-not-note-clause-ran
returns-then-not-note-clause-ran t c =
    loop-clash _ _ _ _ _ _ c.loop-due.invariant c.loop-due-test.true (c.in_ok-v.ensures.lookup.3.1 Nothing) c.listed-e.ensures
    c.in-Variable.is c.wide.ensures.0 c.note.result _ c.note.ensures c.if-not-note.true _

pub loop-due-preserved-in-Variable : goal.loop-due-preserved-in-Variable
loop-due-preserved-in-Variable t c =
    loop-noted _ _ _ _ _ _ c.loop-due.invariant c.loop-due-test.true (c.in_ok-v.ensures.lookup.3.1 Nothing) c.listed-e.ensures
    c.in-Variable.is c.wide.ensures.0 c.note.result _ c.note.ensures (let l = c.in_ok-v.ensures.lookup.3.0 in omega arith) c.if-not-note.false

pub returns-then-listed-e-clause-ran : goal.returns-then-listed-e-clause-ran
returns-then-listed-e-clause-ran t c =
    loop-differs _ _ _ _ _ _ c.loop-due.invariant c.loop-due-test.true (c.in_ok-v.ensures.lookup.3.1 Nothing) c.listed-e.ensures
    c.in-Symbol.is c.wide-x.ensures.0 c.listed.ensures c.if-listed-e.true _

pub loop-due-preserved-then-due-eq1 : goal.loop-due-preserved-then-due-eq1
loop-due-preserved-then-due-eq1 t c =
    loop-last _ _ _ _ _ _ c.loop-due.invariant c.loop-due-test.true (c.in_ok-v.ensures.lookup.3.1 Nothing) c.listed-e.ensures
    c.in-Symbol.is c.wide-x.ensures.0 c.listed.ensures c.if-listed-e.false c.wide-due.ensures.0
    (let l = c.in_ok-v.ensures.lookup.3.0 in omega arith) c.wide-x.ensures.1 c.wide-due.ensures.1 c.if-due-eq1.true

pub returns-in_err-p-in-Symbol-clause-ran : goal.returns-in_err-p-in-Symbol-clause-ran
returns-in_err-p-in-Symbol-clause-ran t c =
    rw c.from_residual-in_err-p-in-Symbol.ensures (loop-fails _ _ _ _ _ _ c.loop-due.invariant c.loop-due-test.true
    (c.in_ok-v.ensures.lookup.3.1 Nothing) c.listed-e.ensures c.in-Symbol.is c.wide-x.ensures.0 c.listed.ensures c.if-listed-e.false
    c.wide-else-due-eq1.ensures.0 c.check.result _ c.check.ensures.ran c.in_err-p-in-Symbol.was _)

pub loop-due-preserved : goal.loop-due-preserved
loop-due-preserved t c =
    let z = c.in_ok-p-in-Symbol.ensures.grows in
    loop-on _ _ _ _ _ _ c.loop-due.invariant c.loop-due-test.true (c.in_ok-v.ensures.lookup.3.1 Nothing) c.listed-e.ensures
    c.in-Symbol.is c.wide-x.ensures.0 c.listed.ensures c.if-listed-e.false c.wide-else-due-eq1.ensures.0 c.check.result _ c.check.ensures.ran
    c.in_ok-p-in-Symbol.was z.0 z.1

pub returns-clause-ran : goal.returns-clause-ran
returns-clause-ran t c = loop-ends _ _ _ _ _ _ c.loop-due.invariant c.loop-due-test.false
