-- `safety::held_once` meets its contract.
use native.Mathlib.Omega.{arith}
use mathlib.Core.Path.{sym, ap, ◌∙◌}
use borrow.Author.Tests.{lt-leb}
use lib.Dec.{eqb}
use Rattle.system.specs.Signature.{signature_of}
use Rattle.matching.proofs.safety.SafetySteps.{held_none, held-past, held-symbol, held-variable}
use Rattle.matching.proofs.safety.held_once.Goals as goal

pub returns-in_default : goal.returns-in_default
returns-in_default c = let a = c.args in sym (held_none (signature_of a.book.now) a.lhs.now a.i c.in_default.ensures.cases)

pub returns-in_default-get : goal.returns-in_default-get
returns-in_default-get c =
    let a = c.args in
    sym (held-past (signature_of a.book.now) a.i c.in-Some.ensures.cases.0 c.spans.ensures.0 c.in_default-get.ensures.lookup.3)

pub returns-then-from-ge-VARIABLE : goal.returns-then-from-ge-VARIABLE
returns-then-from-ge-VARIABLE c =
    let a = c.args in
    let w = c.in-Some-get.ensures.lookup.3.1 0 in
    let e = c.from.ensures in
    let l = c.if-from-ge-VARIABLE.true in
    ap (λ n. eqb n 1) c.occurs.ensures
    ∙ sym (held-variable (signature_of a.book.now) a.i c.in-Some.ensures.cases.0 c.spans.ensures.0 w (omega arith))

pub returns-else-from-ge-VARIABLE : goal.returns-else-from-ge-VARIABLE
returns-else-from-ge-VARIABLE c =
    let a = c.args in
    let w = c.in-Some-get.ensures.lookup.3.1 0 in
    let e = c.from.ensures in
    let l = c.if-from-ge-VARIABLE.false in
    lt-leb 32768 c.from.result (omega arith) ∙ sym (held-symbol (signature_of a.book.now) a.i c.in-Some.ensures.cases.0 c.spans.ensures.0 w (omega arith))
