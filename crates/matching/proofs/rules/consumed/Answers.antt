-- `rules::consumed` meets its contract.
use native.Mathlib.Omega.{arith}
use mathlib.Core.Path.{sym, ◌∙◌}
use Rattle.system.specs.Signature.{signature_of}
use Rattle.matching.proofs.rules.MatchSteps.{consumed-end, consumed-variable, consumed-byte, consumed-le}
use Rattle.matching.proofs.rules.consumed.Goals as goal

-- ---- the goals

pub returns-in_default : goal.returns-in_default
returns-in_default c =
    let a = c.args in
    let none = c.in_default.ensures.item.3 in
    (sym (consumed-end (signature_of a.book.now) a.l a.ws.now (omega arith)), omega arith)

pub returns-then-wide-ge-VARIABLE : goal.returns-then-wide-ge-VARIABLE
returns-then-wide-ge-VARIABLE c =
    let a = c.args in
    let is = c.wide.ensures.0 in
    let v = c.if-wide-ge-VARIABLE.true in
    (c.span.ensures.0 ∙ sym (consumed-variable (signature_of a.book.now) a.l a.ws.now c.in-Some.ensures.item.3.0 (omega arith)), c.span.ensures.1)

pub returns : goal.returns
returns c =
    let a = c.args in
    let is = c.wide.ensures.0 in
    let v = c.if-wide-ge-VARIABLE.false in
    let first = c.in-Some.ensures.item.3 in
    let e = c.from.ensures ∙ consumed-byte (signature_of a.book.now) a.l a.ws.now first.0 (omega arith) (first.1 0) in
    (e, let m = consumed-le (signature_of a.book.now) a.l a.ws.now in omega arith)
