use Rattle.system.proofs.words.SpanSteps.{span-word, span_none, span-past, span_rest}
use Rattle.system.specs.Signature.{signature_of}
use native.Mathlib.Omega.{arith}
use borrow.Author.Rules.{rules}
use Rattle.system.proofs.words.spans.Goals as goal

pub returns-then-due-eq0 : goal.returns-then-due-eq0
returns-then-due-eq0 c = let l = c.loop-i in
    let a = c.args in
    omega (arith, span_none (signature_of a.book.now) a.ws.now l.i l.due c.if-due-eq0.true)

pub returns-then-ws-i : goal.returns-then-ws-i
returns-then-ws-i c = let l = c.loop-i in
    let a = c.args in
    omega (arith, span_rest (signature_of a.book.now) a.ws.now l.i l.due (omega arith) c.if-ws-i.true)

pub loop-i-preserved : goal.loop-i-preserved
loop-i-preserved c = let l = c.loop-i in
    let a = c.args in
    (search rules, rw c.arity.ensures.0 (omega (arith, span-word (signature_of a.book.now) a.ws.now l.i l.due (omega arith) (omega arith))))

pub returns : goal.returns
returns c = let l = c.loop-i in
    let a = c.args in
    omega (arith, span-past (signature_of a.book.now) a.ws.now l.i l.due c.loop-i-test.false)
