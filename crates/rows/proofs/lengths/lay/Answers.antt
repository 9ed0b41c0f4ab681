use native.Mathlib.Omega.{arith}
use Rattle.system.specs.Signature.{signature_of}
use Rattle.buffers.proofs.Fronts.{front-turn}
use Rattle.rows.proofs.lengths.Pushes.{pushing-first, pushing-last, pushing-next}
use Rattle.rows.proofs.lengths.lay.Goals as goal

pub loop-w-init : goal.loop-w-init
loop-w-init c =
    let a = c.args in
    pushing-first (signature_of a.book.now) a.area.now a.term.now (omega (arith, c.requires.1)) cc

pub loop-w-preserved : goal.loop-w-preserved
loop-w-preserved c =
    let a = c.args in
    let t = front-turn c.loop-w.invariant.front _ _ c.in-Some.ensures.steps in
    pushing-next (signature_of a.book.now) a.area.now a.term.now (omega (arith, c.requires.1)) c.loop-w.invariant t c.push-at.ensures

pub returns : goal.returns
returns c =
    let a = c.args in
    pushing-last (signature_of a.book.now) a.area.now a.term.now (omega (arith, c.requires.1)) c.loop-w.invariant c.in-None.ensures.steps.0
