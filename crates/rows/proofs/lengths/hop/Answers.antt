use native.Mathlib.Omega.{arith}
use Rattle.rows.proofs.lengths.Hops.{hopping-next, hopping-out, hopping-last}
use Rattle.rows.proofs.lengths.hop.Goals as goal

pub loop-preserved : goal.loop-preserved
loop-preserved c =
    let a = c.args in
    let k = c.length_at-at in
    hopping-next a.area.now a.gap a.from a.k c.loop.invariant (omega (arith, c.words-n.ensures)) c.loop-test.true k.result k.ensures.0 k.ensures.1

pub returns-then-n-at : goal.returns-then-n-at
returns-then-n-at c =
    let a = c.args in
    hopping-out a.area.now a.gap a.from a.k c.loop.invariant c.requires.0 (let l = c.if-n-at.true in omega (arith, c.words-n.ensures))

pub returns-after-loop : goal.returns-after-loop
returns-after-loop c = let a = c.args in hopping-last a.area.now a.gap a.from a.k c.loop.invariant c.loop-test.false
