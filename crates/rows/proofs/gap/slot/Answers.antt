-- `gap::slot` meets its contract.
use mathlib.Core.Path.{sym}
use native.Mathlib.Omega.{arith}
use Rattle.rows.proofs.gap.Closed.{slot-before, slot-after}
use Rattle.rows.proofs.gap.slot.Goals as goal

pub returns-then-i-gap : goal.returns-then-i-gap
returns-then-i-gap c =
    let a = c.args in
    let p = c.requires in
    (sym (slot-before a.gap a.i c.if-i-gap.true), omega (arith, c.if-i-gap.true, p.0.low, p.0.high))

pub returns-else-i-gap : goal.returns-else-i-gap
returns-else-i-gap c =
    let l = c.if-i-gap.false in
    let a = c.args in
    let p = c.requires in
    (sym (slot-after a.gap a.i l), omega (arith, l, p.0.low, p.0.high, p.1))
