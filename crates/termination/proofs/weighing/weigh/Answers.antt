use native.Mathlib.Omega.{arith}
use mathlib.Core.Path.{sym}
use Rattle.termination.proofs.Words.{weight-drop, weight-end, limit-small, limit-large}
use Rattle.termination.proofs.weighing.weigh.Goals as goal

pub returns-in_default : goal.returns-in_default
returns-in_default c =
    let a = c.args in
    let z = weight-drop a.weights.now a.words.now c.loop-w.w-index (omega arith) in
    sym (limit-large a.weights.now a.words.now (omega (arith, c.in_default.ensures)))

pub loop-w-preserved : goal.loop-w-preserved
loop-w-preserved c =
    let a = c.args in
    let z = weight-drop a.weights.now a.words.now c.loop-w.w-index (omega arith) in
    let e = c.in-Some.ensures in
    (omega arith, omega arith)

pub returns : goal.returns
returns c =
    let a = c.args in
    let z = weight-end a.weights.now a.words.now c.loop-w.w-index (omega arith) in
    omega (arith, limit-small a.weights.now a.words.now (omega arith))
