use mathlib.Core.Path.{◌∙◌}
use native.Mathlib.Omega.{arith}
use Prim.Native.Nat.{◌-◌}
use lib.ListN.{drop}
use Rattle.system.specs.Limits.{variable, variables}
use Rattle.matching.proofs.Reducts.{length-done, length-symbol, length-variable}
use Rattle.sides.proofs.Bindings.{length-told}
use Rattle.sides.proofs.sides.reduct_length.Goals as goal
use Rattle.sides.proofs.sides.reduct_length.Goals.{then-v-lt-VARIABLE, else-v-lt-VARIABLE}

pub loop-w-preserved : goal.loop-w-preserved
loop-w-preserved c =
    let a = c.args in
    let lengths = drop variables a.bindings.now in
    let v = c.wide-v in
    elim c.if-v-lt-VARIABLE.branch [
      | then-v-lt-VARIABLE w ↦
          let s = length-symbol lengths a.side.now c.loop-w.w-index c.loop-w-test.true v.result v.ensures.0 w.if-v-lt-VARIABLE.true in
          let e = w.total-is in
          (omega arith, omega arith)
      | else-v-lt-VARIABLE w ↦
          let s = length-variable lengths a.side.now c.loop-w.w-index c.loop-w-test.true v.result v.ensures.0 w.if-v-lt-VARIABLE.false in
          let e = w.total-is in
          let n = w.wide.ensures.0 ∙ length-told a.bindings.now (v.result - variable) in
          let b = w.wide.ensures.1 in
          (omega arith, omega arith)
    ]

pub returns : goal.returns
returns c =
    let a = c.args in
    let d = length-done (drop variables a.bindings.now) a.side.now c.loop-w.w-index c.loop-w-test.false in
    omega arith
