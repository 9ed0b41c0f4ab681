-- `sides::note` meets its contract.
use native.Mathlib.Omega.{arith}
use Rattle.sorts.proofs.sides.Lists.{noted-fresh, noted-before, noted-past}
use Rattle.sorts.proofs.sides.note.Goals as goal
use Rattle.sorts.proofs.sides.note.Goals.{then-vars-v-eq-UNSET, else-vars-v-eq-UNSET}

pub returns-then-v-ge-VARIABLES : goal.returns-then-v-ge-VARIABLES
returns-then-v-ge-VARIABLES c = let a = c.args in noted-past a.vars.now a.v a.e (omega arith)

pub returns : goal.returns
returns c =
    let a = c.args in
    let l = c.if-v-ge-VARIABLES.false in
    elim c.if-vars-v-eq-UNSET.branch [
      | then-vars-v-eq-UNSET w ↦ rw w.vars-is (noted-fresh a.vars.now a.v a.e (omega arith) w.if-vars-v-eq-UNSET.true)
      | else-vars-v-eq-UNSET w ↦ rw w.vars-is (noted-before a.vars.now a.v a.e (omega arith) w.if-vars-v-eq-UNSET.false)
    ]
