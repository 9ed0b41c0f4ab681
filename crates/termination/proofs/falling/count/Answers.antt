use native.Mathlib.Omega.{arith}
use Rattle.termination.proofs.falling.Counting.{counts_start, numbered, counts-symbol, counts-variable, count_small}
use Rattle.termination.proofs.falling.count.Goals as goal
use Rattle.termination.proofs.falling.count.Goals.{in-Some, in_default}

pub loop-w-init : goal.loop-w-init
loop-w-init c = counts_start

pub overflow_add-counts : goal.overflow_add-counts
overflow_add-counts c =
    let w = c.wide.ensures.0 in
    let v = c.in-Some.ensures in
    let n = numbered c.requires c.loop-w-test.true (omega arith) in
    let z = count_small c.args.words.now c.requires c.loop-w.w-index c.loop-w.invariant c.in-Some.v (omega arith) in
    omega arith

pub loop-w-preserved : goal.loop-w-preserved
loop-w-preserved c =
    let e = c.wide.ensures.0 in
    let l = c.loop-w-test.true in
    elim c.match-checked_sub.branch [
      | in-Some w ↦
          let v = w.in-Some.ensures in
          let n = numbered c.requires l (omega arith) in
          rw w.counts-is (counts-variable c.args.words.now c.loop-w.w-index l c.loop-w.invariant w.in-Some.v (omega arith) (omega arith))
      | in_default w ↦
          let v = w.in_default.ensures in
          rw w.counts-is (counts-symbol c.args.words.now c.loop-w.w-index l c.loop-w.invariant (omega arith))
    ]
