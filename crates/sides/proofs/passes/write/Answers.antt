use mathlib.Core.Path.{◌≡◌, sym}
use mathlib.Core.List.{[]}
use native.Mathlib.Omega.{arith}
use Rattle.std.proofs.lemmas.List.{nil_from_length}
use Rattle.buffers.proofs.Fronts.{front-all, front-turn}
use Rattle.sides.proofs.passes.Turns.{at-symbol, at-variable, variable-known, bindings-long}
use Rattle.sides.proofs.passes.write.Goals as goal

pub loop-w-init : goal.loop-w-init
loop-w-init g c =
    let e : c.into_iter-w-iterator.result.iter.rest.now ≡ c.args.side.now = cc in
    rw e (front-all c.args.side.now, c.requires.1)

pub symbol-to-requires : goal.symbol-to-requires
symbol-to-requires g c =
    let v = c.loop-w.invariant in
    let k = front-turn v.0 _ _ c.in-Some.ensures.steps in
    (_, _, _, at-symbol c.requires.0 v.0 k c.wide-v.result c.wide-v.ensures.0 c.if-v-lt-VARIABLE.true, v.1)

pub loop-w-preserved-then-v-lt-VARIABLE : goal.loop-w-preserved-then-v-lt-VARIABLE
loop-w-preserved-then-v-lt-VARIABLE g c =
    let v = c.loop-w.invariant in
    let k = front-turn v.0 _ _ c.in-Some.ensures.steps in
    (k.next, c.symbol-to.ensures _ _ _ (at-symbol c.requires.0 v.0 k c.wide-v.result c.wide-v.ensures.0 c.if-v-lt-VARIABLE.true) v.1)

pub bounds-bindings-v : goal.bounds-bindings-v
bounds-bindings-v g c =
    let v = c.loop-w.invariant in
    let k = front-turn v.0 _ _ c.in-Some.ensures.steps in
    let x = variable-known c.requires.0 v.0 k c.wide-v.result c.wide-v.ensures.0 in
    let n = bindings-long c.args.bindings.now c.requires.0 in
    omega arith

pub bounds-bindings-v-else-v-lt-VARIABLE : goal.bounds-bindings-v-else-v-lt-VARIABLE
bounds-bindings-v-else-v-lt-VARIABLE g c =
    let v = c.loop-w.invariant in
    let k = front-turn v.0 _ _ c.in-Some.ensures.steps in
    let x = variable-known c.requires.0 v.0 k c.wide-v.result c.wide-v.ensures.0 in
    let n = bindings-long c.args.bindings.now c.requires.0 in
    omega arith

pub stretch-to-requires : goal.stretch-to-requires
stretch-to-requires g c =
    let v = c.loop-w.invariant in
    let k = front-turn v.0 _ _ c.in-Some.ensures.steps in
    let x = at-variable c.args.bindings.now c.requires.0 v.0 k c.wide-v.result c.wide-v.ensures.0 c.if-v-lt-VARIABLE.false c.wide.ensures.0 c.stretch_at-from.ensures c.wide-n.ensures.0 in
    (_, _, _, x, v.1)

pub loop-w-preserved : goal.loop-w-preserved
loop-w-preserved g c =
    let v = c.loop-w.invariant in
    let k = front-turn v.0 _ _ c.in-Some.ensures.steps in
    let x = at-variable c.args.bindings.now c.requires.0 v.0 k c.wide-v.result c.wide-v.ensures.0 c.if-v-lt-VARIABLE.false c.wide.ensures.0 c.stretch_at-from.ensures c.wide-n.ensures.0 in
    (k.next, c.stretch-to.ensures _ _ _ x v.1)

pub returns : goal.returns
returns g c =
    let e : [] ≡ c.loop-w.w-iterator.iter.rest.now = sym (nil_from_length c.loop-w.w-iterator.iter.rest.now c.in-None.ensures.steps.0) in
    rw e c.loop-w.invariant.1
