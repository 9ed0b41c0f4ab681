-- `passes::write` meets its contract. The loop's invariant: what is written of all words of the side but those that are left stands there.
use Rattle.buffers.specs.moves.Fronts.{Front}
use Rattle.sides.specs.passes.Tasks.{task}
use Rattle.sides.proofs.passes.write.Given as goal

abbrev pub invariant-loop-w : goal.invariant-loop-w
invariant-loop-w g l =
    let rest = l.w-iterator.iter.rest.now in
    Front rest l.side × g.P.Pass.stands l.pass (task l.side l.initial.area l.back l.bindings l.source) rest l.area l.to
