-- `putting::put_reduct` meets its contract: the gap is brought to an end of the words of u, and the reduct written where it has room.
use native.Mathlib.Omega.{arith}
use Prim.Native.Nat.{◌+◌, ◌-◌, ◌≤◌, ◌<◌}
use mathlib.Core.Path.{◌≡◌, subst}
use mathlib.Core.Bool.{true}
use Rattle.system.specs.Signature.{signature_of}
use Rattle.rows.specs.gap.Gaps.{Moved}
use Rattle.reducts.specs.putting.Replaced.{edge, Crowdable}
use Rattle.matching.specs.rules.Searches.{reduct_length}
use Rattle.sides.specs.sides.Sides.{stretches_in}
use Rattle.reducts.proofs.putting.Asides.{gap_size}
use Rattle.reducts.proofs.putting.Writables.{reduct-bound}
use Rattle.reducts.proofs.putting.Puts.{spared-aside, put-behind}
use Rattle.reducts.proofs.putting.Edges.{edge-long, edge-crowdable, edge-writable, edge-written}
use Rattle.reducts.proofs.putting.put_reduct.Goals as goal
use Rattle.reducts.proofs.putting.put_reduct.Goals.{After-move_gap-g}

-- the gap moved to the edge that was chosen
at_edge : (c : After-move_gap-g) → let a = c.args in Moved a.area.now a.gap (edge a.u c.goes_before-before.result) c.move_gap-g.result c.move_gap-g.new.area
at_edge c = let a = c.args in subst (λ i. Moved a.area.now a.gap i c.move_gap-g.result c.move_gap-g.new.area) c.edge.ensures c.move_gap-g.ensures

-- ---- the goals

pub overflow_add-u : goal.overflow_add-u
overflow_add-u c =
    let p = c.requires in
    omega (arith, reduct-bound p, c.reduct_length-k.ensures, p.within, p.measured.gapped.lies.low, p.measured.gapped.lies.high)

-- the choice is that only where there is room
said : (c : After-move_gap-g) →
    c.goes_before-before.result ≡ true → reduct_length (stretches_in c.args.bindings.now).lengths c.args.side.now ≤ gap_size c.args.gap
said c = λ e. let h = c.goes_before-before.ensures e in omega (arith, c.reduct_length-k.ensures)

pub returns-then-g-u : goal.returns-then-g-u
returns-then-g-u c =
    edge-long c.requires c.goes_before-before.result (said (goal.at.returns-then-g-u c).After-move_gap-g) (at_edge (goal.at.returns-then-g-u c).After-move_gap-g)
    (omega (arith, c.if-g-u.true, c.reduct_length-k.ensures))

pub write_reduct-requires : goal.write_reduct-requires
write_reduct-requires c =
    edge-writable c.requires (omega (arith, c.if-k-g.true, c.reduct_length-k.ensures)) c.goes_before-before.result (at_edge (goal.at.write_reduct-requires c).After-move_gap-g)
    c.reduct_length-k.ensures c.place_for-place.ensures

pub returns-then-k-g : goal.returns-then-k-g
returns-then-k-g c =
    edge-written c.requires (omega (arith, c.if-k-g.true, c.reduct_length-k.ensures)) c.goes_before-before.result (at_edge (goal.at.returns-then-k-g c).After-move_gap-g)
    c.reduct_length-k.ensures c.place_for-place.ensures
    (omega (arith, c.if-g-u.false, c.reduct_length-k.ensures)) c.write_reduct.ensures

-- the reduct has no room beside the words of u, but where they stand
crowds : (c : After-move_gap-g) → c.move_gap-g.result.back - c.move_gap-g.result.front < c.reduct_length-k.result →
    c.args.u.at + c.reduct_length-k.result ≤ c.move_gap-g.result.back →
    let a = c.args in
    Moved a.area.now a.gap (a.u.at + a.u.width) c.move_gap-g.result c.move_gap-g.new.area
    × Crowdable (signature_of a.book.now) a.side.now c.move_gap-g.new.area c.move_gap-g.result a.u (stretches_in a.bindings.now)
crowds c crowded fits =
    edge-crowdable c.requires c.goes_before-before.result (said c) (at_edge c) (omega (arith, crowded, c.reduct_length-k.ensures))
    (omega (arith, fits, c.reduct_length-k.ensures))

pub put_crowded-back-requires : goal.put_crowded-back-requires
put_crowded-back-requires c = (crowds (goal.at.put_crowded-back-requires c).After-move_gap-g c.if-k-g.false c.if-g-u.false).1

pub returns : goal.returns
returns c =
    let k = crowds (goal.at.returns c).After-move_gap-g c.if-k-g.false c.if-g-u.false in
    put-behind c.requires k.0 (spared-aside _ _) c.put_crowded-back.ensures (omega (arith, c.if-g-u.false, c.reduct_length-k.ensures))
