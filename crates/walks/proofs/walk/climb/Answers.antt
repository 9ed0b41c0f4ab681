use Prim.Native.Nat.{◌+◌, ◌-◌}
use native.Mathlib.Omega.{arith}
use mathlib.Core.Path.{◌≡◌, sym, ◌∙◌}
use Rattle.walks.proofs.walk.Pointing.{Bounds, points-bounds, points-up}
use Rattle.walks.proofs.walk.Climbing.{climbed-here, climbed-all}
use Rattle.walks.proofs.walk.climb.Goals as goal
use Rattle.walks.proofs.walk.climb.Goals.{At-loop-level}

-- whatever the system is
bounds : (c : At-loop-level) → Bounds c.args.area.now (record { gap = c.args.f.gap; level = c.loop-level.level; at = c.loop-level.at })
bounds c = let p = c.requires.0 in points-bounds p.0 p.1 (c.loop-level.invariant p.0 p.1 p.2)

-- ---- the goals

pub inside-requires : goal.inside-requires
inside-requires c = let b = bounds (goal.at.inside-requires c).At-loop-level in (b.gapped, b.within)

pub returns-then-inside : goal.returns-then-inside
returns-then-inside c =
    let l = c.loop-level in
    let e : l.level - 1 + 1 ≡ l.level = omega arith in
    λ s wf v. let p = l.invariant s wf v in rw e (climbed-here s wf p c.args.q (sym (c.inside.ensures s.arities p.measured) ∙ c.if-inside.true))

pub overflow_add-level : goal.overflow_add-level
overflow_add-level c = let b = bounds (goal.at.overflow_add-level c).At-loop-level in omega arith

pub offset_bounds-area-level : goal.offset_bounds-area-level
offset_bounds-area-level c = let b = bounds (goal.at.offset_bounds-area-level c).At-loop-level in omega arith

pub bounds-area-level : goal.bounds-area-level
bounds-area-level c = let b = bounds (goal.at.bounds-area-level c).At-loop-level in let l = c.loop-level-test.true in omega arith

pub loop-level-preserved : goal.loop-level-preserved
loop-level-preserved c =
    λ s wf v. points-up s wf (c.loop-level.invariant s wf v) c.loop-level-test.true c.wide-at.result c.wide-at.ensures.0

pub returns : goal.returns
returns c =
    let l = c.loop-level in
    let e : 0 ≡ l.level = omega arith in
    λ s wf v. rw e (climbed-all s wf (l.invariant s wf v) c.args.q c.requires.1 c.loop-level-test.false)
