use native.Mathlib.Omega.{arith}
use mathlib.Core.Path.{◌∙◌}
use lib.ListN.{length-set}
use Rattle.rows.specs.Rows.{term_in}
use Rattle.walks.proofs.walk.Pointing.{Bounds}
use Rattle.walks.proofs.walk.Descending.{Turn, descent-bounds, descended, turn-bounds, argument-ends, descent-stops, descends, few-arguments}
use Rattle.walks.proofs.walk.descend.Goals as goal
use Rattle.walks.proofs.walk.descend.Goals.{After-stands_in, At-loop-f}

bounds : (c : At-loop-f) → Bounds c.loop-f.area c.loop-f.f
bounds c = descent-bounds c.args.index.now.book c.loop-f.invariant.0

-- where the argument is known that holds q, and where it is known whether it stands in the strategy

abbrev turn : After-stands_in → Turn
turn c =
    let a = c.args in
    let k = c.holder-a in
    record {
      book = a.index.now.book;
      t = term_in a.area.now a.f.gap;
      ws = c.loop-f.area;
      f = c.loop-f.f;
      q = a.q;
      over = c.loop-f.invariant.0;
      lower = c.loop-f-test.true;
      a = k.result;
      held = k.ensures;
      word = c.word_at.result;
      reads = c.word_at.ensures;
      stands = c.stands_in.result;
      asked = c.stands_in.ensures;
    }

-- ---- the goals

pub word_at-requires : goal.word_at-requires
word_at-requires c = let b = bounds (goal.at.word_at-requires c).At-loop-f in (b.gapped, b.within)

pub overflow_add-a : goal.overflow_add-a
overflow_add-a c =
    omega (arith, few-arguments c.args.index.now.book c.holder-a.ensures)

pub returns-then-not-stands_in : goal.returns-then-not-stands_in
returns-then-not-stands_in c = descent-stops (turn (goal.at.returns-then-not-stands_in c).After-stands_in) c.if-not-stands_in.true

pub overflow_cast-area : goal.overflow_cast-area
overflow_cast-area c = let b = turn-bounds (turn (goal.at.overflow_cast-area c).After-stands_in) in omega arith

pub overflow_add-area : goal.overflow_add-area
overflow_add-area c = let b = turn-bounds (turn (goal.at.overflow_add-area c).After-stands_in) in omega arith

pub offset_bounds-area-f : goal.offset_bounds-area-f
offset_bounds-area-f c = let b = turn-bounds (turn (goal.at.offset_bounds-area-f c).After-stands_in) in omega arith

pub bounds-area-f : goal.bounds-area-f
bounds-area-f c = let b = turn-bounds (turn (goal.at.bounds-area-f c).After-stands_in) in omega arith

pub overflow_add-f : goal.overflow_add-f
overflow_add-f c = let b = turn-bounds (turn (goal.at.overflow_add-f c).After-stands_in) in omega arith

pub loop-f-smaller : goal.loop-f-smaller
loop-f-smaller c = let e = argument-ends (turn (goal.at.loop-f-smaller c).After-stands_in) in let l = (turn (goal.at.loop-f-smaller c).After-stands_in).lower in omega arith

pub loop-f-preserved : goal.loop-f-preserved
loop-f-preserved c =
    let l = c.loop-f in
    (descends (turn (goal.at.loop-f-preserved c).After-stands_in) c.if-not-stands_in.false, length-set l.area _ l.f.at ∙ l.invariant.1)

pub returns : goal.returns
returns c = descended c.args.index.now.book c.loop-f.invariant.0 c.loop-f-test.false
