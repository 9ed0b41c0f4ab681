-- `retrace::follow` meets its contract: a law of Following at each place.
use Prim.Native.Nat.{◌+◌, ◌-◌}
use native.Mathlib.Omega.{arith}
use mathlib.Core.Path.{◌≡◌, refl, sym, ◌∙◌, subst}
use Rattle.reader.specs.Book.{system_of}
use Rattle.layout.proofs.Books.{well, signature}
use Rattle.rows.specs.Rows.{term_in}
use Rattle.rows.specs.gap.Gaps.{words_in}
use Rattle.rows.specs.Measured.{Measured}
use Rattle.replay.specs.retrace.Retraces.{wrong, long, goes}
use Rattle.walks.specs.walk.Way.{At, Found}
use Rattle.walks.proofs.walk.Pointing.{Bounds, points-bounds}
use Rattle.replay.proofs.retrace.Following.{missed, Searched, searched, nothing, other, told, Chosen}
use Rattle.replay.proofs.retrace.Following.{reducible, exceeds, next-few, placed-lies, placed-words, way-raisable, way-raised}
use Rattle.replay.proofs.retrace.follow.Goals as goal
use Rattle.replay.proofs.retrace.follow.Goals.{In-Ok, After-first_redex, After-length_at-width, After-words-2}

-- the walk came to the pair's position, which is active: the finger is there, since it is what the walk answered
came : (c : In-Ok) → let a = c.args in At (system_of a.index.now.book.words.now) (term_in a.area.now a.from.gap) c.find.new.area a.pair.at c.in-Ok.f
came c =
    let a = c.args in
    subst (Found (system_of a.index.now.book.words.now) (term_in a.area.now a.from.gap) c.find.new.area a.pair.at) c.in-Ok.is c.find.ensures

bounds : (c : In-Ok) → Bounds c.find.new.area c.in-Ok.f
bounds c =
    let b = c.args.index.now.book in
    points-bounds (system_of b.words.now) (well b.words.now b.shape b.accepted) (came c).points

-- what was found at the pair's position, read once
abbrev found : After-first_redex → Searched
found c = searched c.args.index.now.book c.args.pair c.in-Ok.ensures c.first_redex.ensures.found c.first_redex.auto.bindings c.first_redex.ensures.bound

-- the rule is the pair's; and the width is read
abbrev chosen : After-length_at-width → Chosen
chosen c =
    record {
      at = searched c.args.index.now.book c.args.pair c.in-Ok.ensures c.first_redex.ensures.found c.first_redex.auto.bindings c.first_redex.ensures.bound;
      m = c.in-Some.m;
      one = c.in-Some.is;
      same = sym c.number.ensures ∙ c.if-number-pair.false;
      width = c.length_at-width.result;
      read = c.length_at-width.ensures.0;
    }

-- ---- the goals: the walk and the search

pub returns-in_default-clause-followed : goal.returns-in_default-clause-followed
returns-in_default-clause-followed c = wrong (missed c.args.pair c.in_default.ensures) c.in_default.ensures.points.total

pub first_redex-requires : goal.first_redex-requires
first_redex-requires c =
    let b = c.args.index.now.book in
    let m = subst (λ g. Measured g c.find.new.area c.in-Ok.f.gap) (signature b.words.now b.shape b.accepted) c.in-Ok.ensures.points.measured in
    (m, (bounds (goal.at.first_redex-requires c).In-Ok).within, refl)

pub returns-in_default-first_redex-clause-followed : goal.returns-in_default-first_redex-clause-followed
returns-in_default-first_redex-clause-followed c =
    let k = found (goal.at.returns-in_default-first_redex-clause-followed c).After-first_redex in
    wrong (nothing k c.in_default-first_redex.is) k.found.points.total

pub returns-then-number-pair-clause-followed : goal.returns-then-number-pair-clause-followed
returns-then-number-pair-clause-followed c =
    let k = found (goal.at.returns-then-number-pair-clause-followed c).After-first_redex in
    wrong (other k c.in-Some.is (λ e. c.if-number-pair.true (c.number.ensures ∙ e))) k.found.points.total

-- ---- the rewrite

pub length_at-width-requires : goal.length_at-width-requires
length_at-width-requires c = let b = bounds (goal.at.length_at-width-requires c).In-Ok in (b.gapped, b.within)

pub rewrite-r-requires : goal.rewrite-r-requires
rewrite-r-requires c = reducible (chosen (goal.at.rewrite-r-requires c).After-length_at-width)

pub returns-then-r-clause-followed : goal.returns-then-r-clause-followed
returns-then-r-clause-followed c =
    let d = chosen (goal.at.returns-then-r-clause-followed c).After-length_at-width in
    let z = exceeds d c.rewrite-r.ensures c.if-r.true in
    long _ (told d.at d.one d.same) z.0 z.1

-- ---- it is done: the lengths on the way

pub words-requires : goal.words-requires
words-requires c = placed-lies (chosen (goal.at.words-requires c).After-length_at-width) c.rewrite-r.ensures c.if-r.false

pub overflow_add-words : goal.overflow_add-words
overflow_add-words c =
    let z = placed-lies (chosen (goal.at.overflow_add-words c).After-length_at-width) c.rewrite-r.ensures c.if-r.false in
    omega (arith, c.length_at-width.ensures.1, c.words.ensures, z.low, z.high)

pub overflow_sub-words : goal.overflow_sub-words
overflow_sub-words c =
    let z = placed-words (chosen (goal.at.overflow_sub-words c).After-length_at-width) c.rewrite-r.ensures c.if-r.false in
    omega (arith, c.words.ensures, c.words-2.ensures)

-- by how much they are raised
size : (c : After-words-2) → let w = c.length_at-width.result in
    c.words.result + w - c.words-2.result ≡ words_in c.rewrite-r.result.gap + w - words_in c.in-Ok.f.gap
size c = λ i. c.words.ensures i + c.length_at-width.result - c.words-2.ensures i

pub raise_way-requires : goal.raise_way-requires
raise_way-requires c =
    way-raisable (chosen (goal.at.raise_way-requires c).After-length_at-width) c.rewrite-r.ensures c.if-r.false _ (size c)

pub returns-clause-followed : goal.returns-clause-followed
returns-clause-followed c =
    let d = chosen (goal.at.returns-clause-followed c).After-length_at-width in
    let n = size (goal.at.returns-clause-followed c).After-words-2 in
    goes _ _ (told d.at d.one d.same) (next-few d c.rewrite-r.ensures c.if-r.false) (way-raised d c.rewrite-r.ensures c.if-r.false _ n c.raise_way.ensures)

pub returns-clause-measured : goal.returns-clause-measured
returns-clause-measured c =
    let d = chosen (goal.at.returns-clause-measured c).After-length_at-width in
    let n = size (goal.at.returns-clause-measured c).After-words-2 in
    (way-raised d c.rewrite-r.ensures c.if-r.false _ n c.raise_way.ensures).measured
