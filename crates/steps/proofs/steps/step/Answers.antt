-- `steps::step` meets its contract: a law of Stepping or Rewrote at each place.
use Prim.Native.Nat.{◌+◌, ◌-◌, ◌<◌}
use native.Mathlib.Omega.{arith}
use mathlib.Core.Path.{sym, subst, subst₂}
use Rattle.rows.specs.gap.Gaps.{words_in}
use Rattle.rewrites.specs.rewrites.Rewritten.{Reducible}
use Rattle.steps.proofs.steps.Stepping.{step-bounds, step-few, step-reads, step-bindings, step-reducible, step-long, steps-measured}
use Rattle.steps.proofs.steps.Rewrote.{rewrites-here, rewrote-of, step-placed, step_words, step-raisable, step-raisable-levels, step-done}
use Rattle.steps.proofs.steps.step.Goals as goal

pub length_at-width-requires : goal.length_at-width-requires
length_at-width-requires c =
    let b = step-bounds c.args.index.now.book.accepted c.requires in
    (b.gapped, subst (λ p. p < words_in c.args.from.state.gap) (sym c.from-at.ensures) b.within)

pub rewrite-r-requires : goal.rewrite-r-requires
rewrite-r-requires c =
    let acc = c.args.index.now.book.accepted in
    let a = c.args in
    subst₂ (λ p bs. Reducible a.index.now.book.words.now a.area.now a.from.state.gap
    (record { level = a.from.state.level; at = p; width = c.length_at-width.result }) a.m bs)
    (sym c.from-at.ensures) (step-bindings acc c.requires)
    (step-reducible acc c.requires c.length_at-width.result (step-reads acc c.requires c.from-at.ensures c.length_at-width.ensures.0))

pub returns-then-r : goal.returns-then-r
returns-then-r c =
    let acc = c.args.index.now.book.accepted in
    let told = steps-measured c.requires (step-long acc c.requires c.length_at-width.result (step-reads acc c.requires c.from-at.ensures c.length_at-width.ensures.0)
    (rewrites-here acc c.requires c.from-at.result c.length_at-width.result c.from-at.ensures c.length_at-width.ensures.0 c.rewrite-r.ensures) c.if-r.true) in
    record { stepped = told.0; measured = told.1 }

-- ---- a step that is taken

pub words-requires : goal.words-requires
words-requires c =
    let y = rewrote-of c.args.index.now.book.accepted c.requires c.from-at.result c.length_at-width.result c.from-at.ensures c.length_at-width.ensures.0 c.rewrite-r.ensures c.if-r.false in
    (step-placed y).later.gapped.lies

pub overflow_sub-size : goal.overflow_sub-size
overflow_sub-size c =
    let y = rewrote-of c.args.index.now.book.accepted c.requires c.from-at.result c.length_at-width.result c.from-at.ensures c.length_at-width.ensures.0 c.rewrite-r.ensures c.if-r.false in
    let z = step_words y in
    omega (arith, c.words.ensures, c.words-2.ensures)

pub raise_way-requires : goal.raise_way-requires
raise_way-requires c =
    let y = rewrote-of c.args.index.now.book.accepted c.requires c.from-at.result c.length_at-width.result c.from-at.ensures c.length_at-width.ensures.0 c.rewrite-r.ensures c.if-r.false in
    let f = step-few y.accepted y.asked in
    ((step-placed y).total, omega arith, step-raisable y _ (λ i. c.words.ensures i + c.length_at-width.result - c.words-2.ensures i))

pub raise-requires : goal.raise-requires
raise-requires c =
    let y = rewrote-of c.args.index.now.book.accepted c.requires c.from-at.result c.length_at-width.result c.from-at.ensures c.length_at-width.ensures.0 c.rewrite-r.ensures c.if-r.false in
    step-raisable-levels y _ (λ i. c.words.ensures i + c.length_at-width.result - c.words-2.ensures i) c.raise_way.ensures

pub returns : goal.returns
returns c =
    let y = rewrote-of c.args.index.now.book.accepted c.requires c.from-at.result c.length_at-width.result c.from-at.ensures c.length_at-width.ensures.0 c.rewrite-r.ensures c.if-r.false in
    let told = steps-measured y.asked (step-done y _ (λ i. c.words.ensures i + c.length_at-width.result - c.words-2.ensures i) c.raise_way.ensures c.raise.ensures) in
    record { stepped = told.0; measured = told.1 }
