use Prim.Native.Nat.{◌-◌, ◌<◌, ◌≤◌}
use native.Mathlib.Omega.{arith}
use mathlib.Core.Path.{◌≡◌, ◌∙◌}
use lib.ListN.{length, drop}
use Rattle.reader.specs.Book.{system_of}
use Rattle.system.specs.Signature.{span}
use Rattle.rows.specs.Rows.{term_in}
use Rattle.rows.specs.gap.Gaps.{words_in}
use Rattle.rows.proofs.lengths.Measures.{words-length, measured-length}
use Rattle.walks.proofs.walk.Hopping.{some-argument, hopping-first, hopping-bounds, hopping-next, held-here, held-last}
use Rattle.walks.proofs.walk.holder.Goals as goal
use Rattle.walks.proofs.walk.holder.Goals.{After-length_at-width, At-loop-number, Start}

size : (c : Start) → let a = c.args in length (term_in a.area.now a.gap) ≡ words_in a.gap
size c = words-length c.requires.0.gapped

size' : (c : At-loop-number) → let a = c.args in length (term_in a.area.now a.gap) ≡ words_in a.gap
size' c = words-length c.requires.0.gapped

bounds : (c : At-loop-number) → let a = c.args in (c.loop-number.start ≤ a.q) × (a.q < words_in a.gap)
bounds c = let b = hopping-bounds _ c.loop-number.invariant in (b.0, omega (arith, b.1, size' c))

-- the argument's length is that of its words
spans : (c : After-length_at-width) → let a = c.args in
    c.length_at-width.result ≡ span (system_of a.book.now.words.now).arities (drop c.loop-number.start (term_in a.area.now a.gap)) 1
spans c = c.length_at-width.ensures.0 ∙ measured-length c.requires.0 c.loop-number.start

-- ---- the goals: before the loop

pub word_at-requires : goal.word_at-requires
word_at-requires c = (c.requires.0.gapped, omega (arith, c.requires.1.within, size (goal.at.word_at-requires c).Start))

pub overflow_sub-last : goal.overflow_sub-last
overflow_sub-last c =
    let w = c.word_at in
    some-argument c.args.book.now c.requires.1 c.requires.2 w.result w.ensures c.arity-last.result c.arity-last.ensures.0

pub loop-number-init : goal.loop-number-init
loop-number-init c =
    let w = c.word_at in
    hopping-first c.args.book.now c.requires.1 c.requires.2 w.result w.ensures c.arity-last.result c.arity-last.ensures.0

-- ---- in the loop

pub length_at-width-requires : goal.length_at-width-requires
length_at-width-requires c = let b = bounds (goal.at.length_at-width-requires c).At-loop-number in (c.requires.0.gapped, omega arith)

pub returns-then-q-start : goal.returns-then-q-start
returns-then-q-start c = held-here _ c.loop-number.invariant c.length_at-width.result (spans (goal.at.returns-then-q-start c).After-length_at-width) c.if-q-start.true

pub loop-number-preserved : goal.loop-number-preserved
loop-number-preserved c = hopping-next _ c.loop-number.invariant c.length_at-width.result (spans (goal.at.loop-number-preserved c).After-length_at-width) c.if-q-start.false

pub returns : goal.returns
returns c = let l = c.loop-number in let e : c.arity-last.result - 1 ≡ l.number = omega arith in rw e (held-last _ l.invariant c.loop-number-test.false)
