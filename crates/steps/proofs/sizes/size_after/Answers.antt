-- `sizes::size_after` meets its contract: by a built-in rule, or by a listed one.
use Prim.Native.Nat.{◌+◌, ◌-◌, ◌<◌}
use native.Mathlib.Omega.{arith}
use mathlib.Core.Path.{◌≡◌, subst, sym, ap, ◌∙◌}
use lib.ListN.{length}
use Rattle.rows.specs.gap.Gaps.{words_in}
use Rattle.redexes.specs.search.Redexes.{binding_words}
use Rattle.rewrites.proofs.rewrites.Redexes.{words, small, ends}
use Rattle.rewrites.proofs.rewrites.Listed.{listed-rule, listed-more}
use Rattle.rewrites.proofs.rewrites.Built.{built-rule}
use Rattle.steps.proofs.steps.Stepping.{step-bounds, step-reads, step-bindings, step-counted, step-reducible}
use Rattle.steps.proofs.sizes.Sizes.{size-built, size-sided, size-listed, size-bound}
use Rattle.steps.proofs.sizes.size_after.Goals as goal

pub length_at-width-requires : goal.length_at-width-requires
length_at-width-requires c =
    let b = step-bounds c.args.index.now.book.accepted c.requires in
    (b.gapped, subst (λ p. p < words_in c.args.from.state.gap) (sym c.from-at.ensures) b.within)

pub words-requires : goal.words-requires
words-requires c = (step-bounds c.args.index.now.book.accepted c.requires).gapped.lies

pub overflow_sub-rest : goal.overflow_sub-rest
overflow_sub-rest c =
    let acc = c.args.index.now.book.accepted in
    let p = step-reducible acc c.requires c.length_at-width.result (step-reads acc c.requires c.from-at.ensures c.length_at-width.ensures.0) in
    omega (arith, c.words.ensures, ends acc p, words acc p)

-- ---- a built-in rule

pub returns-in-BuiltIn : goal.returns-in-BuiltIn
returns-in-BuiltIn c x q =
    let acc = c.args.index.now.book.accepted in
    let p = step-reducible acc c.requires c.length_at-width.result (step-reads acc c.requires c.from-at.ensures c.length_at-width.ensures.0) in
    ap (λ y. y - c.length_at-width.result + 1) c.words.ensures ∙ size-built acc p (built-rule acc p c.in-BuiltIn.is) x q

-- ---- a listed one

pub rule-rule-requires : goal.rule-rule-requires
rule-rule-requires c =
    let acc = c.args.index.now.book.accepted in
    let p = step-reducible acc c.requires c.length_at-width.result (step-reads acc c.requires c.from-at.ensures c.length_at-width.ensures.0) in
    listed-more acc p c.in-Listed.is

pub reduct_length-size-requires : goal.reduct_length-size-requires
reduct_length-size-requires c =
    let acc = c.args.index.now.book.accepted in
    let p = step-reducible acc c.requires c.length_at-width.result (step-reads acc c.requires c.from-at.ensures c.length_at-width.ensures.0) in (
      size-sided acc p (listed-rule acc p c.in-Listed.is).2 (ap (λ r. r.rhs) c.rule-rule.ensures.sides),
      subst (λ y. length y ≡ binding_words) (step-bindings acc c.requires) p.many,
    )

pub overflow_add-result-in-Listed : goal.overflow_add-result-in-Listed
overflow_add-result-in-Listed c =
    let acc = c.args.index.now.book.accepted in
    let p = step-reducible acc c.requires c.length_at-width.result (step-reads acc c.requires c.from-at.ensures c.length_at-width.ensures.0) in
    let counted = step-counted acc c.requires _ c.reduct_length-size.ensures in
    let right = ap (λ r. r.rhs) c.rule-rule.ensures.sides in
    omega (arith, c.words.ensures, small acc p, size-bound acc p (listed-rule acc p c.in-Listed.is).2 right c.reduct_length-size.result counted)

pub returns-in-Listed : goal.returns-in-Listed
returns-in-Listed c x q =
    let acc = c.args.index.now.book.accepted in
    let p = step-reducible acc c.requires c.length_at-width.result (step-reads acc c.requires c.from-at.ensures c.length_at-width.ensures.0) in
    let counted = step-counted acc c.requires _ c.reduct_length-size.ensures in
    let right = ap (λ r. r.rhs) c.rule-rule.ensures.sides in
    ap (λ y. y - c.length_at-width.result + c.reduct_length-size.result) c.words.ensures
    ∙ size-listed acc p (listed-rule acc p c.in-Listed.is).2 right c.reduct_length-size.result counted x q
