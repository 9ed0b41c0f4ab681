-- `rewrites::rewrite` meets its contract: the right side is that of a listed rule, or the word of a built-in one.
use mathlib.Core.Path.{ap}
use Rattle.system.specs.Signature.{signature_of}
use Rattle.sides.specs.sides.Sides.{stretches_in}
use Rattle.rewrites.proofs.rewrites.Listed.{listed-rule, listed-more}
use Rattle.rewrites.proofs.rewrites.Built.{built-rule, word-symbol, word-arity, word_wide, word-puttable, word-rewritten, put-rewrites}
use Rattle.rewrites.proofs.rewrites.Sides.{kept-sided, kept-fits, listed-puttable, listed-rewrites}
use Rattle.rewrites.proofs.rewrites.rewrite.Goals as goal

-- ---- a built-in rule

pub put_word-requires : goal.put_word-requires
put_word-requires c =
    let acc = c.args.index.now.book.accepted in
    let e = c.requires in
    let q = built-rule acc e c.in-BuiltIn.is in
    ((signature_of c.args.index.now.book.words.now, stretches_in c.args.bindings.now, word-puttable acc e q), word-symbol acc e q, word_wide acc e q)

pub returns-in-BuiltIn : goal.returns-in-BuiltIn
returns-in-BuiltIn c =
    let acc = c.args.index.now.book.accepted in
    let e = c.requires in
    let q = built-rule acc e c.in-BuiltIn.is in
    put-rewrites acc e _ c.args.site.width _ (word-rewritten acc e q) _ _
    (c.put_word.ensures (signature_of c.args.index.now.book.words.now) (stretches_in c.args.bindings.now) (word-puttable acc e q) (word-arity acc e q))

-- ---- a listed one, and its sides

pub rule-rule-requires : goal.rule-rule-requires
rule-rule-requires c = listed-more c.args.index.now.book.accepted c.requires c.in-Listed.is

pub overflow_sub-mid : goal.overflow_sub-mid
overflow_sub-mid c = c.shared_end.ensures.1

pub reduct_length-requires : goal.reduct_length-requires
reduct_length-requires c =
    let acc = c.args.index.now.book.accepted in
    let e = c.shared_end in (
      kept-sided acc c.requires (listed-rule acc c.requires c.in-Listed.is).2 (ap (λ r. r.lhs) c.rule-rule.ensures.sides) (ap (λ r. r.rhs) c.rule-rule.ensures.sides) e.result e.ensures.1 e.ensures.2,
      c.requires.many,
    )

-- what stays is no more than the redex
pub overflow_sub-width : goal.overflow_sub-width
overflow_sub-width c =
    let acc = c.args.index.now.book.accepted in
    let e = c.shared_end in
    kept-fits acc c.requires (listed-rule acc c.requires c.in-Listed.is).2 (ap (λ r. r.lhs) c.rule-rule.ensures.sides) (ap (λ r. r.rhs) c.rule-rule.ensures.sides)
    e.result e.ensures.1 e.ensures.2 c.reduct_length.result c.reduct_length.ensures

pub put_reduct-requires : goal.put_reduct-requires
put_reduct-requires c =
    let acc = c.args.index.now.book.accepted in
    let e = c.shared_end in
    listed-puttable acc c.requires (listed-rule acc c.requires c.in-Listed.is).2 (ap (λ r. r.lhs) c.rule-rule.ensures.sides) (ap (λ r. r.rhs) c.rule-rule.ensures.sides)
    e.result e.ensures.1 e.ensures.2 c.reduct_length.result c.reduct_length.ensures

pub returns-in-Listed : goal.returns-in-Listed
returns-in-Listed c =
    let acc = c.args.index.now.book.accepted in
    let e = c.shared_end in
    listed-rewrites acc c.requires (listed-rule acc c.requires c.in-Listed.is).2 (ap (λ r. r.lhs) c.rule-rule.ensures.sides) (ap (λ r. r.rhs) c.rule-rule.ensures.sides)
    e.result e.ensures.1 e.ensures.2 c.reduct_length.result c.reduct_length.ensures
    _ _ c.put_reduct.ensures
