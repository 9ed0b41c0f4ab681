use native.Mathlib.Omega.{arith}
use mathlib.Core.Path.{◌≡◌, ap, ◌∙◌}
use lib.ListN.{length, get_or, replicate}
use Rattle.std.proofs.lemmas.List.{get_or-replicate, length-replicate}
use Rattle.layout.specs.index.Index.{buckets}
use Rattle.layout.proofs.Books.{rule-count}
use Rattle.layout.proofs.index.Indexing.{linking-empty}
use Rattle.layout.proofs.index.Noting.{rules-few, link-few, link-stands, linking-next}
use Rattle.layout.proofs.index.link_rules.Goals as goal

pub overflow_cast-book : goal.overflow_cast-book
overflow_cast-book c = let n = rules-few c.args.book.now.accepted in omega arith

pub loop-k-init : goal.loop-k-init
loop-k-init c =
    let b = c.args.book.now in
    let n = rule-count b.words.now b.shape b.accepted in
    let l : length c.args.firsts.now ≡ buckets = search in
    let e : c.fill.new.self ≡ replicate buckets b.shape.rules = c.fill.ensures.after (λ y e. e) ∙ ap (λ m. replicate m b.shape.rules) l in
    record {
      linked = linking-empty b.accepted (ap length e ∙ length-replicate buckets b.shape.rules) (search)
          (λ d h. ap (λ xs. get_or xs d 0) e ∙ get_or-replicate buckets d b.shape.rules 0 h);
      inside = omega arith;
    }

pub offset_bounds-rules-k : goal.offset_bounds-rules-k
offset_bounds-rules-k c = let n = link-few c.args.book.now.accepted c.requires c.loop-k.invariant in let h = c.loop-k-test.true in omega arith

pub bounds-rules-k : goal.bounds-rules-k
bounds-rules-k c = let n = link-few c.args.book.now.accepted c.requires c.loop-k.invariant in let h = c.loop-k-test.true in omega arith

pub rule_at-rule-requires : goal.rule_at-rule-requires
rule_at-rule-requires c = let h = c.loop-k-test.true in link-stands c.args.book.now.accepted c.requires c.loop-k.invariant (omega arith) c.wide.ensures.0

pub offset_bounds-nexts-k : goal.offset_bounds-nexts-k
offset_bounds-nexts-k c = let n = link-few c.args.book.now.accepted c.requires c.loop-k.invariant in let h = c.loop-k-test.true in omega arith

pub bounds-nexts-k : goal.bounds-nexts-k
bounds-nexts-k c = let n = link-few c.args.book.now.accepted c.requires c.loop-k.invariant in let h = c.loop-k-test.true in omega arith

pub overflow_cast-firsts : goal.overflow_cast-firsts
overflow_cast-firsts c = let n = link-few c.args.book.now.accepted c.requires c.loop-k.invariant in let h = c.loop-k-test.true in omega arith

pub loop-k-preserved : goal.loop-k-preserved
loop-k-preserved c =
    let h = c.loop-k-test.true in
    linking-next c.args.book.now.accepted c.requires c.loop-k.invariant (omega arith) c.rule_at-rule.result c.wide.ensures.0 c.rule_at-rule.ensures.sides c.wide-first.ensures.0
