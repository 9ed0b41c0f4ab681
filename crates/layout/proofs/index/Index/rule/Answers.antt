-- `Index::rule` meets its contract.
use native.Mathlib.Omega.{arith}
use Rattle.layout.specs.index.Accepted.{RulesAt}
use Rattle.layout.proofs.Books.{rule-count}
use Rattle.layout.proofs.index.Noting.{rules-few}
use Rattle.layout.proofs.index.Index.rule.Goals as goal
use Rattle.layout.proofs.index.Index.rule.Goals.{After-wide-at}

stands : (c : After-wide-at) → RulesAt c.args.self.now.book.words.now c.args.k c.wide-at.result
stands c = rw c.wide-at.ensures.0 (c.args.self.now.indexed.rules.stands c.args.k c.requires)

pub offset_bounds-self-k : goal.offset_bounds-self-k
offset_bounds-self-k c = let n = rules-few c.args.self.now.book.accepted in omega arith

pub bounds-self-k : goal.bounds-self-k
bounds-self-k c = let n = rules-few c.args.self.now.book.accepted in let slots = c.args.self.now.indexed.rules.slots in omega arith

pub rule_at-requires : goal.rule_at-requires
rule_at-requires c =
    let b = c.args.self.now.book in
    let n = rule-count b.words.now b.shape b.accepted in
    (c.args.k, (omega arith), stands (goal.at.rule_at-requires c).After-wide-at)

pub returns-clause-at : goal.returns-clause-at
returns-clause-at c = rw c.rule_at.ensures.at (stands (goal.at.returns-clause-at c).After-wide-at)

pub returns-clause-sides : goal.returns-clause-sides
returns-clause-sides c = c.rule_at.ensures.sides c.args.k c.requires (stands (goal.at.returns-clause-sides c).After-wide-at)
