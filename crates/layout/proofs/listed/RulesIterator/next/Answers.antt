-- `next` of a walk over the rules meets its contract.
use native.Mathlib.Omega.{arith}
use mathlib.Core.Path.{refl}
use Rattle.layout.proofs.listed.Walks.{Walks, Steps, walk-stands, steps}
use Rattle.layout.proofs.listed.RulesIterator.next.Goals as goal
use Rattle.layout.proofs.listed.RulesIterator.next.Goals.{Start, After-rule_at-rule}

walk : (c : Start) → let s = c.args.self.now in Walks s.book.words.now s.book.shape s.at s.left
walk c = let s = c.args.self.now in record { accepted = s.book.accepted; within = s.within; stands = s.stands }

here : (c : After-rule_at-rule) → let s = c.args.self.now in Steps s.book.words.now s.book.shape s.at s.left c.rule_at-rule.result
here c =
    let s = c.args.self.now in
    let w : Walks s.book.words.now s.book.shape s.at s.left = record { accepted = s.book.accepted; within = s.within; stands = s.stands } in
    steps w (omega arith) c.rule_at-rule.ensures.at c.rule_at-rule.ensures.sides

pub rule_at-rule-requires : goal.rule_at-rule-requires
rule_at-rule-requires c = walk-stands (walk (goal.at.rule_at-rule-requires c).Start) (omega arith)

pub invariant_of-self : goal.invariant_of-self
invariant_of-self c = let w = (here (goal.at.invariant_of-self c).After-rule_at-rule).goes in record { within = w.within; stands = w.stands }

pub returns-clause-steps : goal.returns-clause-steps
returns-clause-steps c =
    let h = here (goal.at.returns-clause-steps c).After-rule_at-rule in (h.first, c.rule_at-rule.ensures.at, refl)
