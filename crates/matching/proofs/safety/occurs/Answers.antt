-- `safety::occurs` meets its contract.
use mathlib.Core.Path.{◌∙◌}
use borrow.Author.Rules.{rules}
use borrow.Author.Tests.{tests}
use lib.Dec.{eqb}
use Rattle.std.proofs.lemmas.Iterator.{YieldsList-from_slice}
use Rattle.std.proofs.lemmas.Iterator.Consumers.{YieldsList-at, YieldsList-from_filter, count_from_yields_List}
use Rattle.matching.proofs.safety.SafetySteps.{occurs-count}
use Rattle.matching.proofs.safety.occurs.Goals as goal

pub returns : goal.returns
returns c =
    let a = c.args in
    count_from_yields_List c.filter.result c.count.result c.count.ensures.ran
    (YieldsList-from_filter _ (λ v. eqb v a.w) (YieldsList-at c.filter.ensures.source (YieldsList-from_slice a.words.now cc)) c.filter.ensures.closure (λ x b q k. search (rules, tests)))
    ∙ occurs-count a.w a.words.now
