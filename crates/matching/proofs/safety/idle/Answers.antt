-- `safety::idle` meets its contract.
use mathlib.Core.Path.{◌∙◌}
use borrow.Author.Rules.{rules}
use borrow.Author.Tests.{tests}
use Rattle.std.proofs.lemmas.Iterator.Consumers.{YieldsList-at, YieldsList-from_filter}
use Rattle.std.proofs.lemmas.Iterator.Search.{all_from_yields_List}
use Rattle.system.specs.Signature.{signature_of}
use Rattle.reader.specs.Book.{system_of}
use Rattle.layout.proofs.listed.Turns.{YieldsList-from_rules, all-come}
use Rattle.matching.specs.StrategyTest.{held_once}
use Rattle.matching.proofs.safety.SafetySteps.{starts, idle-all}
use Rattle.matching.proofs.safety.idle.Goals as goal

pub returns : goal.returns
returns c =
    let a = c.args in
    let r = c.rules_of in
    all_from_yields_List (λ r. held_once (signature_of a.book.now.words.now) r.lhs a.i) c.all.new.self _ c.all.result c.all.ensures.ran
    (YieldsList-from_filter _ (starts a.f)
    (YieldsList-at c.filter.ensures.source (YieldsList-from_rules r.result (system_of a.book.now.words.now).rules (all-come c.args.book.now.accepted r.result r.ensures.left r.ensures.book)))
    c.filter.ensures.closure (λ x b q k. search (rules, tests)))
    (λ x b q k. search (rules, tests))
    ∙ idle-all c.args.book.now.accepted a.f a.i
