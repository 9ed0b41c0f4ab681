-- `safety::defined` meets its contract.
use mathlib.Core.Path.{◌∙◌}
use borrow.Author.Rules.{rules}
use borrow.Author.Tests.{tests}
use Rattle.std.proofs.lemmas.Iterator.Search.{any_from_yields_List}
use Rattle.reader.specs.Book.{system_of}
use Rattle.layout.proofs.listed.Turns.{YieldsList-from_rules, all-come}
use Rattle.matching.proofs.safety.SafetySteps.{starts, defined-any}
use Rattle.matching.proofs.safety.defined.Goals as goal

pub returns : goal.returns
returns c =
    let a = c.args in
    let r = c.rules_of in
    any_from_yields_List (starts a.f) c.any.new.self _ c.any.result c.any.ensures.ran
    (YieldsList-from_rules r.result (system_of a.book.now.words.now).rules (all-come c.args.book.now.accepted r.result r.ensures.left r.ensures.book)) (λ x b q k. search (rules, tests))
    ∙ defined-any (system_of a.book.now.words.now) a.f
