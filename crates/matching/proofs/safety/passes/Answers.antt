-- `safety::passes` meets its contract.
use mathlib.Core.Bool.{not}
use mathlib.Core.Path.{ap, ◌∙◌}
use Rattle.matching.specs.StrategyTest.{idle_test, closes}
use Rattle.matching.proofs.safety.SafetySteps.{passes-constructor, passes-closes}
use Rattle.reader.specs.Book.{system_of}
use Rattle.matching.proofs.safety.passes.Goals as goal

pub returns-then-not-defined : goal.returns-then-not-defined
returns-then-not-defined c =
    let a = c.args in
    ap not c.if-not-defined.true ∙ passes-constructor (system_of a.book.now.words.now) a.f c.defined.ensures c.if-not-defined.true

pub returns-else-not-defined : goal.returns-else-not-defined
returns-else-not-defined c =
    let a = c.args in
    let s = system_of a.book.now.words.now in
    passes-closes s a.f c.defined.ensures c.if-not-defined.false (c.closes.ensures ∙ ap (closes (idle_test s a.f)) c.requires)
