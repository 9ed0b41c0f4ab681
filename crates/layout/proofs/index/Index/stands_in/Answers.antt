-- `Index::stands_in` meets its contract.
use borrow.Author.Rules.{rules}
use borrow.Author.Tests.{tests}
use mathlib.Core.Path.{sym, ap, ◌∙◌}
use lib.Dec.{eqb}
use Rattle.std.proofs.lemmas.Iterator.{YieldsList-from_slice}
use Rattle.std.proofs.lemmas.Iterator.Search.{any_from_yields_List}
use Rattle.system.specs.System.{strategy}
use Rattle.system.specs.Terms.{among}
use Rattle.reader.specs.Book.{system_of}
use Rattle.layout.proofs.entries.Repeats.{among-any}
use Rattle.layout.proofs.entries.Standing.{among-unlisted, plain-among, operator-among}
use Rattle.layout.proofs.index.Index.stands_in.Goals as goal

pub returns-then-n-ne0 : goal.returns-then-n-ne0
returns-then-n-ne0 c =
    let a = c.args in
    let n = c.built_in_arity-n in
    operator-among a.w a.e n.result n.ensures.0 n.ensures.1 c.if-n-ne0.true
    ∙ among-unlisted a.self.now.book.words.now a.self.now.book.shape c.args.self.now.book.accepted a.w c.wide-symbol.result a.e c.wide-symbol.ensures.0 c.if-self-symbol.true

pub returns-else-n-ne0 : goal.returns-else-n-ne0
returns-else-n-ne0 c =
    let a = c.args in
    let n = c.built_in_arity-n in
    rw c.if-n-ne0.false (plain-among a.w a.e n.result n.ensures.0 n.ensures.1 c.if-n-ne0.false)
    ∙ among-unlisted a.self.now.book.words.now a.self.now.book.shape c.args.self.now.book.accepted a.w c.wide-symbol.result a.e c.wide-symbol.ensures.0 c.if-self-symbol.true

pub returns : goal.returns
returns c =
    let a = c.args in
    let es = c.entries_of-entries.result.now in
    any_from_yields_List (eqb a.e) _ _ c.any.result c.any.ensures.ran (YieldsList-from_slice es c.iter.ensures.rest) (λ x b q k. search (rules, tests))
    ∙ sym (among-any a.e es) ∙ ap (among a.e) c.entries_of-entries.ensures ∙ ap (λ w. among a.e (strategy (system_of a.self.now.book.words.now) w)) c.wide-symbol.ensures.0
