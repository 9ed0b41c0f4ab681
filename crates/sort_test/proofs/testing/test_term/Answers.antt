-- `testing::test_term` meets its contract.
use mathlib.Core.Path.{◌∙◌}
use Rattle.system.specs.Signature.{signature_of}
use Rattle.terms.proofs.checking.Checks.{found-some, found-none}
use Rattle.sort_test.proofs.testing.TestSteps.{term-breaks, term-whole, term-tested, narrow-book}
use Rattle.sort_test.proofs.testing.test_term.Goals as goal

pub returns-in-Some : goal.returns-in-Some
returns-in-Some c =
    let a = c.args in
    c.new.ensures ∙ term-breaks (signature_of a.book.now.words.now) a.kinds.now a.term.now (found-some c.in-Some.ensures)

pub sorted-requires : goal.sorted-requires
sorted-requires c =
    let a = c.args in
    let w = term-whole (signature_of a.book.now.words.now) a.kinds.now a.term.now (found-none c.in_default.ensures) in
    (w.0, w.1, narrow-book a.book.now.accepted)

pub returns-then-not-sorted : goal.returns-then-not-sorted
returns-then-not-sorted c = let a = c.args in
    c.new-then-not-sorted.ensures ∙ term-tested (signature_of a.book.now.words.now) a.kinds.now a.term.now (found-none c.in_default.ensures) c.sorted.ensures c.if-not-sorted.true

pub returns : goal.returns
returns c = let a = c.args in
    c.new-2.ensures ∙ term-tested (signature_of a.book.now.words.now) a.kinds.now a.term.now (found-none c.in_default.ensures) c.sorted.ensures c.if-not-sorted.false
