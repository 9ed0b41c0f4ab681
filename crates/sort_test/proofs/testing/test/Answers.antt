-- `testing::test` meets its contract.
use mathlib.Core.Path.{◌≡◌, refl, sym, ap, ◌∙◌}
use Rattle.reader.proofs.scan.Outcomes.{scan-refused, scan-words}
use Rattle.sort_test.specs.SortTest.{sorts_answer}
use Rattle.sort_test.proofs.Tests.{sorts-refused}
use Rattle.sort_test.proofs.testing.TestSteps.{book-unlisted, listed-ill, listed-term}
use Rattle.sort_test.proofs.testing.test.Goals as goal
use Rattle.sort_test.proofs.testing.test.Goals.{In-Ok}

-- the book is of the words that were scanned
told : (c : In-Ok) → let a = c.args in sorts_answer c.in-Ok.book.words.now a.term.now a.kinds.now ≡ sorts_answer a.scan.now.words.now a.term.now a.kinds.now
told c = let a = c.args in ap (λ b. sorts_answer b a.term.now a.kinds.now) (scan-words a.scan.now refl c.in-Ok.is)

-- ---- the goals

pub returns-in-Err : goal.returns-in-Err
returns-in-Err c =
    let a = c.args in
    let s = a.scan.now in
    c.into.ensures ∙ sym (sorts-refused s.words.now a.term.now a.kinds.now (scan-refused s refl c.in-Err.is))

pub returns-then-not-lists : goal.returns-then-not-lists
returns-then-not-lists c =
    let a = c.args in
    c.new.ensures ∙ book-unlisted c.in-Ok.book.accepted a.term.now a.kinds.now c.lists.ensures c.if-not-lists.true
    ∙ told (goal.at.returns-then-not-lists c).In-Ok

pub returns-in-Some : goal.returns-in-Some
returns-in-Some c =
    let a = c.args in
    c.new-in-Some.ensures ∙ listed-ill c.in-Ok.book.accepted a.term.now a.kinds.now c.lists.ensures c.if-not-lists.false c.in-Some.ensures
    ∙ told (goal.at.returns-in-Some c).In-Ok

pub returns-in-None : goal.returns-in-None
returns-in-None c =
    let a = c.args in
    c.test_term.ensures ∙ listed-term c.in-Ok.book.accepted a.term.now a.kinds.now c.lists.ensures c.if-not-lists.false c.in-None.ensures
    ∙ told (goal.at.returns-in-None c).In-Ok
