-- `testing::test` meets its contract.
use mathlib.Core.Path.{◌≡◌, refl, sym, ap, ◌∙◌}
use Rattle.reader.proofs.scan.Outcomes.{scan-refused, scan-words}
use Rattle.termination.specs.WeightTest.{fall_answer, weights_answer}
use Rattle.termination.proofs.Tests.{weights-refused}
use Rattle.termination.proofs.testing.TestSteps.{book-unweighed, weighed-range, book-weighed}
use Rattle.termination.proofs.testing.test.Goals as goal
use Rattle.termination.proofs.testing.test.Goals.{In-Ok}

-- the book is of the words that were scanned
told : (c : In-Ok) → let m = c.args.weights.now in weights_answer c.in-Ok.book.words.now m ≡ weights_answer c.args.scan.now.words.now m
told c = ap (λ b. weights_answer b c.args.weights.now) (scan-words c.args.scan.now refl c.in-Ok.is)

-- ---- the goals

pub returns-in-Err : goal.returns-in-Err
returns-in-Err c =
    let s = c.args.scan.now in
    c.into.ensures ∙ sym (weights-refused s.words.now c.args.weights.now (scan-refused s refl c.in-Err.is))

pub returns-then-not-weighs : goal.returns-then-not-weighs
returns-then-not-weighs c =
    c.new.ensures ∙ book-unweighed c.in-Ok.book.accepted c.args.weights.now c.weighs.ensures c.if-not-weighs.true
    ∙ told (goal.at.returns-then-not-weighs c).In-Ok

pub first_rising-requires : goal.first_rising-requires
first_rising-requires c = weighed-range c.in-Ok.book.accepted c.args.weights.now c.weighs.ensures c.if-not-weighs.false

pub returns-in-Some : goal.returns-in-Some
returns-in-Some c =
    c.new-in-Some.ensures ∙ ap fall_answer (sym c.in-Some.ensures)
    ∙ book-weighed c.in-Ok.book.accepted c.args.weights.now c.weighs.ensures c.if-not-weighs.false
    ∙ told (goal.at.returns-in-Some c).In-Ok

pub returns-in-None : goal.returns-in-None
returns-in-None c =
    c.new-in-None.ensures ∙ ap fall_answer (sym c.in-None.ensures)
    ∙ book-weighed c.in-Ok.book.accepted c.args.weights.now c.weighs.ensures c.if-not-weighs.false
    ∙ told (goal.at.returns-in-None c).In-Ok
