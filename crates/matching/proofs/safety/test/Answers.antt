-- `safety::test` meets its contract.
use mathlib.Core.Path.{◌≡◌, refl, sym, ap, ◌∙◌}
use Rattle.reader.proofs.scan.Outcomes.{scan-refused, scan-words}
use Rattle.matching.specs.StrategyTest.{first_unsafe, safety_answer, test_answer}
use Rattle.reader.specs.Book.{system_of}
use Rattle.matching.proofs.Tests.{test-refused, test-accepted}
use Rattle.matching.proofs.safety.test.Goals as goal
use Rattle.matching.proofs.safety.test.Goals.{In-Ok}

tested : (c : In-Ok) → let b = c.in-Ok.book.words.now in safety_answer (first_unsafe (system_of b)) ≡ test_answer c.args.scan.now.words.now
tested c = let b = c.in-Ok.book in
    sym (test-accepted b.words.now b.accepted.accepted) ∙ ap test_answer (scan-words c.args.scan.now refl c.in-Ok.is)

-- ---- the goals

pub returns-in-Err : goal.returns-in-Err
returns-in-Err c = let s = c.args.scan.now in c.into.ensures ∙ sym (test-refused s.words.now (scan-refused s refl c.in-Err.is))

pub returns-in-Some : goal.returns-in-Some
returns-in-Some c = c.new.ensures ∙ ap safety_answer (sym c.in-Some.ensures) ∙ tested (goal.at.returns-in-Some c).In-Ok

pub returns : goal.returns
returns c = c.new-2.ensures ∙ ap safety_answer (sym c.in_default.ensures) ∙ tested (goal.at.returns c).In-Ok
