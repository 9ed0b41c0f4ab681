-- `scanned::check_call` meets its contract.
use mathlib.Core.Path.{◌≡◌, refl, sym, ap, ◌∙◌}
use Rattle.system.proofs.FaultNumbers.{fault-not-zero}
use Rattle.reader.specs.Answers.{term_answer}
use Rattle.reader.proofs.scan.Outcomes.{scan-words}
use Rattle.terms.proofs.checking.Checks.{scan_refuses}
use Rattle.evaluation.specs.Expansion.{room, earlier}
use Rattle.evaluation.proofs.Expanding.{earlier-refused, earlier-second, handed_on}
use Rattle.evaluation.proofs.scanned.check_call.Goals as goal
use Rattle.evaluation.proofs.scanned.check_call.Goals.{In_ok-room, After-check_over}

-- the buffers are large enough, so that the term's answer counts
counts : (c : In_ok-room) → let a = c.args in let t = term_answer a.scan.now.words.now a.term.now in earlier (room a.out a.work) t ≡ t
counts c = let a = c.args in earlier-second (room a.out a.work) (term_answer a.scan.now.words.now a.term.now) c.in_ok-room.ensures

checks : (c : After-check_over) → let a = c.args in c.check_over.result ≡ earlier (room a.out a.work) (term_answer a.scan.now.words.now a.term.now)
checks c = let a = c.args in
    c.check_over.ensures ∙ ap (λ b. term_answer b a.term.now) (scan-words a.scan.now refl c.in_ok-book.was)
    ∙ sym (earlier-second (room a.out a.work) (term_answer a.scan.now.words.now a.term.now) c.in_ok-room.ensures)

-- ---- the goals

pub returns-in_err-room-clause-checked : goal.returns-in_err-room-clause-checked
returns-in_err-room-clause-checked c =
    let a = c.args in
    let h = c.in_err-room.ensures in
    handed_on c.from_residual.result c.from_residual.ensures.1
    (earlier-refused (room a.out a.work) (term_answer a.scan.now.words.now a.term.now) h.0 h.1) h.1

pub returns-in_err-book-clause-checked : goal.returns-in_err-book-clause-checked
returns-in_err-book-clause-checked c =
    let a = c.args in
    let s = a.scan.now in
    let r = c.from_residual-in_err-book in
    handed_on r.result r.ensures.1
    (sym (scan_refuses s a.term.now c.in_err-book.was) ∙ sym (counts (goal.at.returns-in_err-book-clause-checked c).In_ok-room))
    (fault-not-zero c.in_err-book.field-0.0.fault)

pub returns-in_err-passed-clause-checked : goal.returns-in_err-passed-clause-checked
returns-in_err-passed-clause-checked c =
    let r = c.from_residual-in_err-passed in
    let h = c.in_err-passed.ensures in
    handed_on r.result r.ensures.1 (h.0 ∙ checks (goal.at.returns-in_err-passed-clause-checked c).After-check_over) h.1

pub returns : goal.returns
returns c = record {
  checked = sym (ap (λ y. y.number) (checks (goal.at.returns c).After-check_over)) ∙ c.in_ok-passed.ensures;
  same = scan-words c.args.scan.now refl c.in_ok-book.was;
}
