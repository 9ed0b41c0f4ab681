use Rattle.terms.proofs.checking.TermSteps.{break-complete, break-long, break-unknown, break-next, break-short, break-none}
use Rattle.reader.specs.scan.Sections.{found}
use Rattle.system.specs.Signature.{signature_of}
use borrow.Author.Tests.{eq-eqb, ne_eqb}
use lib.ListN.{length}
use native.Mathlib.Decide.{ℕ_discrete}
use native.Mathlib.Omega.{arith}
use mathlib.Core.Path.{◌≡◌, sym, ap, ◌∙◌}
use Rattle.terms.proofs.checking.first_break.Goals as goal
use Rattle.terms.proofs.checking.first_break.Goals.{then-due-eq0-via-then-due-eq0 as complete}
use Rattle.terms.proofs.checking.first_break.Goals.{then-due-eq0-via-else-due-eq0+then-i-ge-TERM_WORDS as long}
use Rattle.terms.proofs.checking.first_break.Goals.{then-due-eq0-via-else-due-eq0+else-i-ge-TERM_WORDS+then-not-is_symbol as unknown}

pub returns-then-due-eq0 : goal.returns-then-due-eq0
returns-then-due-eq0 c =
    let l = c.loop-i in
    let t = c.args.term.now in
    let g = signature_of c.args.book.now in
    ap found (sym (elim c.then-due-eq0.branch [
      | complete w ↦ break-complete g t l.due l.i (omega arith) w.if-due-eq0.true
      | long w ↦ break-long g t l.due l.i (omega arith) (let h = w.if-i-ge-TERM_WORDS.true in omega arith)
      | unknown w ↦ break-unknown g t l.due l.i (omega arith) (sym w.if-not-is_symbol.ensures)
    ]) ∙ l.invariant.2)

pub loop-i-preserved : goal.loop-i-preserved
loop-i-preserved c =
    let l = c.loop-i in
    let a = c.args in (
      omega arith,
      omega arith,
      rw c.arity.ensures.0 (sym (break-next (signature_of a.book.now) a.term.now l.due l.i (omega arith) (omega arith) (omega arith) (sym c.if-not-is_symbol.ensures)) ∙ l.invariant.2),
    )

pub returns : goal.returns
returns c =
    let l = c.loop-i in
    let t = c.args.term.now in
    let g = signature_of c.args.book.now in
    let e : l.i ≡ length t = omega arith in
    c.then_some.ensures ∙ elim (ℕ_discrete l.due 0) [
      | yes z ↦ rw (eq-eqb l.due 0 z) (ap found (sym (break-none g t l.due l.i (omega arith) z) ∙ l.invariant.2))
      | no n ↦ rw (ne_eqb l.due 0 n, ← e) (ap found (sym (break-short g t l.due l.i (omega arith) (omega arith)) ∙ l.invariant.2))
    ]
