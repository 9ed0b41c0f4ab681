-- `expand_checked` meets its contract.
use mathlib.Core.Path.{sym, ap, ◌∙◌, subst}
use Rattle.matching.specs.StrategyTest.{test_answer}
use Rattle.evaluation.specs.Expansion.{expansion}
use Rattle.rewriting.specs.Evaluation.{unrecorded}
use Rattle.demands.specs.Demand3.{IsDone, IsStopped, IsHandedBack, IsFound}
use Rattle.demands.proofs.Demand3.{is-done, is-handed-back, is_found}
use Rattle.demands.proofs.Stopped.{is-stopped}
use Rattle.demands.proofs.expand_checked.Goals as goal

pub returns : goal.returns
returns c =
    let a = c.args in
    let b = a.book.now in
    let u = a.term.now in
    let l = unrecorded a.limit in
    let o = a.out.now in
    let w = a.work.now in
    let is = c.scan_book-s.ensures in
    let e = c.expand_scanned-answer.ensures ∙ ap (λ b. expansion b.now u l o w) is in
    let done = subst (IsDone b u l) (sym e) (is-done b u l o w) in
    let handed = subst (IsHandedBack b u l o w) (sym e) (is-handed-back b u l o w) in
    let found = subst (IsFound b) (sym e) (is_found b u l o w) in
    let stopped = subst (IsStopped b u l) (sym e) (is-stopped b u l o w) in
    record {
      tested = c.test-test.ensures ∙ ap (λ b. test_answer b.now) is;
      expanded = e;
      done = done;
      handed = handed;
      found = found;
      stopped = stopped;
    }
