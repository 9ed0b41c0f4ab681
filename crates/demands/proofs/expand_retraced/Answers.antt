-- `expand_retraced` meets its contract.
use Prim.Native.Nat.{ℕ, ◌*◌}
use native.Mathlib.Nat.{sub-zero}
use native.Mathlib.Omega.{arith}
use mathlib.Core.Path.{◌≡◌, sym, ap, ◌∙◌, subst, subst₂}
use mathlib.Core.List.{List}
use lib.ListN.{length, take}
use Rattle.system.proofs.Taken.{number-taken, number-untaken}
use Rattle.rewriting.specs.Evaluation.{Limits, recorded}
use Rattle.evaluation.specs.Expansion.{Expansion, answer_and_buffers, expansion, record_after}
use Rattle.replay.specs.Replaying.{replaying}
use Rattle.demands.specs.Demand3.{IsDone, IsStopped}
use Rattle.demands.specs.Retracing.{Reported}
use Rattle.demands.proofs.Demand3.{is-done}
use Rattle.demands.proofs.Stopped.{is-stopped, is-reported}
use Rattle.demands.proofs.Retracing.{retracing-none, retracing-goes, pairs-fit, is-retraced}
use Rattle.demands.proofs.expand_retraced.Goals as goal
use Rattle.demands.proofs.expand_retraced.Goals.{After-is_taken, Start}

abbrev limits : Start → Limits
limits c = recorded c.args.limit (length c.args.«record».now)

-- the expansion is over the words that were scanned
made : (c : After-is_taken) → let a = c.args in let e = c.expand_within-answer in let l = recorded a.limit (length a.«record».now) in
    (answer_and_buffers e.result e.new.out e.new.work ≡ expansion a.book.now a.term.now l a.out.now a.work.now)
    × (e.new.«record» ≡ record_after a.book.now a.term.now l a.out.now a.work.now a.«record».now)
made c = let h = c.expand_within-answer.ensures in rw (← c.scan_book-s.ensures) (h.expanded, h.told)

-- ---- the goals

-- what an expansion x with a record, which left words' in it, says of its steps
says : (c : Start) (x : Expansion) (words' : List ℕ) →
    let a = c.args in
    x ≡ expansion a.book.now a.term.now (limits c) a.out.now a.work.now →
    words' ≡ record_after a.book.now a.term.now (limits c) a.out.now a.work.now a.«record».now →
    IsDone a.book.now a.term.now (limits c) x × IsStopped a.book.now a.term.now (limits c) x
    × Reported a.book.now a.term.now (limits c) a.«record».now words' x
says c x words' e k =
    let a = c.args in
    let b = a.book.now in
    let v = a.term.now in
    let o = a.out.now in
    let w = a.work.now in
    let words = a.«record».now in (
      subst (IsDone b v (limits c)) (sym e) (is-done b v (limits c) o w),
      subst (IsStopped b v (limits c)) (sym e) (is-stopped b v (limits c) o w),
      subst₂ (Reported b v (limits c) words) (sym k) (sym e) (is-reported b v a.limit o w words),
    )

pub returns-then-not-is_taken : goal.returns-then-not-is_taken
returns-then-not-is_taken c =
    let a = c.args in
    let e = c.expand_within-answer in
    let r = e.result in
    let b = a.book.now in
    let v = a.term.now in
    let words = e.new.«record» in
    let bad = number-untaken c.is_taken.ensures c.if-not-is_taken.true in
    let h = made (goal.at.returns-then-not-is_taken c).After-is_taken in
    let none = retracing-none b v r words a.again.now a.spare.now bad in
    let y = says (goal.at.returns-then-not-is_taken c).Start _ words h.0 h.1 in
    record {
      expanded = h.0;
      told = h.1;
      replayed = ap (λ y. answer_and_buffers y a.again.now a.spare.now) c.from.ensures ∙ none;
      done = y.0;
      retraced = λ z _ _. absurd (bad z);
      stopped = y.1;
      reported = y.2;
    }

pub slice_bounds-replay_scanned-end : goal.slice_bounds-replay_scanned-end
slice_bounds-replay_scanned-end c =
    let a = c.args in
    let e = c.expand_within-answer in
    let h = made (goal.at.slice_bounds-replay_scanned-end c).After-is_taken in
    let l = pairs-fit a.book.now a.term.now a.limit a.out.now a.work.now a.«record».now e.result _ _ _ h.0 h.1 (number-taken c.is_taken.ensures c.if-not-is_taken.false) in
    omega (arith, e.auto.«record»)

pub returns : goal.returns
returns c =
    let a = c.args in
    let e = c.expand_within-answer in
    let r = e.result in
    let b = a.book.now in
    let v = a.term.now in
    let o = a.out.now in
    let w = a.work.now in
    let words = e.new.«record» in
    let h = made (goal.at.returns c).After-is_taken in
    let f = c.replay_scanned-replay in
    let n = sub-zero (2 * r.steps) in
    let goes = f.ensures ∙ (λ i. replaying (c.scan_book-s.ensures i).now v (take (n i) words) a.again.now a.spare.now) in
    let y = says (goal.at.returns c).Start _ words h.0 h.1 in
    let back = is-retraced b v a.limit o w a.«record».now r _ _ words h.0 h.1 a.again.now a.spare.now _ (λ _. goes) in
    record {
      expanded = h.0;
      told = h.1;
      replayed = goes ∙ retracing-goes b v r words a.again.now a.spare.now (number-taken c.is_taken.ensures c.if-not-is_taken.false);
      done = y.0;
      retraced = back;
      stopped = y.1;
      reported = y.2;
    }
