-- `expand_twice` meets its contract.
use Prim.Native.Nat.{◌-◌}
use mathlib.Core.Path.{◌≡◌, sym, ap, ◌∙◌, subst}
use lib.ListN.{take}
use native.Mathlib.Nat.{sub-zero}
use Rattle.matching.specs.StrategyTest.{test_answer}
use Rattle.system.proofs.Taken.{number-taken, number-untaken}
use Rattle.rewriting.specs.Evaluation.{unrecorded}
use Rattle.evaluation.specs.Expansion.{Expansion, answer_and_buffers, expansion}
use Rattle.evaluation.proofs.Handed.{handed-fits}
use Rattle.demands.specs.Demand3.{IsFound}
use Rattle.demands.proofs.Demand3.{is_found, second_none, second-goes, second-rests}
use Rattle.demands.proofs.expand_twice.Goals as goal
use Rattle.demands.proofs.expand_twice.Goals.{After-is_taken}

-- the first expansion, its numbers and both buffers
abbrev expanded : After-is_taken → Expansion
expanded c = let e = c.expand_scanned-first in answer_and_buffers e.result e.new.out e.new.work

first : (c : After-is_taken) → let a = c.args in expanded c ≡ expansion a.book.now a.term.now (unrecorded a.limit) a.out.now a.work.now
first c =
    let a = c.args in
    c.expand_scanned-first.ensures ∙ ap (λ b. expansion b.now a.term.now (unrecorded a.limit) a.out.now a.work.now) c.scan_book-s.ensures

-- ---- the goals

pub returns-then-not-is_taken : goal.returns-then-not-is_taken
returns-then-not-is_taken c =
    let a = c.args in
    let p = (goal.at.returns-then-not-is_taken c).After-is_taken in
    let bad = number-untaken c.is_taken.ensures c.if-not-is_taken.true in
    let e = first p in
    let b = a.book.now in
    let none = second_none b a.term.now (unrecorded a.limit) a.out.now a.work.now (expanded p)
    e a.again.now a.spare.now bad in
    let found = is_found b a.term.now (unrecorded a.limit) a.out.now a.work.now in
    record {
      tested = c.test-test.ensures ∙ ap (λ b. test_answer b.now) c.scan_book-s.ensures;
      expanded = e;
      second = none;
      found = subst (IsFound b) (sym e) found;
      rests = λ z z'. absurd (bad z');
    }

pub slice_bounds-expand_scanned-end : goal.slice_bounds-expand_scanned-end
slice_bounds-expand_scanned-end c =
    let a = c.args in
    let p = (goal.at.slice_bounds-expand_scanned-end c).After-is_taken in
    handed-fits a.book.now a.term.now (unrecorded a.limit) a.out.now a.work.now (expanded p) (first p) (number-taken c.is_taken.ensures c.if-not-is_taken.false)

pub returns : goal.returns
returns c =
    let z = (number-taken c.is_taken.ensures c.if-not-is_taken.false) in
    let a = c.args in
    let e = first (goal.at.returns c).After-is_taken in
    let x = expanded (goal.at.returns c).After-is_taken in
    let f = c.expand_scanned-second in
    let x' = answer_and_buffers f.result f.new.out f.new.work in
    let b = a.book.now in
    let v = take (x.numbers.place - 0) x.answer in
    let g = f.ensures ∙ ap (λ b. expansion b.now v (unrecorded 0) a.again.now a.spare.now) c.scan_book-s.ensures in
    let same = ap (λ n. take n x.answer) (sub-zero x.numbers.place) in
    let again = second-goes b a.term.now (unrecorded a.limit) a.out.now a.work.now x e a.again.now a.spare.now x' z v same g in
    let found = is_found b a.term.now (unrecorded a.limit) a.out.now a.work.now in
    let rests = second-rests b a.term.now (unrecorded a.limit) a.out.now a.work.now x e a.again.now a.spare.now in
    record {
      tested = c.test-test.ensures ∙ ap (λ b. test_answer b.now) c.scan_book-s.ensures;
      expanded = e;
      second = again;
      found = subst (IsFound b) (sym e) found;
      rests = rests x' v same g;
    }
