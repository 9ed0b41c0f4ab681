-- Where a limit stops the evaluator: the steps that it reports are steps, no term among them has more than 4,096 words, and that limit is met. With a
-- record, whatever the answer, its words are the pairs of the steps reported, and what stood behind them.
use Prim.Native.Nat.{ℕ, ◌*◌, ◌≤◌}
use native.Mathlib.Omega.{arith}
use mathlib.Core.Path.{◌≡◌, refl, sym, ap, ◌∙◌, subst}
use mathlib.Core.Logic.{inl, inr}
use mathlib.Core.List.{List, []}
use lib.ListN.{length, take, drop}
use Rattle.system.specs.declared.Answer.{Answer}
use Rattle.system.specs.Limits.{term_words}
use Rattle.system.specs.Numbers.{number_of, limit_number}
use Rattle.system.specs.declared.numbers.Limit.{Limit}
use Rattle.system.specs.declared.numbers.Limit.TheVariants.{Spent, Overlong, Nested, Full}
use Rattle.system.specs.declared.numbers.Verdict.{Verdict}
use Rattle.system.proofs.FaultNumbers.{fault-range}
use Rattle.reader.specs.Book.{system_of}
use Rattle.rewriting.specs.Trace.{Trace, in_order, keep}
use Rattle.rewriting.specs.Evaluation.{Limits, recorded, Outcome, finished, stopped, evaluation, trace_of}
use Rattle.rewriting.specs.Rewriting.{Path}
use Rattle.rewriting.specs.Stopped.{Stopped}
use Rattle.rewriting.proofs.Done.{theorem-path}
use Rattle.rewriting.proofs.Stopped.{stopped-path}
use Rattle.records.proofs.Records.{keep-cut, keep-rest}
use Rattle.evaluation.specs.Expansion.{Expansion, answer_and_buffers, expansion_of, expansion, checked, record_after}
use Rattle.evaluation.proofs.Expanding.{checks, checks-well, Passed, passed, evaluates, Course, narrow, wrong, runs, course, record-refused, record-told}
use Rattle.evaluation.proofs.Handed.{limit-number, handed, handed-checks, handed-done, handed-numbers, handed-words}
use Rattle.demands.specs.Demand1.{Early, book, term, buffers}
use Rattle.demands.specs.Demand3.{IsStopped}
use Rattle.demands.specs.Retracing.{Reported}
use Rattle.demands.proofs.Demand1.{Said, said, term-said}

-- ---- the numbers of limits

same-limit : (l k : Limit) → limit_number l ≡ limit_number k → l ≡ k
same-limit Spent Spent e = refl
same-limit Spent Overlong e = absurd (omega arith)
same-limit Spent Nested e = absurd (omega arith)
same-limit Spent Full e = absurd (omega arith)
same-limit Overlong Spent e = absurd (omega arith)
same-limit Overlong Overlong e = refl
same-limit Overlong Nested e = absurd (omega arith)
same-limit Overlong Full e = absurd (omega arith)
same-limit Nested Spent e = absurd (omega arith)
same-limit Nested Overlong e = absurd (omega arith)
same-limit Nested Nested e = refl
same-limit Nested Full e = absurd (omega arith)
same-limit Full Spent e = absurd (omega arith)
same-limit Full Overlong e = absurd (omega arith)
same-limit Full Nested e = absurd (omega arith)
same-limit Full Full e = refl

-- 15 is none of them
not-fifteen : (l : Limit) → limit_number l ≡ 15 → ⊥
not-fifteen Spent e = omega arith
not-fifteen Overlong e = omega arith
not-fifteen Nested e = omega arith
not-fifteen Full e = omega arith

-- nor is a number that is said before anything is evaluated
early-none : {v : Verdict} → Early v → (l : Limit) → number_of v ≡ limit_number l → ⊥
early-none (book f) l e =
    let low = limit-number l in
    elim (fault-range f) [ inl z ↦ (let h = z.1 in omega arith) | inr z ↦ not-fifteen l (sym e ∙ z) ]
early-none term l e = let low = limit-number l in omega arith
early-none buffers l e = let low = limit-number l in omega arith

-- ---- stopped

module _ (b t : List ℕ) (limits : Limits) (out work : List ℕ) where
  abbrev x : Expansion
  x = expansion b t limits out work

  -- a limit stopped the evaluation after the steps of the trace
  record Halted (l : Limit) : Type 0 where
    passes : Passed b t out work
    trace : Trace
    evaluated : evaluation (system_of b) limits t ≡ stopped l trace
    equal : x ≡ expansion_of out work (stopped l trace)

  halted : (l : Limit) → x.numbers.number ≡ limit_number l → Halted l
  halted l z = by (course b t out work (expansion_of out work (evaluation (system_of b) limits t)))
    where
      low : 11 ≤ limit_number l
      low = limit-number l

      number : {y : Expansion} → x ≡ y → y.numbers.number ≡ limit_number l
      number e = sym (ap (λ y. y.numbers.number) e) ∙ z

      early : {a : Answer} → Said a → x ≡ answer_and_buffers a out work → Halted l
      early (said v n k) e = absurd (early-none v l (sym n ∙ number e))

      ends : Passed b t out work → (o : Outcome) → evaluation (system_of b) limits t ≡ o → x ≡ expansion_of out work o → Halted l
      ends p (finished r) q e = absurd (let y = number e in let m = low in omega arith)
      ends p (stopped m h) q e =
          let same = ap (λ k. stopped k h) (same-limit m l (number e)) in
          record { passes = p; trace = h; evaluated = q ∙ same; equal = e ∙ ap (expansion_of out work) same }

      by : Course b t out work (expansion_of out work (evaluation (system_of b) limits t)) → Halted l
      by (narrow e) = absurd (let y = number e in let m = low in omega arith)
      by (wrong w e) = early (term-said b t w) e
      by (runs p e) = ends p (evaluation (system_of b) limits t) refl e

  halted-stopped : {l : Limit} (h : Halted l) → Stopped (system_of b) limits t l h.trace
  halted-stopped {l} h =
      let c = checks b t h.passes.good in
      stopped-path (system_of b) (checks-well b t c) limits t l h.trace c.whole c.bounded h.evaluated

  -- STOPPED, of every book, term, limits and buffers
  pub is-stopped : IsStopped b t limits (expansion b t limits out work)
  is-stopped l z = let h = halted l z in (h.trace, halted-stopped h, ap (λ y. y.numbers.steps) h.equal)

-- ---- and with a record

module _ (b t : List ℕ) (limit : ℕ) (out work words : List ℕ) where
  abbrev limits : Limits
  limits = recorded limit (length words)

  abbrev after : List ℕ
  after = record_after b t limits out work words

  abbrev y : Expansion
  y = expansion b t limits out work

  -- the words of a record that holds the pairs of h
  holds : (h : Trace) (n : ℕ) → n ≡ length h → 2 * length h ≤ length words → after ≡ keep words h →
      (take (2 * n) after ≡ in_order h []) × (drop (2 * n) after ≡ drop (2 * n) words)
  holds h n e l k = rw (e, k) (keep-cut words h l, keep-rest words h)

  told : Passed b t out work → (h : Trace) (o : Outcome) → evaluation (system_of b) limits t ≡ o → trace_of o ≡ h → after ≡ keep words h
  told p h o q e = record-told b t limits out work words p ∙ ap (λ v. keep words (trace_of v)) q ∙ ap (keep words) e

  none : (ws : List ℕ) → take (2 * 0) ws ≡ in_order [] []
  unfolding in_order
  none ws = refl

  -- no step is reported: nothing was evaluated
  refused-reported : {a : Answer} → Said a → y ≡ answer_and_buffers a out work → ((checked b t out work).number ≡ 0 → ⊥) → (a.number ≡ 0 → ⊥) → Reported b t limits words after y
  refused-reported {a} (said v n k) e bad d =
      let s : y.numbers.steps ≡ 0 = ap (λ z. z.numbers.steps) e ∙ k in
      let m : y.numbers.number ≡ a.number = ap (λ z. z.numbers.number) e in
      let same = record-refused b t limits out work words bad in
      record {
        trace = [];
        steps = s;
        pairs = rw s (none after);
        others = rw (s, same);
        handed = λ z. absurd (d (sym m ∙ z));
        stopped = λ l z. absurd (early-none v l (sym n ∙ sym m ∙ z));
      }

  -- a term was handed back
  handed-reported : Passed b t out work → y.numbers.number ≡ 0 → Reported b t limits words after y
  handed-reported p z =
      let h = handed b t limits out work z in
      let c = handed-checks h in
      let n = ap (λ a. a.steps) (handed-numbers h) in
      let k = holds h.run.trace y.numbers.steps n ((handed-done h).roomy (length words) refl) (told p _ _ h.evaluated refl) in
      let path = theorem-path (system_of b) (checks-well b t c) limits t h.run c.whole c.bounded h.evaluated in
      record {
        trace = h.run.trace;
        steps = n;
        pairs = k.0;
        others = k.1;
        handed = λ _. subst (Path (system_of b) term_words t h.run.trace) (sym (handed-words h)) path;
        stopped = λ l q. absurd (let low = limit-number l in omega arith);
      }

  -- a limit stopped it
  halted-reported : (m : Limit) → y.numbers.number ≡ limit_number m → Reported b t limits words after y
  halted-reported m z =
      let h = halted b t limits out work m z in
      let d = halted-stopped b t limits out work h in
      let n = ap (λ a. a.numbers.steps) h.equal in
      let k = holds h.trace y.numbers.steps n (d.roomy (length words) refl) (told h.passes _ _ h.evaluated refl) in
      record {
        trace = h.trace;
        steps = n;
        pairs = k.0;
        others = k.1;
        handed = λ q. absurd (let low = limit-number m in omega arith);
        stopped = λ l q. subst (λ j. Stopped (system_of b) limits t j h.trace) (same-limit m l (sym z ∙ q)) d;
      }

  -- "After any answer the record holds the pairs of the steps reported, its other words unchanged"
  pub is-reported : Reported b t (recorded limit (length words)) words (record_after b t (recorded limit (length words)) out work words)
      (expansion b t (recorded limit (length words)) out work)
  is-reported = by (course b t out work (expansion_of out work (evaluation (system_of b) limits t)))
    where
      ends : Passed b t out work → (o : Outcome) → y ≡ expansion_of out work o → Reported b t limits words after y
      ends p (finished r) e = handed-reported p (ap (λ z. z.numbers.number) e)
      ends p (stopped m h) e = halted-reported m (ap (λ z. z.numbers.number) e)

      -- 10 is said of no outcome
      not-ten : (o : Outcome) → (expansion_of out work o).numbers.number ≡ 10 → ⊥
      not-ten (finished r) e = omega arith
      not-ten (stopped m h) e = let low = limit-number m in omega arith

      by : Course b t out work (expansion_of out work (evaluation (system_of b) limits t)) → Reported b t limits words after y
      by (narrow e) = refused-reported (said buffers refl refl) e
          (λ z. let p = passed b t out work z in
          not-ten (evaluation (system_of b) limits t)
          (ap (λ z. z.numbers.number) (sym (evaluates b t out work _ p.room-answer p.room-work p.good) ∙ e)))
          (λ z. omega arith)
      by (wrong w e) = refused-reported (term-said b t w) e (λ z. w (passed b t out work z).good) w
      by (runs p e) = ends p (evaluation (system_of b) limits t) e
