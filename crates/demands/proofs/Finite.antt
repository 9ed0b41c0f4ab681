-- Finite shows (02, F-6) in the evaluator's own answers, which its contract gives as `expansion`: where the test by weights answers 0, the weight of
-- the first term bounds the steps.
use Prim.Native.Nat.{ℕ, ◌+◌, ◌≤◌}
use native.Mathlib.Omega.{arith}
use mathlib.Core.Path.{◌≡◌, refl, sym, ap, ◌∙◌, subst, subst₂}
use mathlib.Core.Logic.{inl, inr}
use mathlib.Core.List.{List}
use Rattle.system.specs.declared.Answer.{Answer}
use Rattle.system.specs.Numbers.{number_of, limit_number}
use Rattle.system.specs.declared.numbers.Limit.{Limit}
use Rattle.system.specs.declared.numbers.Limit.TheVariants.{Spent, Overlong, Nested, Full}
use Rattle.system.specs.declared.numbers.Verdict.{Verdict}
use Rattle.system.specs.System.{System}
use Rattle.system.specs.Terms.{WellFormed}
use Rattle.reader.specs.Book.{system_of}
use Rattle.system.proofs.FaultNumbers.{fault-range}
use Rattle.rewriting.specs.Evaluation.{Limits, Config, steps, Outcome, finished, stopped, evaluation}
use Rattle.termination.specs.Weights.{Weights, weight}
use Rattle.termination.specs.Tells.{FallingBook}
use Rattle.termination.proofs.Tests.{falling-book}
use Rattle.termination.proofs.Finite.{finished-falls, stopped-falls, never-spent}
use Rattle.termination.proofs.Ranges.{limit-fits}
use Rattle.evaluation.specs.Expansion.{Expansion, answer_and_buffers, expansion_of, expansion, handed_back}
use Rattle.evaluation.proofs.Expanding.{Checks, checks, checks-well, Course, narrow, wrong, runs, course}
use Rattle.evaluation.proofs.Handed.{limit-number, handed, handed-numbers, handed-words}
use Rattle.demands.specs.Demand1.{Early, book, term, buffers}
use Rattle.demands.specs.Finite.{Finite, IsFinite, NeverSpent}
use Rattle.demands.proofs.Demand1.{Said, said, term-said}

-- what is said before anything is evaluated is not 11
early-other : {v : Verdict} → Early v → number_of v ≡ 11 → ⊥
early-other (book f) e = elim (fault-range f) [ inl z ↦ (let h = z.1 in omega arith) | inr z ↦ (omega arith) ]
early-other term e = omega arith
early-other buffers e = omega arith

only-spent : (l : Limit) → limit_number l ≡ 11 → l ≡ Spent
only-spent Spent e = refl
only-spent Overlong e = absurd (omega arith)
only-spent Nested e = absurd (omega arith)
only-spent Full e = absurd (omega arith)

run-same : {r r' : Config} → finished r ≡ finished r' → r ≡ r'
run-same {r} e = ap (λ o. elim o [ finished x ↦ x | stopped l h ↦ r ]) e

module _ (b : List ℕ) (m : Weights) (t : List ℕ) (limits : Limits) (out work : List ℕ) where
  -- no term is handed back: the number is neither 0 nor 11, and no step is reported
  refused : (x : Expansion) → (x.numbers.number ≡ 0 → ⊥) → x.numbers.steps ≡ 0 → (x.numbers.number ≡ 11 → ⊥) → Finite m t limits x
  refused x bad none other = record { paid = λ z. absurd (bad z); bounded = omega arith; unspent = λ _. other }

  module _ (c : Checks b t) (h : FallingBook b m) where
    abbrev s : System
    s = system_of b

    wf : WellFormed s
    wf = checks-well b t c

    -- what was handed back is the run's term
    paid : (r : Config) → evaluation s limits t ≡ finished r → steps r + weight m r.term ≤ weight m t →
        (expansion b t limits out work).numbers.number ≡ 0 →
        (expansion b t limits out work).numbers.steps + weight m (handed_back (expansion b t limits out work)) ≤ weight m t
    paid r q f z =
        let h = handed b t limits out work z in
        let same : h.run ≡ r = run-same (sym h.evaluated ∙ q) in
        subst₂ (λ k v. k + weight m v ≤ weight m t) (sym (ap (λ y. y.steps) (handed-numbers h) ∙ ap steps same)) (sym (handed-words h ∙ ap (λ y. y.term) same)) f

    ends : (o : Outcome) → evaluation s limits t ≡ o → expansion b t limits out work ≡ expansion_of out work o → Finite m t limits (expansion b t limits out work)
    ends (finished r) q e =
        let f = finished-falls s wf m h.falling limits t c.whole c.bounded r q in
        let n = ap (λ y. y.numbers) e in
        let k = ap (λ y. y.steps) n in
        record {
          paid = λ z. paid r q f z;
          bounded = omega arith;
          unspent = λ _ z. let y = sym (ap (λ y. y.number) n) ∙ z in omega arith;
        }
    ends (stopped l k) q e =
        let f = stopped-falls s wf m h.falling limits t c.whole c.bounded l k q in
        let n = ap (λ y. y.numbers) e in
        let a = ap (λ y. y.steps) n in
        record {
          paid = λ z. absurd (let y = sym (ap (λ y. y.number) n) ∙ z in omega (arith, limit-number l));
          bounded = omega arith;
          unspent = λ w z. never-spent s wf m h.falling limits t c.whole c.bounded w k
              (q ∙ ap (λ l. stopped l k) (only-spent l (sym (ap (λ y. y.number) n) ∙ z)));
        }

  -- FINITE, of every book, list of weights, term, limits and buffers
  pub is_finite : IsFinite b m t limits (expansion b t limits out work)
  is_finite z = by (course b t out work (expansion_of out work (evaluation (system_of b) limits t)))
    where
      early : {a : Answer} → Said a → (a.number ≡ 0 → ⊥) → expansion b t limits out work ≡ answer_and_buffers a out work → Finite m t limits (expansion b t limits out work)
      early {a} (said v n k) bad e = subst (Finite m t limits) (sym e) (refused (answer_and_buffers a out work) bad k (λ y. early-other v (sym n ∙ y)))

      by : Course b t out work (expansion_of out work (evaluation (system_of b) limits t)) → Finite m t limits (expansion b t limits out work)
      by (narrow e) = subst (Finite m t limits) (sym e) (refused (answer_and_buffers _ out work) (λ y. omega arith) refl (λ y. omega arith))
      by (wrong w e) = early (term-said b t w) w e
      by (runs p e) = ends (checks b t p.good) (falling-book b m z) (evaluation (system_of b) limits t) refl e

  -- where 11 is answered, book and term passed their checks
  spent-checks : (expansion b t limits out work).numbers.number ≡ 11 → Checks b t
  spent-checks z = by (course b t out work (expansion_of out work (evaluation (system_of b) limits t)))
    where
      early : {a : Answer} → Said a → a.number ≡ 11 → Checks b t
      early (said v n k) y = absurd (early-other v (sym n ∙ y))

      by : Course b t out work (expansion_of out work (evaluation (system_of b) limits t)) → Checks b t
      by (narrow e) = absurd (let y = sym (ap (λ y. y.numbers.number) e) ∙ z in omega arith)
      by (wrong w e) = early (term-said b t w) (sym (ap (λ y. y.numbers.number) e) ∙ z)
      by (runs p e) = checks b t p.good

  -- with the term's own weight as the step limit, which fits 32 bits where anything is evaluated
  pub by-weight : NeverSpent b m t limits (expansion b t limits out work)
  by-weight z q e =
      let f = limit-fits m (system_of b) (falling-book b m z).weighs t (spent-checks e).bounded in
      (is_finite z).unspent (omega arith) e
