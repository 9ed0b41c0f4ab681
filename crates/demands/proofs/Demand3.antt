-- Demand 3 of the evaluator's own answers, which its contract gives as `expansion`: "done" and "found".
use Prim.Native.Nat.{ℕ, zero, suc, ◌≤◌}
use mathlib.Core.Path.{◌≡◌, refl, sym, ap, ◌∙◌, subst, subst₂}
use mathlib.Core.List.{List}
use lib.ListN.{length}
use Rattle.system.specs.Limits.{term_words}
use Rattle.system.specs.Terms.{Whole}
use Rattle.reader.specs.Parser.{ok, read}
use Rattle.reader.specs.Answers.{term_answer}
use Rattle.system.proofs.TermChecks.{whole-fault}
use Rattle.reader.specs.Book.{system_of}
use Rattle.matching.specs.Safety.{Safe}
use Rattle.matching.proofs.Tests.{test-safe}
use Rattle.rewriting.specs.Evaluation.{Limits, unrecorded, start, evaluation}
use Rattle.rewriting.specs.Outcomes.{Done}
use Rattle.rewriting.proofs.Found.{theorem-found}
use Rattle.evaluation.specs.Expansion.{Expansion, answer_and_buffers, expansion_of, expansion, handed_back}
use Rattle.evaluation.proofs.Expanding.{checks-well, evaluates}
use Rattle.evaluation.proofs.Handed.{Handed, handed, handed-checks, handed-done, handed-bounded, handed-numbers, handed-words}
use Rattle.demands.specs.Demand3.{IsDone, IsHandedBack, Rests, Found, IsFound, secondly, RestsAgain}

module _ (book term : List ℕ) (limits : Limits) (out work : List ℕ) where
  -- DONE, of every book, term, limits and buffers
  pub is-done : IsDone book term limits (expansion book term limits out work)
  is-done e =
      let h = handed book term limits out work e in
      let n = handed-numbers h in
      let w = handed-words h in (
        ap length w ∙ sym (ap (λ y. y.place) n),
        subst₂ (λ v k. Done (system_of book) limits term v k) (sym w) (sym (ap (λ y. y.steps) n)) (handed-done h),
      )

  -- and where the checks pass and the evaluation ends within its limits, that is what is handed back
  pub is-handed-back : IsHandedBack book term limits out work (expansion book term limits out work)
  is-handed-back a b g e q =
      let x = evaluates book term out work (expansion_of out work (evaluation (system_of book) limits term)) a b g ∙ ap (expansion_of out work) q in
      let h : Handed book term limits out work = record { room-answer = a; room-work = b; good = g; run = e; evaluated = q; equal = x } in
      (handed-numbers h, handed-words h)

-- a whole term of an accepted book passes the check
pub whole-checked : (book t : List ℕ) → read book ≡ ok (system_of book) (length book) → Whole (system_of book).arities t → length t ≤ term_words →
    (term_answer book t).number ≡ 0
unfolding term_answer
whole-checked book t e w l = rw (e, term_answer) (rw (whole-fault (system_of book).arities t w l))

-- FOUND, of every book that passed
module _ (book term : List ℕ) (limits : Limits) (out work : List ℕ) where
  abbrev x : Expansion
  x = expansion book term limits out work

  finds : Safe (system_of book) → x.numbers.number ≡ 0 → Found book (handed_back x)
  finds safe e =
      let h = handed book term limits out work e in
      let c = handed-checks h in
      let f = theorem-found (system_of book) (checks-well book term c) safe limits term h.run c.whole h.evaluated in
      let b = handed-bounded h in
      let t = h.run.term in
      let g = whole-checked book t c.accepted f.whole b in
      subst (Found book) (sym (handed-words h)) (record {
        stable = f;
        bounded = b;
        again = λ l out' work' room room'. is-handed-back book t l out' work' room room' g (start t) (f.again l);
      })

  pub is_found : IsFound book (expansion book term limits out work)
  is_found z e = finds (test-safe book z).safe e

-- ---- expanded again

secondly-none : (book : List ℕ) (x : Expansion) (out work : List ℕ) → (x.numbers.number ≡ 0 → ⊥) → secondly book x out work ≡ answer_and_buffers x.numbers out work
unfolding secondly
secondly-none book x out work h = go x.numbers.number refl
  where
    go : (n : ℕ) → x.numbers.number ≡ n → secondly book x out work ≡ answer_and_buffers x.numbers out work
    go zero q = absurd (h q)
    go (suc m) q = rw q

secondly-goes : (book : List ℕ) (x : Expansion) (out work : List ℕ) → x.numbers.number ≡ 0 → secondly book x out work ≡ expansion book (handed_back x) (unrecorded 0) out work
unfolding secondly
secondly-goes book x out work h = rw h

-- a second expansion, in the buffers out' and work', of what an expansion x handed back
module _ (book term : List ℕ) (limits : Limits) (out work : List ℕ) (x : Expansion) (e : x ≡ expansion book term limits out work) (out' work' : List ℕ) where
  -- nothing was handed back
  pub second_none : (x.numbers.number ≡ 0 → ⊥) → answer_and_buffers x.numbers out' work' ≡ secondly book (expansion book term limits out work) out' work'
  second_none h = sym (secondly-none book x out' work' h) ∙ ap (λ y. secondly book y out' work') e

  -- v is what was handed back
  pub second-goes : (x' : Expansion) → x.numbers.number ≡ 0 → (v : List ℕ) → v ≡ handed_back x → x' ≡ expansion book v (unrecorded 0) out' work' →
      x' ≡ secondly book (expansion book term limits out work) out' work'
  second-goes x' z v same f =
      f ∙ ap (λ y. expansion book y (unrecorded 0) out' work') same ∙ sym (secondly-goes book x out' work' z) ∙ ap (λ y. secondly book y out' work') e

  pub second-rests : (x' : Expansion) (v : List ℕ) → v ≡ handed_back x → x' ≡ expansion book v (unrecorded 0) out' work' → RestsAgain book x out' work' x'
  second-rests x' v same f z z' a b =
      subst (Rests (handed_back x)) (sym (f ∙ ap (λ y. expansion book y (unrecorded 0) out' work') same))
      ((subst (IsFound book) (sym e) (is_found book term limits out work) z z').again (unrecorded 0) out' work' a b)
