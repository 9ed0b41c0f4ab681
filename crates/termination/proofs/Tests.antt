-- What the answer of the test by weights tells: 0 exactly where all rules fall, 19 at k exactly if k is the lowest rule that does not, 18 exactly
-- where the list is not one of weights for the book.
use Prim.Native.Nat.{ℕ, ◌≤◌, ◌<◌}
use native.Mathlib.Omega.{arith}
use mathlib.Core.Path.{◌≡◌, refl, ap, ◌∙◌, subst}
use mathlib.Core.Logic.{inl, inr}
use mathlib.Core.Bool.{Bool, true, false}
use mathlib.Core.Option.{Option, none, some}
use mathlib.Core.List.{List}
use lib.ListN.{length}
use Rattle.system.specs.declared.Answer.{Answer}
use Rattle.system.specs.Numbers.{number_of}
use Rattle.system.specs.declared.numbers.Fault.{Fault}
use Rattle.system.specs.declared.numbers.Verdict.TheVariants.{Misweighed, Rising}
use Rattle.system.specs.System.{System, Rule, rule}
use Rattle.system.specs.Rules.{RuleOf, listed, built_in}
use Rattle.reader.specs.Parser.{Parsed, ok, fault, read}
use Rattle.reader.specs.Answers.{answer_of}
use Rattle.reader.specs.Book.{system_of}
use Rattle.system.proofs.BuiltIns.{refuted, clash}
use Rattle.system.proofs.FaultNumbers.{fault-range, fault-not-zero}
use Rattle.layout.proofs.Accepting.{reads-system}
use Rattle.system.proofs.FirstFailing.{none-all, all_none, some-lowest, lowest-some}
use Rattle.termination.specs.Weights.{Weights, Falls, Falling, RisesFirst, Weighs}
use Rattle.termination.specs.WeightTest.{falls, weighs, first_rising, fall_answer, misweighed_answer, system_answer, weights_answer, PassedWeights}
use Rattle.termination.specs.Tells.{FallingBook, RisingBook, MisweighedBook, TellsWeights}
use Rattle.termination.proofs.Falls.{builtin-falls, all-fall}
use Rattle.termination.proofs.Decides.{falls-sound, falls-complete}
use Rattle.termination.proofs.Ranges.{weighs-sound, weighs-complete}

-- ---- of a system

module _ (m : Weights) (s : System) where
  rises-false : (k : ℕ) → (Falls m (rule s k) → ⊥) → falls m (rule s k) ≡ false
  rises-false k h = refuted (falls m (rule s k)) (λ e. h (falls-sound m (rule s k) e))

  -- all fall exactly if none is found that does not
  none-falling : first_rising m s ≡ none → Falling m s
  none-falling e = all-fall m s (λ k l. falls-sound m (rule s k) (none-all (λ k. falls m (rule s k)) 0 (length s.rules) e k (omega arith) (omega arith)))

  falling-none : Falling m s → first_rising m s ≡ none
  falling-none h =
      all_none (λ k. falls m (rule s k)) 0 (length s.rules)
      (λ k l b. let z : k < length s.rules = omega arith in falls-complete m (rule s k) (h k (rule s k) (listed z)))

  -- k is found exactly if it is the lowest that does not
  some-rises : {k : ℕ} → first_rising m s ≡ some k → RisesFirst m s k
  some-rises {k} e =
      let h = some-lowest (λ k. falls m (rule s k)) 0 (length s.rules) e in
      let l = h.inside in
      let q = h.fails in
      record {
        known = omega arith;
        rises = λ f. clash (falls-complete m (rule s k) f) q;
        lower = λ j r d b. go d b (λ a. h.lower j (omega arith) a);
      }
    where
      go : {j : ℕ} {r : Rule} → RuleOf s j r → j < k → (j < k → falls m (rule s j) ≡ true) → Falls m r
      go (listed {k = j} l) b f = falls-sound m (rule s j) (f b)
      go (built_in d) b f = builtin-falls m d

  rises-some : {k : ℕ} → RisesFirst m s k → first_rising m s ≡ some k
  rises-some {k} h =
      let l = h.known in
      lowest-some (λ k. falls m (rule s k)) 0 (length s.rules) (record {
        least = omega arith;
        inside = omega arith;
        fails = rises-false k h.rises;
        lower = λ j a b. let z : j < length s.rules = omega arith in falls-complete m (rule s j) (h.lower j (rule s j) (listed z) b);
      })

-- ---- of a book

module _ (b : List ℕ) (m : Weights) where
  -- a book that the reader refuses gets the reader's answer
  pub weights-refused : {f : Fault} {i : ℕ} → read b ≡ fault f i → weights_answer b m ≡ answer_of (fault f i)
  unfolding weights_answer
  weights-refused e = rw (e, weights_answer)

  module _ {s : System} {i : ℕ} (e : read b ≡ ok s i) where
    pub weights-misweighed : weighs m (length s.arities) ≡ false → weights_answer b m ≡ misweighed_answer
    unfolding weights_answer system_answer
    weights-misweighed q = rw (e, weights_answer, q, system_answer)

    pub weights-tested : weighs m (length s.arities) ≡ true → weights_answer b m ≡ fall_answer (first_rising m s)
    unfolding weights_answer system_answer
    weights-tested q = rw (e, weights_answer, q, system_answer)

  -- the four ways that the test ends
  data Ends : Answer → Type 0 where
    refused : (f : Fault) (i : ℕ) → Ends (answer_of (fault f i))
    other : MisweighedBook b m → Ends misweighed_answer
    passed : FallingBook b m → Ends (fall_answer none)
    failed : (k : ℕ) → RisingBook b m k → Ends (fall_answer (some k))

  module _ (a : read b ≡ ok (system_of b) (length b)) where
    falls-ends : Weighs m (system_of b) → (o : Option ℕ) → first_rising m (system_of b) ≡ o → Ends (fall_answer o)
    falls-ends w none e = passed (record { accepted = a; weighs = w; falling = none-falling m (system_of b) e })
    falls-ends w (some k) e = failed k (record { accepted = a; weighs = w; first = some-rises m (system_of b) e })

    accepted-ends : (o : Bool) → weighs m (length (system_of b).arities) ≡ o → Ends (weights_answer b m)
    accepted-ends true e = rw (weights-tested a e) (falls-ends (weighs-sound m (system_of b) e) (first_rising m (system_of b)) refl)
    accepted-ends false e =
        rw (weights-misweighed a e) (other (record { accepted = a; misweighed = λ w. clash (weighs-complete m (system_of b) w) e }))

  ends : Ends (weights_answer b m)
  ends = go (read b) refl
    where
      go : (o : Parsed System) → read b ≡ o → Ends (weights_answer b m)
      go (fault f i) e = rw (weights-refused e) (refused f i)
      go (ok s i) e = accepted-ends (reads-system b e) (weighs m (length (system_of b).arities)) refl

  -- no fault of a book has a number from 18 on
  high : (f : Fault) (n : ℕ) → 18 ≤ n → (answer_of (fault f 0)).number ≡ n → ⊥
  high f n l e = elim (fault-range f) [ inl z ↦ (let h = z.1 in omega arith) | inr z ↦ (omega arith) ]

  -- 18: the book is accepted, and the list is not one of weights for it; and every such pair gets it
  pub misweighed-book : (weights_answer b m).number ≡ number_of Misweighed → MisweighedBook b m
  misweighed-book z = go ends z
    where
      go : {r : Answer} → Ends r → r.number ≡ 18 → MisweighedBook b m
      go (refused f i) z = absurd (high f 18 (omega arith) z)
      go (other h) z = h
      go (passed h) z = absurd (omega arith)
      go (failed k h) z = absurd (omega arith)

  pub book-misweighed : MisweighedBook b m → weights_answer b m ≡ misweighed_answer
  book-misweighed h = weights-misweighed h.accepted (refuted (weighs m (length (system_of b).arities)) (λ e. h.misweighed (weighs-sound m (system_of b) e)))

  -- 19: the place is the lowest rule that does not fall; and every such pair gets it
  pub rising-book : (weights_answer b m).number ≡ number_of Rising → RisingBook b m (weights_answer b m).place
  rising-book z = go ends z
    where
      go : {r : Answer} → Ends r → r.number ≡ 19 → RisingBook b m r.place
      go (refused f i) z = absurd (high f 19 (omega arith) z)
      go (other h) z = absurd (omega arith)
      go (passed h) z = absurd (omega arith)
      go (failed k h) z = h

  module _ (a : read b ≡ ok (system_of b) (length b)) (w : Weighs m (system_of b)) where
    accepted-fits : weights_answer b m ≡ fall_answer (first_rising m (system_of b))
    accepted-fits = weights-tested a (weighs-complete m (system_of b) w)

  pub book-rising : {k : ℕ} → RisingBook b m k → weights_answer b m ≡ fall_answer (some k)
  book-rising h = accepted-fits h.accepted h.weighs ∙ ap fall_answer (rises-some m (system_of b) h.first)

  -- 0: all fall; and every such pair gets it
  pub falling-book : PassedWeights b m → FallingBook b m
  falling-book z = go ends z
    where
      go : {r : Answer} → Ends r → r.number ≡ 0 → FallingBook b m
      go (refused f i) z = absurd (fault-not-zero f z)
      go (other h) z = absurd (omega arith)
      go (passed h) z = h
      go (failed k h) z = absurd (omega arith)

  pub book-falling : FallingBook b m → weights_answer b m ≡ fall_answer none
  book-falling h = accepted-fits h.accepted h.weighs ∙ ap fall_answer (falling-none m (system_of b) h.falling)

  -- THE TEST BY WEIGHTS: all that its answer tells
  pub weights-tell : TellsWeights b m (weights_answer b m)
  weights-tell = record {
    refused = λ f i e. weights-refused e;
    misweighed = (λ e. misweighed-book (ap (λ r. r.number) e), book-misweighed);
    rising = λ k. (λ e. subst (RisingBook b m) (ap (λ r. r.place) e) (rising-book (ap (λ r. r.number) e)), book-rising);
    falling = (λ e. falling-book (ap (λ r. r.number) e), book-falling);
  }
