-- One argument of a term: what the operation answers, from the check of the term and the span of the arguments before it.
use Prim.Native.Nat.{ℕ, zero, suc, ◌+◌, ◌-◌, ◌≤◌, ◌<◌}
use native.Mathlib.Omega.{arith}
use mathlib.Core.Path.{◌≡◌, refl, sym, ap, ◌∙◌}
use mathlib.Core.Option.{Option, none, some}
use mathlib.Core.List.{List, [], ◌∷◌}
use lib.ListN.{length, get_or, take, drop, length-drop}
use lib.Seq.{length-take-le}
use borrow.Author.Tests.{lt-ltb, le-ltb}
use Rattle.reader.specs.declared.ArgumentSpan.{ArgumentSpan}
use Rattle.system.specs.Signature.{Signature, arity, span, argument, subterm}
use Rattle.system.specs.System.{System}
use Rattle.reader.specs.Parser.{Parsed, ok, fault, read}
use Rattle.system.specs.TermCheck.{term_fault}
use Rattle.reader.specs.Answers.{whole_answer, term_answer, nth_argument, argument_at, start_of, part_of, argument_span}
use Rattle.system.specs.Signature.{signature_of}
use Rattle.system.proofs.FaultNumbers.{fault-not-zero}
use Rattle.reader.proofs.Located.{read-signature}
use Rattle.system.proofs.words.SpanSteps.{tail, tail-length}

-- a term that is checked
pub record CheckedTerm (ws t : List ℕ) : Type 0 where
  pub system : System
  pub size : ℕ
  pub equal : read ws ≡ ok system size
  pub arities : system.arities ≡ signature_of ws
  pub whole : term_fault (signature_of ws) 1 t 0 ≡ none
  pub some_words : 0 < length t

module _ (ws t : List ℕ) where
  some_words : (g : Signature) (t : List ℕ) → term_fault g 1 t 0 ≡ none → 0 < length t
  unfolding term_fault
  some_words g [] e = absurd (let z : ◌≡◌ {A = ℕ} 0 1 = cc in omega arith)
  some_words g (w ∷ ws) e = omega arith

  pub checked : (term_answer ws t).number ≡ 0 → CheckedTerm ws t
  unfolding term_answer
  checked e = go (read ws) refl
    where
      inner : (g : Signature) (o : Option ℕ) → term_fault g 1 t 0 ≡ o → (whole_answer t o).number ≡ 0 → term_fault g 1 t 0 ≡ none
      inner g none q z = q
      inner g (some i) q z = absurd (omega arith)

      go : (o : Parsed System) → read ws ≡ o → CheckedTerm ws t
      go (fault f i) q = absurd (fault-not-zero f (rw (q, term_answer) at e))
      go (ok x i) q =
          let a = read-signature ws q in
          let w = inner x.arities (term_fault x.arities 1 t 0) refl (rw (q, term_answer) at e) in
          record { system = x; size = i; equal = q; arities = a; whole = rw a at w; some_words = some_words x.arities t w }

  pub argument-refused : (i : ℕ) → ((term_answer ws t).number ≡ 0 → ⊥) → argument_at ws t i ≡ none
  unfolding argument_at term_answer
  argument-refused i bad = go (read ws) refl
    where
      inner : (x : System) (j : ℕ) → read ws ≡ ok x j → (o : Option ℕ) → term_fault x.arities 1 t 0 ≡ o → argument_at ws t i ≡ none
      inner x j q none q' = absurd (bad (rw (q, term_answer) (rw q')))
      inner x j q (some k) q' = rw (q, argument_at) (rw q')

      go : (o : Parsed System) → read ws ≡ o → argument_at ws t i ≡ none
      go (fault f j) q = rw (q, argument_at)
      go (ok x j) q = inner x j q (term_fault x.arities 1 t 0) refl

  module _ (c : CheckedTerm ws t) where
    found : (i : ℕ) → argument_at ws t i ≡ nth_argument (signature_of ws) t i
    unfolding argument_at
    found i = rw (c.equal, argument_at) (rw c.arities (rw c.whole (ap (λ g. nth_argument g t i) c.arities)))

    pub argument-zero : (i : ℕ) → i ≡ 0 → argument_at ws t i ≡ none
    unfolding nth_argument
    argument-zero i e = found i ∙ rw e

    pub argument-beyond : (i : ℕ) → 0 < i → arity (signature_of ws) (get_or t 0 0) < i → argument_at ws t i ≡ none
    unfolding nth_argument
    argument-beyond zero h l = absurd (omega arith)
    argument-beyond (suc k) h l = found (suc k) ∙ rw (le-ltb k (arity (signature_of ws) (get_or t 0 0)) (omega arith))

    pub argument-there : (i : ℕ) → 0 < i → i ≤ arity (signature_of ws) (get_or t 0 0) → argument_at ws t i ≡ some (1 + span (signature_of ws) (drop 1 t) (i - 1))
    unfolding nth_argument argument
    argument-there zero h l = absurd (omega arith)
    argument-there (suc k) h l =
        let e : suc k - 1 ≡ k = omega arith in
        found (suc k) ∙ rw (e, lt-ltb k (arity (signature_of ws) (get_or t 0 0)) (omega arith))

-- ---- where it stands

module _ (ws t : List ℕ) (i : ℕ) where
  abbrev Tells : ArgumentSpan → Type 0
  Tells s = (s ≡ argument_span ws t i) × (s.start + s.length ≤ length t)

  pub tells_none : argument_at ws t i ≡ none → Tells (record { start = 0; length = 0 })
  tells_none e = (rw e, omega arith)

  -- n words from p on, as they are counted in the words from p on
  pub tells-some : (p n : ℕ) → argument_at ws t i ≡ some p → p ≤ length t → n ≡ span (signature_of ws) (take (length t - p) (drop p t)) 1 →
      n ≤ length (take (length t - p) (drop p t)) → Tells (record { start = p; length = n })
  unfolding subterm
  tells-some p n e l c m =
      let q : n ≡ span (signature_of ws) (drop p t) 1 = rw (tail t p) at c in
      let k : n ≤ length t - p = rw tail-length at m in
      let w : length (take n (drop p t)) ≡ n = length-take-le n (drop p t) (rw length-drop k) in
      (rw e (λ j. record { start = p; length = (sym w ∙ ap (λ x. length (take x (drop p t))) q) j }), omega arith)

-- as many words of a list as its front has are that front
take-front : (n : ℕ) (xs : List ℕ) → take (length (take n xs)) xs ≡ take n xs
take-front zero xs = refl
take-front (suc n) [] = refl
take-front (suc n) (x ∷ xs) = ap (λ ys. x ∷ ys) (take-front n xs)

-- the words that stand there are the argument's
pub span-words : (ws t : List ℕ) (o : Option ℕ) (a n : ℕ) → a ≡ start_of o → n ≡ length (part_of ws t o) → take (a + n - a) (drop a t) ≡ part_of ws t o
unfolding subterm
span-words ws t o a n p q =
    let d : a + n - a ≡ n = omega arith in
    rw d (rw (p, q) (go o))
  where
    go : (o : Option ℕ) → take (length (part_of ws t o)) (drop (start_of o) t) ≡ part_of ws t o
    go none = refl
    go (some b) = take-front (span (signature_of ws) (drop b t) 1) (drop b t)
