-- The check of a term finds no fault exactly in the whole terms of at most 4,096 words.
use Prim.Native.Nat.{ℕ, zero, suc, ◌+◌, ◌≤◌, ◌<◌}
use native.Mathlib.Omega.{arith}
use native.Mathlib.Decide.{dec_lt}
use mathlib.Core.Path.{◌≡◌, refl, sym, ◌∙◌}
use mathlib.Core.Option.{none, some}
use mathlib.Core.Bool.{Bool, true, false}
use mathlib.Core.List.{List, [], ◌∷◌}
use lib.ListN.{length}
use borrow.Author.Tests.{lt-ltb, le-ltb}
use Rattle.system.specs.Limits.{term_words}
use Rattle.system.specs.Signature.{Signature, Symbol, is_symbol, arity}
use Rattle.system.specs.Terms.{Forest, empty, more, Whole}
use Rattle.system.specs.TermCheck.{term_fault}

module _ (g : Signature) where
  -- one word: it can stand at its index, or it cannot
  pub fault-word : (k w : ℕ) (ws : List ℕ) (i : ℕ) → i < term_words → Symbol g w → term_fault g (suc k) (w ∷ ws) i ≡ term_fault g (k + arity g w) ws (suc i)
  unfolding term_fault
  fault-word k w ws i h n = rw (lt-ltb i term_words h, n, term_fault)

  pub fault-complete : (w : ℕ) (ws : List ℕ) (i : ℕ) → term_fault g 0 (w ∷ ws) i ≡ some i
  unfolding term_fault
  fault-complete w ws i = refl

  pub fault-long : (due w : ℕ) (ws : List ℕ) (i : ℕ) → term_words ≤ i → term_fault g due (w ∷ ws) i ≡ some i
  unfolding term_fault
  fault-long zero w ws i h = refl
  fault-long (suc k) w ws i h = rw (le-ltb i term_words h, term_fault)

  pub fault-unknown : (due w : ℕ) (ws : List ℕ) (i : ℕ) → is_symbol g w ≡ false → term_fault g due (w ∷ ws) i ≡ some i
  unfolding term_fault
  fault-unknown zero w ws i h = refl
  fault-unknown (suc k) w ws i h =
      elim (dec_lt i term_words) [
        | yes l ↦ rw (lt-ltb i term_words l, h, term_fault)
        | no l ↦ fault-long (suc k) w ws i (omega arith)
      ]

  -- no word is left
  pub fault-early : (k i : ℕ) → term_fault g (suc k) [] i ≡ some i
  unfolding term_fault
  fault-early k i = refl

  pub fault-end : (i : ℕ) → term_fault g 0 [] i ≡ none
  unfolding term_fault
  fault-end i = refl

  -- no fault: the words are k whole terms, and not too many
  pub fault-none : (ws : List ℕ) (k i : ℕ) → i ≤ term_words → term_fault g k ws i ≡ none → Forest g (Symbol g) k ws × (i + length ws ≤ term_words)
  unfolding term_fault
  fault-none [] zero i h e = (empty, omega arith)
  fault-none [] (suc k) i h e = absurd (let z : ◌≡◌ {A = ℕ} 0 1 = cc in omega arith)
  fault-none (w ∷ ws) zero i h e = absurd (let z : ◌≡◌ {A = ℕ} 0 1 = cc in omega arith)
  fault-none (w ∷ ws) (suc k) i h e =
      elim (dec_lt i term_words) [
        | no l ↦ absurd (let z : ◌≡◌ {A = ℕ} 0 1 = cc (fault-long (suc k) w ws i (omega arith)) in omega arith)
        | yes l ↦ go l (is_symbol g w) refl (fault-none ws (k + arity g w) (suc i) l)
      ]
    where
      go : i < term_words → (b : Bool) → is_symbol g w ≡ b →
          (term_fault g (k + arity g w) ws (suc i) ≡ none → Forest g (Symbol g) (k + arity g w) ws × (suc i + length ws ≤ term_words)) →
          Forest g (Symbol g) (suc k) (w ∷ ws) × (i + length (w ∷ ws) ≤ term_words)
      go l true m ih = let c = ih (sym (fault-word k w ws i l m) ∙ e) in (more m c.0, let z = c.1 in omega arith)
      go l false m ih = absurd (let z : ◌≡◌ {A = ℕ} 0 1 = cc (fault-unknown (suc k) w ws i m) in omega arith)

  pub none-fault : {k : ℕ} {ws : List ℕ} (i : ℕ) → Forest g (Symbol g) k ws → i + length ws ≤ term_words → term_fault g k ws i ≡ none
  none-fault i empty h = fault-end i
  none-fault i (more {w} {k} {ws} n f) h = fault-word k w ws i (omega arith) n ∙ none-fault (suc i) f (omega arith)

  pub fault-whole : (ws : List ℕ) → term_fault g 1 ws 0 ≡ none → Whole g ws × (length ws ≤ term_words)
  fault-whole ws e = let c = fault-none ws 1 0 (omega arith) e in (c.0, let z = c.1 in omega arith)

  pub whole-fault : (ws : List ℕ) → Whole g ws → length ws ≤ term_words → term_fault g 1 ws 0 ≡ none
  whole-fault ws f h = none-fault 0 f (omega arith)
