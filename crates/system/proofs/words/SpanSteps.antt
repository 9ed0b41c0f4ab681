-- Spans: their bounds, and one word of a loop over the words.
use Prim.Native.Nat.{ℕ, zero, suc, ◌+◌, ◌-◌, ◌≤◌, ◌<◌}
use native.Mathlib.Omega.{arith}
use native.Mathlib.Numerals.{add-one}
use mathlib.Core.Path.{◌≡◌, refl, ap}
use mathlib.Core.List.{List, [], ◌∷◌}
use lib.ListN.{length, get_or, take, drop, length-drop, drop_of_length-le}
use lib.Seq.{drop-cons, take_all}
use Rattle.system.specs.Signature.{Signature, arity, span}
use Rattle.system.proofs.Forests.{span-zero}

module _ (g : Signature) where
  -- subterms lie within the words
  pub span-le : (ws : List ℕ) (k : ℕ) → span g ws k ≤ length ws
  unfolding span
  span-le [] k = omega arith
  span-le (w ∷ ws) zero = omega arith
  span-le (w ∷ ws) (suc k) = omega (arith, span-le ws (k + arity g w))

  -- a subterm has a word
  pub span-some : (ws : List ℕ) → 0 < length ws → 0 < span g ws 1
  unfolding span
  span-some [] h = absurd (omega arith)
  span-some (w ∷ ws) h = omega arith

  -- where at least as many subterms are asked for as there are words, they take all of them
  pub span-all : (ws : List ℕ) (k : ℕ) → length ws ≤ k → span g ws k ≡ length ws
  unfolding span
  span-all [] k h = refl
  span-all (w ∷ ws) zero h = absurd (omega arith)
  span-all (w ∷ ws) (suc k) h = ap suc (span-all ws (k + arity g w) (omega arith))

  cons : (w : ℕ) (ws : List ℕ) (k : ℕ) → 0 < k → span g (w ∷ ws) k ≡ suc (span g ws (k - 1 + arity g w))
  unfolding span
  cons w ws zero h = absurd (omega arith)
  cons w ws (suc k) h = ap (λ n. suc (span g ws (n + arity g w))) (omega arith)

  -- the word at q: it completes one of the k subterms, and asks for its arguments
  pub span-word : (t : List ℕ) (q k : ℕ) → q < length t → 0 < k → q + span g (drop q t) k ≡ q + 1 + span g (drop (q + 1) t) (k - 1 + arity g (get_or t q 0))
  span-word t q k h l = rw (add-one q, drop-cons t q 0, cons (get_or t q 0) (drop (suc q) t) k) (omega arith)

  pub span_none : (t : List ℕ) (q k : ℕ) → k ≡ 0 → q + span g (drop q t) k ≡ q
  span_none t q k e = rw (e, span-zero g (drop q t)) (omega arith)

  pub span-past : (t : List ℕ) (q k : ℕ) → length t ≤ q → q + span g (drop q t) k ≡ q
  unfolding span
  span-past t q k h = rw (drop_of_length-le t h) (omega arith)

  pub span_rest : (t : List ℕ) (q k : ℕ) → q ≤ length t → length t - q ≤ k → q + span g (drop q t) k ≡ length t
  span_rest t q k h l = rw (span-all (drop q t) k (rw (length-drop q t) l), length-drop q t) (omega arith)

-- a part of a slice that goes to its end
pub tail : (ws : List ℕ) (a : ℕ) → take (length ws - a) (drop a ws) ≡ drop a ws
tail ws a = take_all (length ws - a) (drop a ws) (simp length-drop (omega arith))

pub tail-length : (ws : List ℕ) (a : ℕ) → length (take (length ws - a) (drop a ws)) ≡ length ws - a
tail-length ws a = rw (tail ws a, length-drop a ws)
