-- The lengths of a term's subterms: how they are read, and how a word's own is told by those behind it, so that the row is written from its end
-- to its front.
use Prim.Native.Nat.{ℕ, zero, suc, ◌+◌, ◌≤◌}
use native.Mathlib.Nat.{zero-add}
use native.Mathlib.Omega.{arith}
use mathlib.Core.Path.{◌≡◌, refl, sym, ap, ◌∙◌}
use mathlib.Core.List.{List, [], ◌∷◌, ◌++◌}
use lib.ListN.{length, get_or, take, drop, length-drop, take-append-drop}
use lib.Seq.{drop-drop, take_at, length-take-le}
use Rattle.system.specs.Signature.{Signature, arity, span, argument}
use Rattle.system.specs.Terms.{Forest, empty, more, Whole}
use Rattle.system.proofs.Forests.{span-zero}
use Rattle.system.specs.Spans.{spans}

module _ (g : Signature) where
  pub spans-length : (t : List ℕ) → length (spans g t) ≡ length t
  unfolding spans
  spans-length [] = refl
  spans-length (w ∷ ws) = ap suc (spans-length ws)

  pub spans-drop : (t : List ℕ) (p : ℕ) → spans g (drop p t) ≡ drop p (spans g t)
  unfolding spans
  spans-drop [] zero = refl
  spans-drop [] (suc p) = refl
  spans-drop (w ∷ ws) zero = refl
  spans-drop (w ∷ ws) (suc p) = spans-drop ws p

  -- one read in the place of a count
  pub spans-at : (t : List ℕ) (p : ℕ) → get_or (spans g t) p 0 ≡ span g (drop p t) 1
  unfolding spans span
  spans-at [] zero = refl
  spans-at [] (suc p) = refl
  spans-at (w ∷ ws) zero = refl
  spans-at (w ∷ ws) (suc p) = spans-at ws p

  -- the backward pass: the length of a word from what is behind it
  pub spans-word : (w : ℕ) (ws : List ℕ) → spans g (w ∷ ws) ≡ suc (span g ws (arity g w)) ∷ spans g ws
  unfolding spans span
  spans-word w ws = ap (λ n. suc (span g ws n) ∷ spans g ws) (zero-add (arity g w))

  -- ---- from one subterm to the next

  -- the words of i subterms, and of j more
  pub span-add : (ws : List ℕ) (i j : ℕ) → span g ws (i + j) ≡ span g ws i + span g (drop (span g ws i) ws) j
  unfolding span
  span-add [] i j = refl
  span-add (w ∷ ws) zero j = rw (zero-add j) (omega arith)
  span-add (w ∷ ws) (suc i) j =
      let e : suc i + j ≡ suc (i + j) = omega arith in
      let e' : i + j + arity g w ≡ i + arity g w + j = omega arith in
      rw (e, e', span-add ws (i + arity g w) j) (omega arith)

  -- k subterms from p on: the one there by one read, and the others behind it
  pub span-hop : (t : List ℕ) (p k : ℕ) → let n = get_or (spans g t) p 0 in span g (drop p t) (suc k) ≡ n + span g (drop (p + n) t) k
  span-hop t p k =
      let e : suc k ≡ 1 + k = omega arith in
      rw (spans-at t p, ← (drop-drop (span g (drop p t) 1) p t), e) (span-add (drop p t) 1 k)

  -- the next argument, by one read
  pub argument-hop : (t : List ℕ) (p i : ℕ) → argument g t p (suc i) ≡ argument g t p i + get_or (spans g t) (argument g t p i) 0
  unfolding argument
  argument-hop t p i =
      let ws = drop (suc p) t in
      let e : suc i ≡ i + 1 = omega arith in
      rw (spans-at t (suc p + span g ws i), ← (drop-drop (span g ws i) (suc p) t), e, span-add ws i 1) (omega arith)

  -- ---- whole terms

  module _ {P : ℕ → Type 0} where
    span-within : {k : ℕ} {u : List ℕ} (b : List ℕ) (j : ℕ) → Forest g P k u → j ≤ k → span g (u ++ b) j ≡ span g u j
    unfolding span
    span-within b zero empty l = span-zero g b
    span-within b (suc j) empty l = absurd (omega arith)
    span-within b zero (more h f) l = refl
    span-within b (suc j) (more {w} h f) l = ap suc (span-within b (j + arity g w) f (omega arith))

    -- what follows them does not count
    pub spans-append : {k : ℕ} {u : List ℕ} (b : List ℕ) → Forest g P k u → spans g (u ++ b) ≡ spans g u ++ spans g b
    unfolding spans
    spans-append b empty = refl
    spans-append b (more {w} {k} {ws} h f) = (λ i. span-within b 1 (more {k = k} h f) (omega arith) i ∷ spans-append b f i)

  -- the row of a whole stretch is that stretch of the row
  pub spans-stretch : (ws : List ℕ) (q n : ℕ) → q + n ≤ length ws → Whole g (take n (drop q ws)) → spans g (take n (drop q ws)) ≡ take n (drop q (spans g ws))
  spans-stretch ws q n l h =
      let u = take n (drop q ws) in
      let r = drop n (drop q ws) in
      let k : length (spans g u) ≡ n = spans-length u ∙ length-take-le n (drop q ws) (let z = length-drop q ws in omega arith) in
      sym (ap (take n) (sym (spans-drop ws q) ∙ ap (spans g) (sym (take-append-drop n (drop q ws))) ∙ spans-append r h) ∙ take_at (spans g u) (spans g r) n k)
