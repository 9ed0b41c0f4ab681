-- Positions in a term that is given as a ++ (u ++ b): what stands at length a, and what a change there leaves alone.
use Prim.Native.Nat.{ℕ, zero, suc, ◌+◌, ◌≤◌, ◌<◌}
use native.Mathlib.Nat.{le_of_suc-le-suc, not-suc-le-zero}
use native.Mathlib.Omega.{arith}
use mathlib.Core.Path.{◌≡◌, refl, sym, ap, ◌∙◌, subst₂}
use mathlib.Core.List.{List, [], ◌∷◌, ◌++◌, append_assoc, append-nil, flatten}
use lib.ListN.{length, get_or, take, drop, length-append, length-drop, get_or-append}
use lib.Seq.{drop-append_seam, take-append_seam, drop-append-le, drop-append-add, get_or-append_seam, length-take-le, split_at, get_or-take}
use Rattle.system.specs.Signature.{Signature, span, arity, argument, subterm, replace}
use Rattle.system.specs.System.{head}
use Rattle.system.specs.Terms.{Forest, empty, more}
use Rattle.system.proofs.Forests.{span-zero, span-forest, join, Wholes, forest-take, focus-here, drop_past}

module _ (g : Signature) where
  module _ (P : ℕ → Type 0) where
    -- what follows the first j terms of a forest is a forest
    pub record Rest (n j : ℕ) (b : List ℕ) : Type 0 where
      pub count : ℕ
      pub total : n ≡ j + count
      pub rest : Forest g P count b

    pub rest_of : {j n : ℕ} {u : List ℕ} (b : List ℕ) → Forest g P j u → Forest g P n (u ++ b) → Rest n j b
    rest_of {n} b empty f = record { count = n; total = omega arith; rest = f }
    rest_of b (more h hs) (more f fs) = let c = rest_of b hs fs in record { count = c.count; total = omega arith; rest = c.rest }

    -- a whole subterm inside a forest may be replaced by another
    pub patch : (a b : List ℕ) {k : ℕ} {u v : List ℕ} → Forest g P k (a ++ (u ++ b)) → Forest g P 1 u → Forest g P 1 v → Forest g P k (a ++ (v ++ b))
    patch [] b f fu fv = let c = rest_of b fu f in rw c.total (join g P fv c.rest)
    patch (x ∷ a) b (more h f) fu fv = more h (patch a b f fu fv)

    pub at-subterm : (a b : List ℕ) {u : List ℕ} → Forest g P 1 u → subterm g (a ++ (u ++ b)) (length a) ≡ u
    unfolding subterm
    at-subterm a b {u} f = rw (drop-append_seam a (u ++ b), span-forest g P b f) (take-append_seam u b)

    pub at-replace : (a b v : List ℕ) {u : List ℕ} → Forest g P 1 u → replace g (a ++ (u ++ b)) (length a) v ≡ a ++ (v ++ b)
    unfolding replace
    at-replace a b v {u} f =
        rw (drop-append_seam a (u ++ b), span-forest g P b f, take-append_seam a (u ++ b), drop-append-add a (u ++ b) (length u), drop-append_seam u b)

    pub at-argument : (a b : List ℕ) (w : ℕ) (us : List (List ℕ)) (i : ℕ) → i < length us → Wholes g P us →
        argument g (a ++ ((w ∷ flatten us) ++ b)) (length a) i ≡ length (a ++ w ∷ flatten (take i us))
    unfolding argument
    at-argument a b w us i l h =
        let m : i ≤ length us = omega arith in
        let b' = get_or us i [] ++ (flatten (drop (suc i) us) ++ b) in
        rw (
          focus-here a b w us i l,
          append_assoc a (w ∷ flatten (take i us)) b',
          drop_past a w (flatten (take i us) ++ b'),
          span-forest g P b' (forest-take g P us i m h),
          length-append a (w ∷ flatten (take i us)),
        ) (omega arith)

    pub at_head : (a b : List ℕ) {u : List ℕ} → Forest g P 1 u → get_or (a ++ (u ++ b)) (length a) 0 ≡ head u
    at_head a b (more {w} {ws} h f) = get_or-append_seam a w (ws ++ b) 0

    -- the same for a term by itself
    pub root-argument : (w : ℕ) (us : List (List ℕ)) (i : ℕ) → i < length us → Wholes g P us → argument g (w ∷ flatten us) 0 i ≡ length (w ∷ flatten (take i us))
    root-argument w us i m h = rw (append-nil (w ∷ flatten us)) at (at-argument [] [] w us i m h)

  pub at-word : (a b : List ℕ) (w : ℕ) (x : List ℕ) → get_or (a ++ ((w ∷ x) ++ b)) (length a) 0 ≡ w
  at-word a b w x = get_or-append_seam a w (x ++ b) 0

  -- the first k subterms end within c, so what stands after c does not count
  pub span-front : (c : List ℕ) (x : ℕ) (d d' : List ℕ) (k : ℕ) → span g (c ++ x ∷ d) k ≤ length c → span g (c ++ d') k ≡ span g (c ++ x ∷ d) k
  unfolding span
  span-front [] x d d' zero h = span-zero g d'
  span-front [] x d d' (suc k) h = absurd (not-suc-le-zero h)
  span-front (y ∷ c) x d d' zero h = refl
  span-front (y ∷ c) x d d' (suc k) h = ap suc (span-front c x d d' (k + arity g y) (le_of_suc-le-suc h))

  pub argument-front : (a : List ℕ) (x : ℕ) (d d' : List ℕ) (p i : ℕ) → argument g (a ++ x ∷ d) p i ≤ length a → argument g (a ++ d') p i ≡ argument g (a ++ x ∷ d) p i
  unfolding argument
  argument-front a x d d' p i h =
      let l : suc p ≤ length a = omega arith in
      rw (drop-append-le (suc p) a (x ∷ d) l, drop-append-le (suc p) a d' l)
      (ap (λ n. suc p + n) (span-front (drop (suc p) a) x d d' i
      (rw (length-drop (suc p) a) (let h' = rw (drop-append-le (suc p) a (x ∷ d) l) at h in omega arith))))

  -- a replacement at q leaves what stands before q
  pub replace-word : (t u : List ℕ) (p q : ℕ) → q ≤ length t → p < q → get_or (replace g t q u) p 0 ≡ get_or t p 0
  unfolding replace
  replace-word t u p q h l = get_or-append (take q t) _ 0 p (rw (length-take-le q t h) l) ∙ get_or-take q t p 0 l

  pub replace-argument : (t u : List ℕ) (p q i : ℕ) → q < length t → argument g t p i ≤ q → argument g (replace g t q u) p i ≡ argument g t p i
  unfolding replace
  replace-argument t u p q i h l =
      let e = split_at t q 0 h in
      argument-front (take q t) (get_or t q 0) (drop (suc q) t) _ p i (subst₂ (λ y n. argument g y p i ≤ n) e (sym (length-take-le q t (omega arith))) l)
      ∙ ap (λ y. argument g y p i) (sym e)

  -- the length after a replacement
  pub replace-length : (t u : List ℕ) (p : ℕ) → p + span g (drop p t) 1 ≤ length t → length (replace g t p u) + span g (drop p t) 1 ≡ length t + length u
  unfolding replace
  replace-length t u p h =
      let n = span g (drop p t) 1 in
      simp (length-append, length-take-le p t (omega arith), length-drop) (omega arith)
