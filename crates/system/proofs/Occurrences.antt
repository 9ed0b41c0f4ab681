-- How often a word stands in a list.
use Prim.Native.Nat.{ℕ, zero, suc, ◌+◌, ◌≤◌, ◌<◌}
use native.Mathlib.Numerals.{add-one}
use native.Mathlib.Omega.{arith}
use native.Mathlib.Decide.{ℕ_discrete}
use mathlib.Core.Path.{◌≡◌, refl, ap, ◌∙◌}
use mathlib.Core.Bool.{Bool, true, false, cond}
use mathlib.Core.List.{List, [], ◌∷◌, ◌++◌}
use lib.ListN.{length, get_or, take}
use lib.Seq.{take-suc}
use lib.Dec.{eqb}
use borrow.Author.Tests.{eq-eqb, ne_eqb}
use Rattle.system.specs.Terms.{Member, first, later, occurs}

module _ (v : ℕ) where
  pub occurs-nil : occurs v [] ≡ 0
  unfolding occurs
  occurs-nil = refl

  pub occurs-same : (ws : List ℕ) → occurs v (v ∷ ws) ≡ suc (occurs v ws)
  unfolding occurs
  occurs-same ws = rw (eq-eqb v v refl) (omega arith)

  pub occurs-other : (w : ℕ) (ws : List ℕ) → (w ≡ v → ⊥) → occurs v (w ∷ ws) ≡ occurs v ws
  unfolding occurs
  occurs-other w ws d = rw (ne_eqb w v d) (omega arith)

  pub occurs-append : (a b : List ℕ) → occurs v (a ++ b) ≡ occurs v a + occurs v b
  unfolding occurs
  occurs-append [] b = omega arith
  occurs-append (w ∷ a) b = let z = occurs-append a b in omega arith

  -- among the first of them no more often than among all
  pub occurs-take : (k : ℕ) (ws : List ℕ) → occurs v (take k ws) ≤ occurs v ws
  unfolding occurs
  occurs-take zero ws = omega arith
  occurs-take (suc k) [] = omega arith
  occurs-take (suc k) (w ∷ ws) = let z = occurs-take k ws in omega arith

  -- and at most as often as there are words
  pub occurs-length : (ws : List ℕ) → occurs v ws ≤ length ws
  unfolding occurs
  occurs-length [] = omega arith
  occurs-length (w ∷ ws) = let z = occurs-length ws in go (eqb w v) z
    where
      go : (b : Bool) {n m : ℕ} → n ≤ m → cond b 1 0 + n ≤ suc m
      go true h = omega arith
      go false h = omega arith

  -- a word that does not stand there, and one that does
  pub occurs-none : (ws : List ℕ) → (Member v ws → ⊥) → occurs v ws ≡ 0
  occurs-none [] h = occurs-nil
  occurs-none (w ∷ ws) h = elim (ℕ_discrete w v) [
    | yes e ↦ absurd (h (rw e first))
    | no d ↦ occurs-other w ws d ∙ occurs-none ws (λ st. h (later st))
  ]

  pub occurs-some : {ws : List ℕ} → Member v ws → 0 < occurs v ws
  unfolding occurs
  occurs-some (first {es = ws}) = let z = occurs-same ws in omega arith
  occurs-some (later st) = let z = occurs-some st in omega arith

  -- a word that stands there once stands nowhere else
  pub occurs-once : (a b : List ℕ) → occurs v (a ++ v ∷ b) ≡ 1 → (Member v a → ⊥) × (Member v b → ⊥)
  occurs-once a b e =
      let z = occurs-append a (v ∷ b) in
      let z' = occurs-same b in
      (λ st. let y = occurs-some st in omega arith, λ st. let y = occurs-some st in omega arith)

  -- ---- one word more

  module _ (ws : List ℕ) (j : ℕ) (h : j < length ws) where
    next : take (j + 1) ws ≡ take j ws ++ get_or ws j 0 ∷ []
    next = ap (λ k. take k ws) (add-one j) ∙ take-suc ws j 0 h

    pub occurs-next : get_or ws j 0 ≡ v → occurs v (take (j + 1) ws) ≡ occurs v (take j ws) + 1
    occurs-next e =
        let z = ap (λ w. occurs v (w ∷ [])) e in
        let z' = occurs-same [] in
        let z'' = occurs-nil in
        ap (occurs v) next ∙ occurs-append (take j ws) (get_or ws j 0 ∷ []) ∙ omega arith

    pub occurs-skip : (get_or ws j 0 ≡ v → ⊥) → occurs v (take (j + 1) ws) ≡ occurs v (take j ws)
    occurs-skip d =
        let z = occurs-other (get_or ws j 0) [] d in
        let z' = occurs-nil in
        ap (occurs v) next ∙ occurs-append (take j ws) (get_or ws j 0 ∷ []) ∙ omega arith
