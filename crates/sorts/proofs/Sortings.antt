-- Sorted forests: how they split and join, and what an instance of a sorted side is.
use Prim.Native.Nat.{ℕ, zero, suc, ◌+◌, ◌-◌, ◌≤◌, ◌<◌}
use native.Mathlib.Omega.{arith}
use native.Mathlib.Decide.{dec_lt}
use mathlib.Core.Path.{◌≡◌, refl, sym, ap, ◌∙◌, subst}
use mathlib.Core.List.{List, [], ◌∷◌, ◌++◌, append_assoc}
use lib.ListN.{length, length-append}
use borrow.Author.Tests.{lt-ltb, le-ltb}
use Rattle.system.specs.Limits.{variable}
use Rattle.system.specs.Signature.{Signature, Symbol, arity}
use Rattle.system.specs.System.{instance}
use Rattle.system.specs.Terms.{Forest, Whole, Member, first, later}
use Rattle.system.specs.Terms.Forest.{empty as none, more as cons}
use Rattle.system.proofs.Signatures.{arity-variable, symbol-below}
use Rattle.matching.proofs.Matched.{instance-nil, instance-symbol, instance-variable}
use Rattle.sorts.specs.Sorts.{Sorts, numbers_from, result_sort, argument_sorts, word_sort, Sorted, empty, more}

pub numbers-length : (ks : Sorts) (i n : ℕ) → length (numbers_from ks i n) ≡ n
unfolding numbers_from
numbers-length ks i zero = refl
numbers-length ks i (suc n) = ap suc (numbers-length ks (suc i) n)

nowhere : {w : ℕ} → Member w [] → ⊥
nowhere = elim [ ]

module _ (g : Signature) (ks : Sorts) where
  pub arguments-length : (w : ℕ) → length (argument_sorts g ks w) ≡ arity g w
  unfolding argument_sorts
  arguments-length w = numbers-length ks _ (arity g w)

  pub arguments-none : (w : ℕ) → arity g w ≡ 0 → argument_sorts g ks w ≡ []
  unfolding argument_sorts numbers_from
  arguments-none w e = rw e

  module _ (τ : ℕ → ℕ) where
    pub sort-symbol : (w : ℕ) → w < variable → word_sort g ks τ w ≡ result_sort g ks w
    unfolding word_sort
    sort-symbol w h = rw (lt-ltb w variable h)

    pub sort-variable : (w : ℕ) → variable ≤ w → word_sort g ks τ w ≡ τ (w - variable)
    unfolding word_sort
    sort-variable w h = rw (le-ltb w variable h)

    pub sorted-join : {ds es u b : List ℕ} → Sorted g ks τ ds u → Sorted g ks τ es b → Sorted g ks τ (ds ++ es) (u ++ b)
    sorted-join empty s' = s'
    sorted-join {es} (more {w} {es = ds} q s) s' = more q (rw (append_assoc (argument_sorts g ks w) ds es) at (sorted-join s s'))

    pub sorted-split : (P : ℕ → Type 0) {n : ℕ} {u : List ℕ} (ds es b : List ℕ) → Forest g P n u → length ds ≡ n → Sorted g ks τ (ds ++ es) (u ++ b) →
        Sorted g ks τ ds u × Sorted g ks τ es b
    sorted-split P [] es b none e s = (empty, s)
    sorted-split P (d ∷ ds) es b none e s = absurd (omega arith)
    sorted-split P [] es b (cons h f) e s = absurd (omega arith)
    sorted-split P (d ∷ ds) es b (cons {w} h f) e (more q s) =
        let c = sorted-split P (argument_sorts g ks w ++ ds) es b f
        (rw (length-append (argument_sorts g ks w) ds, arguments-length w) (omega arith))
        (rw (append_assoc (argument_sorts g ks w) ds es) s) in
        (more q c.0, c.1)

    -- the first word's sort is the one asked for, and its arguments have theirs
    pub sorted-first : {e w : ℕ} {es ws : List ℕ} → Sorted g ks τ (e ∷ es) (w ∷ ws) → word_sort g ks τ w ≡ e
    sorted-first (more q s) = q

    pub sorted_rest : {e w : ℕ} {es ws : List ℕ} → Sorted g ks τ (e ∷ es) (w ∷ ws) → Sorted g ks τ (argument_sorts g ks w ++ es) ws
    sorted_rest (more q s) = s

    -- a subterm may be replaced by another of the same sort
    nothing_left : {ws : List ℕ} → Sorted g ks τ [] ws → ws ≡ []
    nothing_left empty = refl

    front : (b es : List ℕ) {u v : List ℕ} → Whole g u → ((e : ℕ) → Sorted g ks τ (e ∷ []) u → Sorted g ks τ (e ∷ []) v) → Sorted g ks τ es (u ++ b) → Sorted g ks τ es (v ++ b)
    front b [] (cons h f) on s = absurd (let q = nothing_left s in let z : ◌≡◌ {A = ℕ} 0 1 = cc in omega arith)
    front b (e ∷ es) h on s = let c = sorted-split (Symbol g) (e ∷ []) es b h refl s in sorted-join (on e c.0) c.1

    pub sorted-patch : (a b : List ℕ) {es u v : List ℕ} → Whole g u → ((e : ℕ) → Sorted g ks τ (e ∷ []) u → Sorted g ks τ (e ∷ []) v) →
        Sorted g ks τ es (a ++ (u ++ b)) → Sorted g ks τ es (a ++ (v ++ b))
    sorted-patch [] b {es} h on s = front b es h on s
    sorted-patch (x ∷ a) b h on (more q s) = more q (sorted-patch a b h on s)

  -- a term has no variables: their sorts do not count
  pub sorted-any : (few : length g ≤ variable) (τ τ' : ℕ → ℕ) {k : ℕ} {es ws : List ℕ} → Forest g (Symbol g) k ws → Sorted g ks τ es ws → Sorted g ks τ' es ws
  sorted-any few τ τ' none empty = empty
  sorted-any few τ τ' (cons {w} h f) (more q s) =
      let b = symbol-below g w few h in
      more (sort-symbol τ' w b ∙ sym (sort-symbol τ w b) ∙ q) (sorted-any few τ τ' f s)

  -- ---- instances: τ gives the sorts of the side's variables, τ₀ those of the terms (which have no variables)

  module _ (few : length g ≤ variable) (τ τ₀ : ℕ → ℕ) (σ : ℕ → List ℕ) where
    -- what variable word w stands for has the sort of w
    abbrev pub Valued : List ℕ → Type 0
    Valued ls = (w : ℕ) → Member w ls → variable ≤ w → Sorted g ks τ₀ (τ (w - variable) ∷ []) (σ (w - variable))

    -- from a sorted side and a sorted instance of it: the terms of its variables are sorted
    pub sorted-values : ((v : ℕ) → Whole g (σ v)) → {es ls : List ℕ} → Sorted g ks τ es ls → Sorted g ks τ₀ es (instance σ ls) → Valued ls
    sorted-values whole empty z w st v = absurd (nowhere st)
    sorted-values whole (more {w = l} {e} {es} {ws = ls} q s) z w st v = elim (dec_lt l variable) [
      | yes h ↦
          let z' = rw (instance-symbol σ l ls h) at z in
          symbol h (sorted-values whole s (sorted_rest τ₀ z')) w st v
      | no h ↦
          let p : l ≡ variable + (l - variable) = omega arith in
          let z' = rw (instance-variable σ l (l - variable) ls p) at z in
          let c = sorted-split τ₀ (Symbol g) (e ∷ []) es (instance σ ls) (whole (l - variable)) refl z' in
          let none-there = arguments-none l (arity-variable g l few (omega arith)) in
          term (subst (λ k. Sorted g ks τ₀ (k ∷ []) (σ (l - variable))) (sym q ∙ sort-variable τ l (omega arith)) c.0)
          (sorted-values whole s (rw none-there c.1)) w st v
    ]
      where
        symbol : l < variable → Valued ls → Valued (l ∷ ls)
        symbol h ih w first v = absurd (omega arith)
        symbol h ih w (later st) v = ih w st v

        term : Sorted g ks τ₀ (τ (l - variable) ∷ []) (σ (l - variable)) → Valued ls → Valued (l ∷ ls)
        term x ih w first v = x
        term x ih w (later st) v = ih w st v

    -- and the other way round
    pub sorted-instance : {es ls : List ℕ} → Sorted g ks τ es ls → Valued ls → Sorted g ks τ₀ es (instance σ ls)
    sorted-instance empty h = rw (instance-nil σ) empty
    sorted-instance (more {w = l} {e} {es} {ws = ls} q s) h =
        let ih = sorted-instance s (λ w st v. h w (later st) v) in
        elim (dec_lt l variable) [
          | yes b ↦ rw (instance-symbol σ l ls b) (more (sort-symbol τ₀ l b ∙ sym (sort-symbol τ l b) ∙ q) ih)
          | no b ↦
              let p : l ≡ variable + (l - variable) = omega arith in
              let none-there = arguments-none l (arity-variable g l few (omega arith)) in
              rw (instance-variable σ l (l - variable) ls p)
              (sorted-join τ₀ (subst (λ k. Sorted g ks τ₀ (k ∷ []) (σ (l - variable))) (sym (sort-variable τ l (omega arith)) ∙ q) (h l first (omega arith))) (rw none-there at ih))
        ]
