-- Sorts by the places of words: each word's sort is that of its place, and all places of a rule at which a variable stands have the same sort.
use Prim.Native.Nat.{ℕ, zero, suc, ◌-◌, ◌≤◌, ◌<◌}
use native.Mathlib.Nat.{not-suc-le-zero}
use native.Mathlib.Omega.{arith}
use mathlib.Core.Path.{◌≡◌, sym, ap, ◌∙◌, subst}
use mathlib.Core.List.{List, [], ◌∷◌, ◌++◌}
use lib.ListN.{length, get_or, length-append}
use Rattle.system.specs.Limits.{variable}
use Rattle.system.specs.Signature.{Signature}
use Rattle.system.specs.System.{Rule}
use Rattle.system.specs.Terms.{Forest}
use Rattle.system.specs.Terms.Forest.{empty as none, more as cons}
use Rattle.sorts.specs.Sorts.{Sorts, argument_sorts, word_sort, Sorted, empty, more, SortedRule, places}
use Rattle.sorts.proofs.Sortings.{arguments-length, sort-variable}

module _ (g : Signature) (ks : Sorts) where
  module _ (τ : ℕ → ℕ) where
    -- "each argument's kind is the one listed for its place", of every word
    pub word-place : {es ws : List ℕ} → Sorted g ks τ es ws → (i : ℕ) → i < length ws → word_sort g ks τ (get_or ws i 0) ≡ get_or (places g ks es ws) i 0
    unfolding places
    word-place empty i l = absurd (not-suc-le-zero l)
    word-place (more q s) zero l = q
    word-place (more q s) (suc i) l = word-place s i (omega arith)

    -- and whole terms of which that holds are sorted
    pub place-word : (P : ℕ → Type 0) {n : ℕ} {ws : List ℕ} → Forest g P n ws → (es : List ℕ) → length es ≡ n →
        ((i : ℕ) → i < length ws → word_sort g ks τ (get_or ws i 0) ≡ get_or (places g ks es ws) i 0) → Sorted g ks τ es ws
    unfolding places
    place-word P none [] e h = empty
    place-word P none (x ∷ es) e h = absurd (omega arith)
    place-word P (cons k f) [] e h = absurd (omega arith)
    place-word P (cons {w} k f) (x ∷ es) e h =
        more (h 0 (omega arith)) (place-word P f (argument_sorts g ks w ++ es) (rw (length-append (argument_sorts g ks w) es, arguments-length g ks w) (omega arith))
        (λ i l. h (suc i) (omega arith)))

    place-sort : {es ws : List ℕ} → Sorted g ks τ es ws → (i : ℕ) → i < length ws → variable ≤ get_or ws i 0 → get_or (places g ks es ws) i 0 ≡ τ (get_or ws i 0 - variable)
    place-sort {ws} s i l v = sym (word-place s i l) ∙ sort-variable g ks τ (get_or ws i 0) v

  module _ {r : Rule} (c : SortedRule g ks r) where
    -- at two places of the left side, and at a place of either side
    pub one-sort : (i j : ℕ) → i < length r.lhs → j < length r.lhs → variable ≤ get_or r.lhs i 0 → get_or r.lhs i 0 ≡ get_or r.lhs j 0 →
        get_or (places g ks (c.sort ∷ []) r.lhs) i 0 ≡ get_or (places g ks (c.sort ∷ []) r.lhs) j 0
    one-sort i j l m v e =
        place-sort c.variable_sort c.left i l v ∙ ap (λ w. c.variable_sort (w - variable)) e
        ∙ sym (place-sort c.variable_sort c.left j m (subst (λ w. variable ≤ w) e v))

    pub same-sort-right : (i j : ℕ) → i < length r.lhs → j < length r.rhs → variable ≤ get_or r.lhs i 0 → get_or r.lhs i 0 ≡ get_or r.rhs j 0 →
        get_or (places g ks (c.sort ∷ []) r.lhs) i 0 ≡ get_or (places g ks (c.sort ∷ []) r.rhs) j 0
    same-sort-right i j l m v e =
        place-sort c.variable_sort c.left i l v ∙ ap (λ w. c.variable_sort (w - variable)) e
        ∙ sym (place-sort c.variable_sort c.right j m (subst (λ w. variable ≤ w) e v))

    -- a right side that is a placeholder: the rule's sort is the placeholder's
    pub bare-sort : (w : ℕ) → r.rhs ≡ w ∷ [] → variable ≤ w → c.sort ≡ c.variable_sort (w - variable)
    bare-sort w e v = go (subst (Sorted g ks c.variable_sort (c.sort ∷ [])) e c.right)
      where
        go : {k : ℕ} → Sorted g ks c.variable_sort (k ∷ []) (w ∷ []) → k ≡ c.variable_sort (w - variable)
        go (more q s) = sym q ∙ sort-variable g ks c.variable_sort w v
