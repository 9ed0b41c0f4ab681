-- Subject reduction: a rewrite anywhere in a well-sorted term leaves a well-sorted term of the same sort.
use Prim.Native.Nat.{ℕ, ◌+◌, ◌-◌, ◌≤◌, ◌<◌}
use native.Mathlib.Omega.{arith}
use native.Mathlib.Decide.{ℕ_discrete}
use mathlib.Core.Path.{◌≡◌, sym, ◌∙◌, subst}
use mathlib.Core.List.{List, [], ◌∷◌, ◌++◌}
use lib.ListN.{length, get_or}
use Rattle.system.specs.Limits.{variable}
use Rattle.system.specs.Signature.{Signature, Symbol}
use Rattle.system.specs.System.{Rule, instance}
use Rattle.system.specs.Terms.{Whole, Member, first, later, Numbered, end, symbol, next, again, WellFormedRule}
use Rattle.system.proofs.Signatures.{symbol-below}
use Rattle.matching.proofs.Matched.{instance-symbol, instance-forest}
use Rattle.sorts.specs.Sorts.{Sorts, Sorted, more, SortedRule}
use Rattle.sorts.proofs.Sortings.{sort-symbol, sorted-first, sorted-patch, sorted-values, sorted-instance}

-- each of the variables n to m - 1 stands there
numbered-member : {n m : ℕ} {ls : List ℕ} → Numbered n m ls → (v : ℕ) → n ≤ v → v < m → Member (variable + v) ls
numbered-member end v h l = absurd (omega arith)
numbered-member (symbol k nb) v h l = later (numbered-member nb v h l)
numbered-member (next {n} {w} {ws} e nb) v h l = elim (ℕ_discrete v n) [
  | yes q ↦ subst (λ y. Member y (w ∷ ws)) (omega arith) first
  | no q ↦ later (numbered-member nb v (omega arith) l)
]
numbered-member (again e k nb) v h l = later (numbered-member nb v h l)

-- "A right side uses only placeholders of its left side"
pub formed-bound : (g : Signature) (r : Rule) → WellFormedRule g r → (w : ℕ) → Member w r.rhs → variable ≤ w → Member w r.lhs
formed-bound g r law w st v =
    subst (λ y. Member y r.lhs) (omega arith) (numbered-member law.numbered (w - variable) (omega arith) (let z = law.known w st in omega arith))

module _ (g : Signature) (few : length g ≤ variable) (ks : Sorts) (τ₀ : ℕ → ℕ) where
  -- an instance of a left side has the sort of the side
  same-sort : {ls : List ℕ} (τ : ℕ → ℕ) (σ : ℕ → List ℕ) (k e : ℕ) → Symbol g (get_or ls 0 variable) → Sorted g ks τ (k ∷ []) ls → Sorted g ks τ₀ (e ∷ []) (instance σ ls) → k ≡ e
  same-sort τ σ k e h (more {w} {ws} q s) z =
      let b = symbol-below g w few h in
      sym q ∙ sort-symbol g ks τ w b ∙ sym (sort-symbol g ks τ₀ w b) ∙ sorted-first g ks τ₀ (rw (instance-symbol σ w ws b) at z)

  -- a rule that passes keeps the sort of an instance
  pub rule-keeps : (r : Rule) → WellFormedRule g r → SortedRule g ks r → (σ : ℕ → List ℕ) → ((v : ℕ) → Whole g (σ v)) → (e : ℕ) →
      Sorted g ks τ₀ (e ∷ []) (instance σ r.lhs) → Sorted g ks τ₀ (e ∷ []) (instance σ r.rhs)
  rule-keeps r law c σ whole e z =
      let τ = c.variable_sort in
      let q = same-sort τ σ c.sort e law.headed c.left z in
      let values = sorted-values g ks few τ τ₀ σ whole c.left (subst (λ k. Sorted g ks τ₀ (k ∷ []) (instance σ r.lhs)) (sym q) z) in
      subst (λ k. Sorted g ks τ₀ (k ∷ []) (instance σ r.rhs)) q
      (sorted-instance g ks few τ τ₀ σ c.right (λ w st v. values w (formed-bound g r law w st v) v))

  -- in any surroundings
  pub subject : (r : Rule) → WellFormedRule g r → SortedRule g ks r → (σ : ℕ → List ℕ) → ((v : ℕ) → Whole g (σ v)) → (a b : List ℕ) {es : List ℕ} →
      Sorted g ks τ₀ es (a ++ (instance σ r.lhs ++ b)) → Sorted g ks τ₀ es (a ++ (instance σ r.rhs ++ b))
  subject r law c σ whole a b s = sorted-patch g ks τ₀ a b (instance-forest g few σ whole law.left) (λ e. rule-keeps r law c σ whole e) s
