-- A variable twice on a left side (02, F-7): wherever the rule matches, the same words stand at both places; and same(a, a) matches exactly where
-- both arguments are equal.
use Prim.Native.Nat.{ℕ, ◌+◌, ◌≤◌}
use native.Mathlib.Omega.{arith}
use mathlib.Core.Path.{◌≡◌, refl, sym, ap, ◌∙◌, subst}
use mathlib.Core.Logic.{◌↔◌}
use mathlib.Core.List.{List, [], ◌∷◌, ◌++◌, append-nil}
use lib.ListN.{length, drop}
use Rattle.system.specs.Limits.{variable}
use Rattle.system.specs.Signature.{Signature, Symbol, arity, subterm}
use Rattle.system.specs.System.{Rule, instance}
use Rattle.system.specs.Terms.{Forest, more, Whole}
use Rattle.system.proofs.Signatures.{symbol-below}
use Rattle.system.proofs.Forests.{join}
use Rattle.matching.specs.Matching.{Matches}
use Rattle.matching.proofs.Matched.{instance-nil, instance-symbol, instance-variable}
use Rattle.matching.proofs.Words.{instance-append}
use Rattle.matching.proofs.Idle.{same-front, root-subterm}

-- "it fits if both arguments are equal, all their words": the part there has what the variable stands for at both places
pub repeats-equal : (g : Signature) (t : List ℕ) (p : ℕ) (r : Rule) (v : ℕ) (a b c : List ℕ) → r.lhs ≡ a ++ (variable + v) ∷ (b ++ (variable + v) ∷ c) →
    (m : Matches g t p r) → subterm g t p ≡ instance m.σ a ++ (m.σ v ++ (instance m.σ b ++ (m.σ v ++ instance m.σ c)))
repeats-equal g t p r v a b c is m =
    sym m.equal ∙ ap (instance m.σ) is ∙ instance-append m.σ a ((variable + v) ∷ (b ++ (variable + v) ∷ c))
    ∙ ap (λ y. instance m.σ a ++ y) (instance-variable m.σ (variable + v) v (b ++ (variable + v) ∷ c) refl
    ∙ ap (λ y. m.σ v ++ y) (instance-append m.σ b ((variable + v) ∷ c)
    ∙ ap (λ y. instance m.σ b ++ y) (instance-variable m.σ (variable + v) v c refl)))

-- "Designers write rules such as same(a, a)": f is the name, u and w are its two arguments
module _ (g : Signature) (few : length g ≤ variable) (f : ℕ) (known : Symbol g f) (two : arity g f ≡ 2) {u w : List ℕ} (hu : Whole g u) (hw : Whole g w) where
  whole : Whole g (f ∷ (u ++ w))
  whole = more {k = 0} known (subst (λ n. Forest g (Symbol g) n (u ++ w)) (omega arith) (join g (Symbol g) hu hw))

  filled : (σ : ℕ → List ℕ) → instance σ (f ∷ variable ∷ variable ∷ []) ≡ f ∷ (σ 0 ++ (σ 0 ++ []))
  filled σ =
      instance-symbol σ f (variable ∷ variable ∷ []) (symbol-below g f few known)
      ∙ ap (λ y. f ∷ y) (instance-variable σ variable 0 (variable ∷ []) (omega arith)
      ∙ ap (λ y. σ 0 ++ y) (instance-variable σ variable 0 [] (omega arith) ∙ ap (λ y. σ 0 ++ y) (instance-nil σ)))

  pub same-exactly : (r : Rule) → r.lhs ≡ f ∷ variable ∷ variable ∷ [] → Matches g (f ∷ (u ++ w)) 0 r ↔ (u ≡ w)
  same-exactly r is = (
    λ m.
        let e = ap (drop 1) (sym (filled m.σ) ∙ ap (instance m.σ) (sym is) ∙ m.equal ∙ root-subterm g whole) in
        let c = same-front g (Symbol g) (m.σ 0 ++ []) w (m.whole 0) hu e in
        sym c.0 ∙ sym (append-nil (m.σ 0)) ∙ c.1,
    λ e. record {
      σ = λ v. u;
      whole = λ v. hu;
      equal = ap (instance (λ v. u)) is ∙ filled (λ v. u) ∙ ap (λ y. f ∷ (u ++ y)) (append-nil u ∙ e) ∙ sym (root-subterm g whole);
    },
  )
