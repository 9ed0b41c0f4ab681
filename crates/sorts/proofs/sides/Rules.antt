-- A whole side, and both sides of a rule.
use Prim.Native.Nat.{ℕ}
use mathlib.Core.Path.{◌≡◌, refl, sym, ap, ◌∙◌}
use mathlib.Core.Bool.{Bool, true, false}
use mathlib.Core.Option.{Option, none, some}
use mathlib.Core.List.{List, [], ◌∷◌}
use lib.ListN.{get_or, replicate}
use Rattle.system.specs.Limits.{variables}
use Rattle.system.specs.Signature.{Signature}
use Rattle.system.specs.System.{Rule, head}
use Rattle.system.proofs.BuiltIns.{clash}
use Rattle.sorts.specs.Sorts.{Sorts, offset, numbers_from, result_sort}
use Rattle.sorts.specs.SortCheck.{Checked, check, chain, is_some, unknown, rule_sorts, sorted_rule}
use Rattle.sorts.specs.sides.Ran.{SideChecked}

-- ---- a whole side, and both sides of a rule

checked-some : (o : Option Checked) (b : Bool) (τ : List ℕ) → SideChecked o b τ → b ≡ true → (x : Checked) × (o ≡ some x) × (x.sorts ≡ τ)
checked-some none b τ h e = absurd (clash e h)
checked-some (some x) b τ h e = (x, refl, h.1)

checked-none : (o : Option Checked) (b : Bool) (τ : List ℕ) → SideChecked o b τ → b ≡ false → o ≡ none
checked-none none b τ h e = refl
checked-none (some x) b τ h e = absurd (clash h.0 e)

checked-is : (o : Option Checked) (b : Bool) (τ : List ℕ) → SideChecked o b τ → b ≡ is_some o
checked-is none b τ h = h
checked-is (some x) b τ h = h.0

module _ (g : Signature) (ks : Sorts) (r : Rule) (k : ℕ) (q : k ≡ offset g (get_or r.lhs 0 0)) (b : Bool) (τ τ' : List ℕ) (e : τ ≡ unknown)
    (left : SideChecked (check g ks r.lhs (numbers_from ks k 1) τ) b τ') where
  numbers : numbers_from ks k 1 ≡ result_sort g ks (head r.lhs) ∷ []
  unfolding numbers_from result_sort
  numbers = ap (λ j. get_or ks j 0 ∷ []) q

  asks-left : check g ks r.lhs (numbers_from ks k 1) τ ≡ check g ks r.lhs (result_sort g ks (head r.lhs) ∷ []) unknown
  asks-left = (λ j. check g ks r.lhs (numbers j) (e j))

  pub rule-fails : b ≡ false → false ≡ sorted_rule g ks r
  unfolding sorted_rule rule_sorts
  rule-fails z = sym (ap is_some (ap (λ o. chain o (λ x. check g ks r.rhs (result_sort g ks (head r.lhs) ∷ []) x.sorts))
      (sym asks-left ∙ checked-none (check g ks r.lhs (numbers_from ks k 1) τ) b τ' left z)))

  pub rule-checked : b ≡ true → (b' : Bool) (τ'' : List ℕ) → SideChecked (check g ks r.rhs (numbers_from ks k 1) τ') b' τ'' → b' ≡ sorted_rule g ks r
  unfolding sorted_rule rule_sorts
  rule-checked z b' τ'' right =
      let c = checked-some (check g ks r.lhs (numbers_from ks k 1) τ) b τ' left z in
      checked-is (check g ks r.rhs (numbers_from ks k 1) τ') b' τ'' right
      ∙ ap is_some ((λ j. check g ks r.rhs (numbers j) (sym c.2 j))
      ∙ sym (ap (λ o. chain o (λ x. check g ks r.rhs (result_sort g ks (head r.lhs) ∷ []) x.sorts)) (sym asks-left ∙ c.1)))

pub unknown-is : replicate variables 64 ≡ unknown
unfolding unknown
unknown-is = refl
