-- Whether a rule passes and whether a term is well-sorted (02, F-8), as computations: word by word, with the sorts of the places to come.
use Rattle.std.specs.Prelude.{ℕ, ◌-◌, Bool, true, false, List, [], ◌∷◌, ◌++◌, get_or, set, replicate, ltb, eqb}
use Rattle.std.proofs.Math.Option.{Option, none, some}
use Rattle.system.specs.Limits.{variable, variables}
use Rattle.system.specs.Signature.{Signature}
use Rattle.system.specs.System.{Rule, head}
use Rattle.sorts.specs.Sorts.{Sorts, result_sort, argument_sorts}

-- no sort is known of a variable: above all sorts
abbrev pub unset : ℕ
unset = 64

-- a variable v at a place of sort e: "A placeholder's kind is that of its place on the left"; "each placeholder has one kind"
unfoldable pub note : List ℕ → ℕ → ℕ → Option (List ℕ)
note τ v e =
    elim (eqb (get_or τ v unset) unset) [
      | true ↦ some (set τ v e)
      | false ↦ elim (eqb (get_or τ v unset) e) [ true ↦ some τ | false ↦ none ]
    ]

-- the words after those that were checked, and the sorts of the variables that are known by then
pub record Checked : Type 0 where
  pub words : List ℕ
  pub sorts : List ℕ

-- the front of the words against the sorts es, one term for each: each symbol's outcome has the sort of its place, then its arguments
-- have theirs
unfoldable pub check : Signature → Sorts → List ℕ → List ℕ → List ℕ → Option Checked
check g ks [] [] τ = some (record { words = []; sorts = τ })
check g ks [] (e ∷ es) τ = none
check g ks (w ∷ ws) [] τ = some (record { words = w ∷ ws; sorts = τ })
check g ks (w ∷ ws) (e ∷ es) τ =
    elim (ltb w variable) [
      | true ↦ elim (eqb (result_sort g ks w) e) [ true ↦ check g ks ws (argument_sorts g ks w ++ es) τ | false ↦ none ]
      | false ↦ elim (note τ (w - variable) e) [ none ↦ none | some τ' ↦ check g ks ws es τ' ]
    ]

-- go on with what was checked
abbrev pub chain : {A : Type 0} → Option Checked → (Checked → Option A) → Option A
chain none on = none
chain (some x) on = on x

abbrev pub is_some : {A : Type 0} → Option A → Bool
is_some none = false
is_some (some a) = true

unfoldable pub unknown : List ℕ
unknown = replicate variables unset

-- both sides have the sort of the left side's first symbol; the left side tells the sorts of the variables, the right side keeps to them
unfoldable pub rule_sorts : Signature → Sorts → Rule → Option Checked
rule_sorts g ks r =
    let e = result_sort g ks (head r.lhs) in
    chain (check g ks r.lhs (e ∷ []) unknown) (λ x. check g ks r.rhs (e ∷ []) x.sorts)

-- whether the rule passes
unfoldable pub sorted_rule : Signature → Sorts → Rule → Bool
sorted_rule g ks r = is_some (rule_sorts g ks r)

-- whether the term is well-sorted
unfoldable pub sorted_term : Signature → Sorts → List ℕ → Bool
sorted_term g ks t = is_some (check g ks t (result_sort g ks (head t) ∷ []) unknown)
