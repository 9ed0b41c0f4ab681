-- The computed checks decide which rules pass, and which terms are well-sorted.
use Prim.Native.Nat.{ℕ, zero, suc, ◌≤◌}
use native.Mathlib.Omega.{arith}
use mathlib.Core.Path.{◌≡◌, refl, sym, ap, ◌∙◌, subst}
use mathlib.Core.Bool.{true}
use mathlib.Core.Option.{Option, none, some}
use mathlib.Core.List.{List, [], ◌∷◌, append-nil}
use lib.ListN.{length, get_or, replicate}
use Rattle.system.specs.Limits.{variable, variables, max_sort}
use Rattle.system.specs.Signature.{Signature, Symbol}
use Rattle.system.specs.System.{Rule, head}
use Rattle.system.specs.Terms.{Forest, Whole, Word, WellFormedRule}
use Rattle.system.specs.Terms.Forest.{empty as nil, more as cons}
use Rattle.system.proofs.Members.{numbered_below}
use Rattle.system.proofs.Signatures.{symbol-below}
use Rattle.sorts.specs.Sorts.{Sorts, result_sort, Sorted, more, SortedTerm, SortedRule, Lists}
use Rattle.sorts.specs.SortCheck.{unset, Checked, check, chain, is_some, unknown, rule_sorts, sorted_rule, sorted_term}
use Rattle.sorts.proofs.Sortings.{sort-symbol, sorted-any}
use Rattle.sorts.proofs.Unlisted.{lists-small}
use Rattle.sorts.proofs.Checking.{Small, Within, within_of, sorts_in, check_sound, sorted-keeps, check-complete}

-- ---- nothing is known of the variables

get_or-replicate : (n v x : ℕ) → get_or (replicate n x) v x ≡ x
get_or-replicate zero v x = refl
get_or-replicate (suc n) zero x = refl
get_or-replicate (suc n) (suc v) x = get_or-replicate n v x

unknown-unset : (v : ℕ) → get_or unknown v unset ≡ unset
unfolding unknown
unknown-unset v = get_or-replicate variables v unset

pub unknown-length : length unknown ≡ variables
unfolding unknown
unknown-length = refl

chain-some : {A : Type 0} (o : Option Checked) (on : Checked → Option A) (y : A) → chain o on ≡ some y → (x : Checked) × (o ≡ some x) × (on x ≡ some y)
chain-some none on y e = absurd (let z : ◌≡◌ {A = ℕ} 0 1 = cc in omega arith)
chain-some (some x) on y e = (x, refl, e)

is-some : {A : Type 0} (o : Option A) → is_some o ≡ true → (y : A) × (o ≡ some y)
is-some none e = absurd (let z : ◌≡◌ {A = ℕ} 0 1 = cc in omega arith)
is-some (some y) e = (y, refl)

-- a symbol at the front has the sort asked for
front-sort : (g : Signature) (few : length g ≤ variable) (ks : Sorts) (τ : ℕ → ℕ) {e : ℕ} {ws : List ℕ} → Symbol g (get_or ws 0 variable) → Sorted g ks τ (e ∷ []) ws →
    result_sort g ks (head ws) ≡ e
front-sort g few ks τ h (more {w} q s) = sym (sort-symbol g ks τ w (symbol-below g w few h)) ∙ q

whole-head : (g : Signature) {t : List ℕ} → Whole g t → Symbol g (get_or t 0 variable)
whole-head g (cons h f) = h

module _ (g : Signature) (few : length g ≤ variable) (ks : Sorts) (fit : Lists ks g) where
  all : (i : ℕ) → get_or ks i 0 ≤ max_sort
  all = lists-small g ks fit

  small_one : (w : ℕ) → Small (result_sort g ks w ∷ [])
  unfolding result_sort
  small_one w = (all _, tt)

  -- ---- rules

  module _ (r : Rule) (law : WellFormedRule g r) where
    within-left : (n : ℕ) → n ≡ variables → Within n r.lhs
    within-left n e = within_of n r.lhs (λ w st. let z = numbered_below law.numbered st in let z' = law.variable_bound in omega arith)

    within-right : (n : ℕ) → n ≡ variables → Within n r.rhs
    within-right n e = within_of n r.rhs (λ w st. let z = law.known w st in let z' = law.variable_bound in omega arith)

    sides-sound : (y : Checked) → rule_sorts g ks r ≡ some y → SortedRule g ks r
    unfolding rule_sorts
    sides-sound y q =
        let e = result_sort g ks (head r.lhs) in
        let c = chain-some (check g ks r.lhs (e ∷ []) unknown) (λ x. check g ks r.rhs (e ∷ []) x.sorts) y q in
        let x = c.0 in
        let l = check_sound g few ks all (Word g) law.left (e ∷ []) [] unknown x refl (small_one (head r.lhs)) (within-left (length unknown) unknown-length)
        (rw (append-nil r.lhs) c.1) in
        let n : length x.sorts ≡ variables = l.keeps.size ∙ unknown-length in
        let k = check_sound g few ks all (Word g) law.right (e ∷ []) [] x.sorts y refl (small_one (head r.lhs)) (within-right (length x.sorts) n)
        (rw (append-nil r.rhs) c.2) in
        record { variable_sort = sorts_in y.sorts; sort = e; left = sorted-keeps g few ks all k.keeps (small_one (head r.lhs)) l.sorted; right = k.sorted }

    sides-complete : SortedRule g ks r → (y : Checked) × (rule_sorts g ks r ≡ some y)
    unfolding rule_sorts
    sides-complete c =
        let e = result_sort g ks (head r.lhs) in
        let q : e ≡ c.sort = front-sort g few ks c.variable_sort law.headed c.left in
        let a = check-complete g few ks all c.variable_sort (subst (λ k. Sorted g ks c.variable_sort (k ∷ []) r.lhs) (sym q) c.left) [] unknown
        (small_one (head r.lhs)) (within-left (length unknown) unknown-length) (record { same = λ v d. absurd (d (unknown-unset v)) }) in
        let b = check-complete g few ks all c.variable_sort (subst (λ k. Sorted g ks c.variable_sort (k ∷ []) r.rhs) (sym q) c.right) [] a.sorts
        (small_one (head r.lhs)) (within-right (length a.sorts) (a.size ∙ unknown-length)) a.agrees in (
          record { words = []; sorts = b.sorts },
          ap (λ o. chain o (λ x. check g ks r.rhs (e ∷ []) x.sorts)) (rw (append-nil r.lhs) at a.equal) ∙ (rw (append-nil r.rhs) at b.equal),
        )

    -- THE TEST OF A RULE DECIDES
    pub rule-sound : sorted_rule g ks r ≡ true → SortedRule g ks r
    unfolding sorted_rule
    rule-sound e = let y = is-some (rule_sorts g ks r) e in sides-sound y.0 y.1

    pub rule-complete : SortedRule g ks r → sorted_rule g ks r ≡ true
    unfolding sorted_rule
    rule-complete h = ap is_some (sides-complete h).1

  -- ---- terms

  within-term : {k : ℕ} {ws : List ℕ} → Forest g (Symbol g) k ws → Within (length unknown) ws
  within-term nil = tt
  within-term (cons {w} l f) = ((let z = symbol-below g w few l in omega arith), within-term f)

  module _ (t : List ℕ) (h : Whole g t) where
    -- THE TEST OF A TERM DECIDES
    pub term-sound : sorted_term g ks t ≡ true → SortedTerm g ks (result_sort g ks (head t)) t
    unfolding sorted_term
    term-sound e =
        let y = is-some (check g ks t (result_sort g ks (head t) ∷ []) unknown) e in
        let c = check_sound g few ks all (Symbol g) h (result_sort g ks (head t) ∷ []) [] unknown y.0 refl (small_one (head t)) (within-term h)
        (rw (append-nil t) y.1) in
        sorted-any g ks few (sorts_in y.0.sorts) (λ _. 0) h c.sorted

    pub term-complete : (e : ℕ) → SortedTerm g ks e t → sorted_term g ks t ≡ true
    unfolding sorted_term
    term-complete e s =
        let q : result_sort g ks (head t) ≡ e = front-sort g few ks (λ _. 0) (whole-head g h) s in
        let c = check-complete g few ks all (λ _. 0) (subst (λ k. Sorted g ks (λ _. 0) (k ∷ []) t) (sym q) s) [] unknown (small_one (head t)) (within-term h)
        (record { same = λ v d. absurd (d (unknown-unset v)) }) in
        ap is_some (rw (append-nil t) at c.equal)

    -- a term has one sort at most, that of its first symbol
    pub term-sort : (e : ℕ) → SortedTerm g ks e t → result_sort g ks (head t) ≡ e
    term-sort e s = front-sort g few ks (λ _. 0) (whole-head g h) s
