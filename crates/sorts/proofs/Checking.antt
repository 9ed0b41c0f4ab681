-- The computed check of sorts decides what `Sorted` says.
use Prim.Native.Nat.{ℕ, zero, suc, ◌+◌, ◌-◌, ◌≤◌, ◌<◌}
use native.Mathlib.Omega.{arith}
use native.Mathlib.Decide.{dec_lt, ℕ_discrete}
use mathlib.Core.Path.{◌≡◌, refl, sym, ap, ◌∙◌, subst}
use mathlib.Core.Option.{Option, none, some}
use mathlib.Core.List.{List, [], ◌∷◌, ◌++◌, append_assoc}
use lib.ListN.{length, get_or, set, length-set, length-append}
use lib.Seq.{get_or-set_same, get_or-set_other}
use borrow.Author.Tests.{lt-ltb, le-ltb, eq-eqb, ne_eqb}
use Rattle.system.specs.Limits.{variable}
use Rattle.system.specs.Signature.{Signature, arity}
use Rattle.system.specs.Terms.{Forest, Member, first, later}
use Rattle.system.specs.Terms.Forest.{empty as nil, more as cons}
use Rattle.system.proofs.Signatures.{arity-variable}
use Rattle.sorts.specs.Sorts.{Sorts, numbers_from, result_sort, argument_sorts, Sorted, empty, more}
use Rattle.sorts.specs.SortCheck.{unset, note, Checked, check, chain}
use Rattle.sorts.proofs.Sortings.{arguments-length, arguments-none, sort-symbol, sort-variable}

-- ---- a variable at a place

module _ (τ : List ℕ) (v e : ℕ) where
  pub note-fresh : get_or τ v unset ≡ unset → note τ v e ≡ some (set τ v e)
  unfolding note
  note-fresh q = rw (eq-eqb (get_or τ v unset) unset q, note)

  pub note-same : (get_or τ v unset ≡ unset → ⊥) → get_or τ v unset ≡ e → note τ v e ≡ some τ
  unfolding note
  note-same d q = rw (ne_eqb (get_or τ v unset) unset d, note) (rw (eq-eqb (get_or τ v unset) e q))

  pub note-clash : (get_or τ v unset ≡ unset → ⊥) → (get_or τ v unset ≡ e → ⊥) → note τ v e ≡ none
  unfolding note
  note-clash d q = rw (ne_eqb (get_or τ v unset) unset d, note) (rw (ne_eqb (get_or τ v unset) e q))

-- ---- one word

module _ (g : Signature) (ks : Sorts) where
  pub check-end : (ws τ : List ℕ) → check g ks ws [] τ ≡ some (record { words = ws; sorts = τ })
  unfolding check
  check-end [] τ = refl
  check-end (w ∷ ws) τ = refl

  pub check-short : (e : ℕ) (es τ : List ℕ) → check g ks [] (e ∷ es) τ ≡ none
  unfolding check
  check-short e es τ = refl

  module _ (w e : ℕ) (ws es τ : List ℕ) where
    pub check-symbol : w < variable → result_sort g ks w ≡ e → check g ks (w ∷ ws) (e ∷ es) τ ≡ check g ks ws (argument_sorts g ks w ++ es) τ
    unfolding check
    check-symbol h q = rw (lt-ltb w variable h, check) (rw (eq-eqb (result_sort g ks w) e q))

    pub check-differ : w < variable → (result_sort g ks w ≡ e → ⊥) → check g ks (w ∷ ws) (e ∷ es) τ ≡ none
    unfolding check
    check-differ h q = rw (lt-ltb w variable h, check) (rw (ne_eqb (result_sort g ks w) e q))

    pub check-variable : variable ≤ w → (τ' : List ℕ) → note τ (w - variable) e ≡ some τ' → check g ks (w ∷ ws) (e ∷ es) τ ≡ check g ks ws es τ'
    unfolding check
    check-variable h τ' q = rw (le-ltb w variable h, check) (rw q)

    pub check-clash : variable ≤ w → note τ (w - variable) e ≡ none → check g ks (w ∷ ws) (e ∷ es) τ ≡ none
    unfolding check
    check-clash h q = rw (le-ltb w variable h, check) (rw q)

  -- THE LAW OF THE RECURSION: the terms of the sorts ds, then those of es
  pub check-append : (ws ds es τ : List ℕ) → check g ks ws (ds ++ es) τ ≡ chain (check g ks ws ds τ) (λ x. check g ks x.words es x.sorts)
  check-append [] [] es τ = sym (ap (λ y. chain y (λ x. check g ks x.words es x.sorts)) (check-end [] τ))
  check-append [] (d ∷ ds) es τ = check-short d (ds ++ es) τ ∙ sym (ap (λ y. chain y (λ x. check g ks x.words es x.sorts)) (check-short d ds τ))
  check-append (w ∷ ws) [] es τ = sym (ap (λ y. chain y (λ x. check g ks x.words es x.sorts)) (check-end (w ∷ ws) τ))
  check-append (w ∷ ws) (d ∷ ds) es τ = elim (dec_lt w variable) [
    | yes h ↦ elim (ℕ_discrete (result_sort g ks w) d) [
      | yes q ↦ check-symbol w d ws (ds ++ es) τ h q
          ∙ ap (λ y. check g ks ws y τ) (sym (append_assoc (argument_sorts g ks w) ds es))
          ∙ check-append ws (argument_sorts g ks w ++ ds) es τ
          ∙ sym (ap (λ y. chain y (λ x. check g ks x.words es x.sorts)) (check-symbol w d ws ds τ h q))
      | no q ↦ check-differ w d ws (ds ++ es) τ h q ∙ sym (ap (λ y. chain y (λ x. check g ks x.words es x.sorts)) (check-differ w d ws ds τ h q))
    ]
    | no h ↦ go (note τ (w - variable) d) refl (omega arith) (λ τ'. check-append ws ds es τ')
  ]
    where
      go : (o : Option (List ℕ)) → note τ (w - variable) d ≡ o → variable ≤ w →
          ((τ' : List ℕ) → check g ks ws (ds ++ es) τ' ≡ chain (check g ks ws ds τ') (λ x. check g ks x.words es x.sorts)) →
          check g ks (w ∷ ws) (d ∷ (ds ++ es)) τ ≡ chain (check g ks (w ∷ ws) (d ∷ ds) τ) (λ x. check g ks x.words es x.sorts)
      go none q h ih = check-clash w d ws (ds ++ es) τ h q ∙ sym (ap (λ y. chain y (λ x. check g ks x.words es x.sorts)) (check-clash w d ws ds τ h q))
      go (some τ') q h ih = check-variable w d ws (ds ++ es) τ h τ' q ∙ ih τ' ∙ sym (ap (λ y. chain y (λ x. check g ks x.words es x.sorts)) (check-variable w d ws ds τ h τ' q))

-- ---- sorts below the mark, variables that have a place in τ

abbrev pub Small : List ℕ → Type 0
Small [] = Unit {0}
Small (e ∷ es) = (e ≤ 63) × Small es

abbrev pub Within : ℕ → List ℕ → Type 0
Within n [] = Unit {0}
Within n (w ∷ ws) = (w < variable + n) × Within n ws

pub small-append : (a b : List ℕ) → Small a → Small b → Small (a ++ b)
small-append [] b h k = k
small-append (e ∷ a) b h k = (h.0, small-append a b h.1 k)

pub within_of : (n : ℕ) (ws : List ℕ) → ((w : ℕ) → Member w ws → w < variable + n) → Within n ws
within_of n [] h = tt
within_of n (w ∷ ws) h = (h w first, within_of n ws (λ x st. h x (later st)))

small-numbers : (ks : Sorts) → ((i : ℕ) → get_or ks i 0 ≤ 63) → (i n : ℕ) → Small (numbers_from ks i n)
unfolding numbers_from
small-numbers ks h i zero = tt
small-numbers ks h i (suc n) = (h i, small-numbers ks h (suc i) n)

-- what is known of a variable stays
pub record Keeps (τ τ' : List ℕ) : Type 0 where
  pub size : length τ' ≡ length τ
  pub same : (v : ℕ) → (get_or τ v unset ≡ unset → ⊥) → get_or τ' v unset ≡ get_or τ v unset

-- τ says nothing but what f says
pub record Agrees (f : ℕ → ℕ) (τ : List ℕ) : Type 0 where
  pub same : (v : ℕ) → (get_or τ v unset ≡ unset → ⊥) → get_or τ v unset ≡ f v

abbrev pub sorts_in : List ℕ → ℕ → ℕ
sorts_in τ v = get_or τ v unset

module _ (g : Signature) (few : length g ≤ variable) (ks : Sorts) (all : (i : ℕ) → get_or ks i 0 ≤ 63) where
  pub small-arguments : (w : ℕ) → Small (argument_sorts g ks w)
  unfolding argument_sorts
  small-arguments w = small-numbers ks all _ (arity g w)

  variable-none : (w : ℕ) → variable ≤ w → argument_sorts g ks w ≡ []
  variable-none w h = arguments-none g ks w (arity-variable g w few h)

  -- ---- sound

  pub record Sound (es ws b τ : List ℕ) (x : Checked) : Type 0 where
    pub words : x.words ≡ b
    pub sorted : Sorted g ks (sorts_in x.sorts) es ws
    pub keeps : Keeps τ x.sorts

  module _ (P : ℕ → Type 0) where
    pub check_sound : {k : ℕ} {ws : List ℕ} → Forest g P k ws → (es b τ : List ℕ) (x : Checked) → length es ≡ k → Small es → Within (length τ) ws →
        check g ks (ws ++ b) es τ ≡ some x → Sound es ws b τ x
    check_sound nil [] b τ x n m v q =
        let y : record { words = b; sorts = τ } ≡ x = cc (check-end g ks b τ) in
        subst (Sound [] [] b τ) y (record { words = refl; sorted = empty; keeps = record { size = refl; same = λ _ _. refl } })
    check_sound nil (e ∷ es) b τ x n m v q = absurd (omega arith)
    check_sound (cons h f) [] b τ x n m v q = absurd (omega arith)
    check_sound (cons {w} {ws} h f) (e ∷ es) b τ x n m v q = elim (dec_lt w variable) [
      | yes l ↦ elim (ℕ_discrete (result_sort g ks w) e) [
        | yes p ↦
            let c = check_sound f (argument_sorts g ks w ++ es) b τ x (rw (length-append (argument_sorts g ks w) es, arguments-length g ks w) (omega arith))
            (small-append (argument_sorts g ks w) es (small-arguments w) m.1) v.1 (sym (check-symbol g ks w e (ws ++ b) es τ l p) ∙ q) in
            record { words = c.words; sorted = more (sort-symbol g ks (sorts_in x.sorts) w l ∙ p) c.sorted; keeps = c.keeps }
        | no p ↦ absurd (let z : ◌≡◌ {A = ℕ} 0 1 = cc (check-differ g ks w e (ws ++ b) es τ l p) in omega arith)
      ]
      | no l ↦ elim (ℕ_discrete (get_or τ (w - variable) unset) unset) [
        | yes p ↦
            let τ' = set τ (w - variable) e in
            let a = variable-none w (omega arith) in
            let here : get_or τ' (w - variable) unset ≡ e = get_or-set_same τ (w - variable) e unset (let z = v.0 in omega arith) in
            let c = check_sound f es b τ' x (let z = arity-variable g w few (omega arith) in omega arith) m.1 (subst (λ y. Within y ws) (sym (length-set τ (w - variable) e)) v.1)
            (sym (check-variable g ks w e (ws ++ b) es τ (omega arith) τ' (note-fresh τ (w - variable) e p)) ∙ q) in
            record {
              words = c.words;
              sorted = more {w = w} {e = e} {es = es} {ws = ws}
                  (sort-variable g ks (sorts_in x.sorts) w (omega arith) ∙ c.keeps.same (w - variable) (λ z. let m' = m.0 in omega arith) ∙ here) (rw a c.sorted);
              keeps = record {
                size = c.keeps.size ∙ length-set τ (w - variable) e;
                same = λ u d.
                    let other = get_or-set_other τ (w - variable) u e unset (λ z. d (ap (λ y. get_or τ y unset) z ∙ p)) in
                    c.keeps.same u (λ z. d (sym other ∙ z)) ∙ other;
              };
            }
        | no p ↦ elim (ℕ_discrete (get_or τ (w - variable) unset) e) [
          | yes p' ↦
              let a = variable-none w (omega arith) in
              let c = check_sound f es b τ x (let z = arity-variable g w few (omega arith) in omega arith) m.1 v.1
              (sym (check-variable g ks w e (ws ++ b) es τ (omega arith) τ (note-same τ (w - variable) e p p')) ∙ q) in
              record {
                words = c.words;
                sorted = more {w = w} {e = e} {es = es} {ws = ws} (sort-variable g ks (sorts_in x.sorts) w (omega arith) ∙ c.keeps.same (w - variable) p ∙ p') (rw a c.sorted);
                keeps = c.keeps;
              }
          | no p' ↦ absurd (let z : ◌≡◌ {A = ℕ} 0 1 = cc (check-clash g ks w e (ws ++ b) es τ (omega arith) (note-clash τ (w - variable) e p p')) in omega arith)
        ]
      ]
    ]

  -- what more is known of the variables does not change a side that is sorted
  pub sorted-keeps : {τ τ' : List ℕ} {es ws : List ℕ} → Keeps τ τ' → Small es → Sorted g ks (sorts_in τ) es ws → Sorted g ks (sorts_in τ') es ws
  sorted-keeps k m empty = empty
  sorted-keeps {τ} {τ'} k m (more {w} {e} {es} q s) =
      let ih = sorted-keeps k (small-append (argument_sorts g ks w) es (small-arguments w) m.1) s in
      elim (dec_lt w variable) [
        | yes l ↦ more (sort-symbol g ks (sorts_in τ') w l ∙ sym (sort-symbol g ks (sorts_in τ) w l) ∙ q) ih
        | no l ↦
            let p : get_or τ (w - variable) unset ≡ e = sym (sort-variable g ks (sorts_in τ) w (omega arith)) ∙ q in
            more (sort-variable g ks (sorts_in τ') w (omega arith) ∙ k.same (w - variable) (λ z. let m' = m.0 in omega arith) ∙ p) ih
      ]

  -- ---- complete

  pub record Passed (f : ℕ → ℕ) (es ws b τ : List ℕ) : Type 0 where
    pub sorts : List ℕ
    pub equal : check g ks (ws ++ b) es τ ≡ some (record { words = b; sorts = sorts })
    pub agrees : Agrees f sorts
    pub size : length sorts ≡ length τ

  pub check-complete : (f : ℕ → ℕ) {es ws : List ℕ} → Sorted g ks f es ws → (b τ : List ℕ) → Small es → Within (length τ) ws → Agrees f τ → Passed f es ws b τ
  check-complete f empty b τ m v a = record { sorts = τ; equal = check-end g ks b τ; agrees = a; size = refl }
  check-complete f (more {w} {e} {es} {ws} q s) b τ m v a = elim (dec_lt w variable) [
    | yes l ↦
        let c = check-complete f s b τ (small-append (argument_sorts g ks w) es (small-arguments w) m.1) v.1 a in
        record { sorts = c.sorts; equal = check-symbol g ks w e (ws ++ b) es τ l (sym (sort-symbol g ks f w l) ∙ q) ∙ c.equal; agrees = c.agrees; size = c.size }
    | no l ↦
        let none-there = variable-none w (omega arith) in
        let p : f (w - variable) ≡ e = sym (sort-variable g ks f w (omega arith)) ∙ q in
        elim (ℕ_discrete (get_or τ (w - variable) unset) unset) [
          | yes y ↦
              let τ' = set τ (w - variable) e in
              let c = check-complete f s b τ' (rw none-there m.1) (subst (λ n. Within n ws) (sym (length-set τ (w - variable) e)) v.1)
              (record {
                same = λ u d. elim (ℕ_discrete u (w - variable)) [
                  | yes z ↦ rw z (get_or-set_same τ (w - variable) e unset (let z' = v.0 in omega arith) ∙ sym p)
                  | no z ↦ let other = get_or-set_other τ (w - variable) u e unset z in other ∙ a.same u (λ z'. d (other ∙ z'))
                ];
              }) in
              record {
                sorts = c.sorts;
                equal = check-variable g ks w e (ws ++ b) es τ (omega arith) τ' (note-fresh τ (w - variable) e y) ∙ ap (λ n. check g ks (ws ++ b) (n ++ es) τ') (sym none-there) ∙ c.equal;
                agrees = c.agrees;
                size = c.size ∙ length-set τ (w - variable) e;
              }
          | no y ↦
              let c = check-complete f s b τ (rw none-there m.1) v.1 a in
              record {
                sorts = c.sorts;
                equal = check-variable g ks w e (ws ++ b) es τ (omega arith) τ (note-same τ (w - variable) e y (a.same (w - variable) y ∙ p))
                    ∙ ap (λ n. check g ks (ws ++ b) (n ++ es) τ) (sym none-there) ∙ c.equal;
                agrees = c.agrees;
                size = c.size;
              }
        ]
  ]
