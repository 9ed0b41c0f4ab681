-- The list of sorts by index, and a variable that is noted or compared.
use Prim.Native.Nat.{ℕ, zero, suc, ◌+◌, ◌≤◌, ◌<◌, min}
use native.Mathlib.Nat.{not-suc-le-zero}
use native.Mathlib.Omega.{arith}
use native.Mathlib.Decide.{ℕ_discrete, dec_lt}
use mathlib.Core.Path.{◌≡◌, refl, sym, ap, ◌∙◌}
use mathlib.Core.Bool.{Bool, true, false}
use mathlib.Core.Option.{Option, none, some}
use mathlib.Core.List.{List, [], ◌∷◌}
use lib.ListN.{length, get_or, set, get_or-eq_default}
use lib.Seq.{get_or-set_same, set_out}
use lib.Dec.{eqb}
use borrow.Author.Tests.{eq-eqb, ne_eqb}
use Rattle.system.specs.Signature.{Signature, arity}
use Rattle.system.proofs.Signatures.{get_or-within, arity-listed}
use Rattle.sorts.specs.Sorts.{Sorts, offset, numbers_from}
use Rattle.sorts.specs.SortCheck.{unset, note}
use Rattle.sorts.specs.sides.Ran.{Noted}
use Rattle.sorts.proofs.Unlisted.{offset-past}
use Rattle.sorts.proofs.Checking.{note-fresh, note-same, note-clash}

-- ---- the list by index

pub offset-zero : (g : Signature) → ◌≡◌ {A = ℕ} 0 (offset g 0)
unfolding offset
offset-zero [] = refl
offset-zero (a ∷ g) = refl

-- where the next symbol's numbers start
offset-after : (g : Signature) (w : ℕ) → w < length g → offset g (suc w) ≡ offset g w + 1 + get_or g w 0
unfolding offset
offset-after [] w h = absurd (not-suc-le-zero h)
offset-after (a ∷ g) zero h = first g a
  where
    first : (g : Signature) (a : ℕ) → suc a + offset g 0 ≡ 0 + 1 + a
    first [] a = omega arith
    first (b ∷ g) a = omega arith
offset-after (a ∷ g) (suc w) h = let z = offset-after g w (omega arith) in omega arith

pub offset-next : (g : Signature) (w : ℕ) → w < length g → offset g (suc w) ≡ offset g w + 1 + arity g w
offset-next g w h = let z = offset-after g w h in let z' = arity-listed g w h in omega arith

-- that of a word that is not listed is the list's end
pub offset-listed : (g : Signature) (w : ℕ) → offset g (min w (length g)) ≡ offset g w
offset-listed g w = elim (dec_lt w (length g)) [
  | yes l ↦ ap (offset g) (let z : min w (length g) ≡ w = omega arith in z)
  | no l ↦ ap (offset g) (let z : min w (length g) ≡ length g = omega arith in z) ∙ sym (offset-past g w (omega arith))
]

-- ---- a variable at a place

module _ (τ : List ℕ) (v e : ℕ) where
  pub noted-fresh : v < length τ → get_or τ v 0 ≡ 64 → Noted (note τ v e) (eqb (get_or (set τ v e) v 0) e) (set τ v e)
  noted-fresh h q = rw (note-fresh τ v e (get_or-within τ unset 0 v h ∙ q)) (eq-eqb (get_or (set τ v e) v 0) e (get_or-set_same τ v e 0 h), refl)

  pub noted-before : v < length τ → (get_or τ v 0 ≡ 64 → ⊥) → Noted (note τ v e) (eqb (get_or τ v 0) e) τ
  noted-before h d =
      let k = get_or-within τ unset 0 v h in
      elim (ℕ_discrete (get_or τ v 0) e) [
        | yes q ↦ rw (note-same τ v e (λ z. d (sym k ∙ z)) (k ∙ q), eq-eqb (get_or τ v 0) e q) (refl, refl)
        | no q ↦ rw (note-clash τ v e (λ z. d (sym k ∙ z)) (λ z. q (sym k ∙ z)), ne_eqb (get_or τ v 0) e q) refl
      ]

  pub noted-past : length τ ≤ v → Noted (note τ v e) true τ
  noted-past h = rw (note-fresh τ v e (get_or-eq_default τ unset h), set_out τ v e h) (refl, refl)

pub noted-some : (o : Option (List ℕ)) (b : Bool) (τ : List ℕ) → Noted o b τ → b ≡ true → o ≡ some τ
noted-some none b τ h e = absurd (let z : ◌≡◌ {A = ℕ} 0 1 = cc in omega arith)
noted-some (some x) b τ h e = ap some h.1

pub noted-none : (o : Option (List ℕ)) (b : Bool) (τ : List ℕ) → Noted o b τ → b ≡ false → o ≡ none
noted-none none b τ h e = refl
noted-none (some x) b τ h e = absurd (let q = h.0 in let z : ◌≡◌ {A = ℕ} 0 1 = cc in omega arith)

-- the i-th of n numbers of the list
pub numbers-at : (ks : Sorts) (k n i : ℕ) → i < n → get_or (numbers_from ks k n) i 0 ≡ get_or ks (k + i) 0
unfolding numbers_from
numbers-at ks k zero i h = absurd (not-suc-le-zero h)
numbers-at ks k (suc n) zero h = ap (λ j. get_or ks j 0) (let z : k ≡ k + 0 = omega arith in z)
numbers-at ks k (suc n) (suc i) h = numbers-at ks (suc k) n i (omega arith) ∙ ap (λ j. get_or ks j 0) (let z : suc k + i ≡ k + suc i = omega arith in z)
