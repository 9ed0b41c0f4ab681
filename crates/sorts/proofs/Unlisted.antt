-- Words that are not listed have sort 0 throughout: "levels and the built-in words are kind 0 throughout".
use Prim.Native.Nat.{ℕ, zero, suc, ◌+◌, ◌≤◌}
use native.Mathlib.Omega.{arith}
use native.Mathlib.Decide.{dec_lt}
use mathlib.Core.Path.{◌≡◌, refl, ap}
use mathlib.Core.List.{[], ◌∷◌}
use lib.ListN.{length, get_or, replicate, get_or-eq_default}
use Rattle.system.specs.Limits.{max_sort}
use Rattle.system.specs.Signature.{Signature, arity}
use Rattle.sorts.specs.Sorts.{Sorts, offset, entries, numbers_from, result_sort, argument_sorts, Lists}

pub offset-past : (g : Signature) (w : ℕ) → length g ≤ w → offset g w ≡ entries g
unfolding offset
offset-past [] w h = refl
offset-past (a ∷ g) zero h = absurd (omega arith)
offset-past (a ∷ g) (suc w) h = ap (λ n. suc a + n) (offset-past g w (omega arith))

numbers-past : (ks : Sorts) (i n : ℕ) → length ks ≤ i → numbers_from ks i n ≡ replicate n 0
unfolding numbers_from
numbers-past ks i zero h = refl
numbers-past ks i (suc n) h = rw (get_or-eq_default ks 0 h, numbers-past ks (suc i) n (omega arith))

module _ (g : Signature) (ks : Sorts) (fit : Lists ks g) (w : ℕ) (h : length g ≤ w) where
  pub unlisted-result : result_sort g ks w ≡ 0
  unfolding result_sort
  unlisted-result = get_or-eq_default ks 0 (let z = offset-past g w h in let z' = fit.total in omega arith)

  pub unlisted-arguments : argument_sorts g ks w ≡ replicate (arity g w) 0
  unfolding argument_sorts
  unlisted-arguments = numbers-past ks (suc (offset g w)) (arity g w) (let z = offset-past g w h in let z' = fit.total in omega arith)

-- no number of the list is above 63, and there is 0 past its end
pub lists-small : (g : Signature) (ks : Sorts) → Lists ks g → (i : ℕ) → get_or ks i 0 ≤ max_sort
lists-small g ks fit i = elim (dec_lt i (length ks)) [ yes l ↦ fit.small i l | no l ↦ (let z = get_or-eq_default ks 0 {n = i} (omega arith) in omega arith) ]
