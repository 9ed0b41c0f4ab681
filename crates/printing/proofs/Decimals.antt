-- The decimal digits of a number: without the places, as `{}` of std writes them, and how many they are.
use Prim.Native.Nat.{ℕ, zero, suc, ◌/◌, ◌%◌, ◌^◌, ◌≤◌, ◌<◌}
use native.Mathlib.Omega.{arith}
use native.Mathlib.Nat.{pow-suc, mod-eq_of_lt, div-eq_of_lt}
use native.Mathlib.Decide.{dec_lt}
use mathlib.Core.Path.{◌≡◌, refl, sym, ◌∙◌}
use mathlib.Core.Bool.{cond}
use mathlib.Core.List.{[], ◌∷◌, ◌++◌}
use lib.ListN.{length, length-append}
use lib.Dec.{ltb}
use borrow.Author.Tests.{lt-ltb, le-ltb}
use Rattle.std.specs.Fmt.{decimal as written}
use Rattle.std.proofs.lemmas.Fmt.{decimal_from_appends, length-decimal-le_succ}
use Rattle.printing.specs.Text.{digit, decimal_in, decimal}

-- a number below ten has one digit, any other those of its tenth and the last one
module _ (k n : ℕ) where
  in_one : n < 10 → decimal_in (suc k) n ≡ digit n ∷ []
  unfolding decimal_in
  in_one h = rw (div-eq_of_lt h, mod-eq_of_lt h)

  in-more : 10 ≤ n → decimal_in (suc k) n ≡ decimal_in k (n / 10) ++ (digit (n % 10) ∷ [])
  unfolding decimal_in
  in-more h = go (n / 10) refl
    where
      go : (q : ℕ) → n / 10 ≡ q → decimal_in (suc k) n ≡ decimal_in k (n / 10) ++ (digit (n % 10) ∷ [])
      go zero e = absurd (omega arith)
      go (suc m) e = rw e

-- more places than the number is large change nothing
in-enough : (k m n : ℕ) → n < k → n < m → decimal_in k n ≡ decimal_in m n
in-enough zero m n h g = absurd (omega arith)
in-enough (suc k) zero n h g = absurd (omega arith)
in-enough (suc k) (suc m) n h g =
    elim (dec_lt n 10) [
      | yes z ↦ in_one k n z ∙ sym (in_one m n z)
      | no z ↦
          let z' : 10 ≤ n = omega arith in
          in-more k n z' ∙ rw (in-enough k m (n / 10) (omega arith) (omega arith)) (sym (in-more m n z'))
    ]

-- the definition, without the places
pub decimal-law : (n : ℕ) → decimal n ≡ cond (ltb n 10) (digit n ∷ []) (decimal (n / 10) ++ (digit (n % 10) ∷ []))
unfolding decimal
decimal-law n =
    elim (dec_lt n 10) [
      | yes z ↦ rw (lt-ltb n 10 z) (in_one n n z)
      | no z ↦
          let z' : 10 ≤ n = omega arith in
          rw (le-ltb n 10 z') (in-more n n z' ∙ rw (in-enough n (suc (n / 10)) (n / 10) (omega arith) (omega arith)))
    ]

-- the digits that `{}` of std writes
pub decimal_written : (n : ℕ) → n < 2 ^ 64 → decimal n ≡ written n
unfolding decimal
decimal_written n h = decimal_from_appends decimal_in (record { one = in_one; more = in-more }) (suc n) n h (omega (arith, length-decimal-le_succ n h))

-- no more digits than the places that hold the number
in-length : (k j n : ℕ) → n < 10 ^ suc j → length (decimal_in k n) ≤ suc j
unfolding decimal_in
in-length zero j n h = omega arith
in-length (suc k) zero n h = rw (in_one k n h) (omega arith)
in-length (suc k) (suc j) n h =
    elim (dec_lt n 10) [
      | yes z ↦ rw (in_one k n z) (omega arith)
      | no z ↦
          let p = pow-suc 10 (suc j) in
          let l = in-length k j (n / 10) (omega arith) in
          rw (in-more k n (omega arith), length-append) (omega arith)
    ]

pub decimal-length : (j n : ℕ) → n < 10 ^ suc j → length (decimal n) ≤ suc j
unfolding decimal
decimal-length j n = in-length (suc n) j n

pub decimal_five : (n : ℕ) → n < 2 ^ 16 → length (decimal n) ≤ 5
decimal_five n h = decimal-length 4 n (omega arith)

pub decimal_ten : (n : ℕ) → n < 2 ^ 32 → length (decimal n) ≤ 10
decimal_ten n h = decimal-length 9 n (omega arith)

pub decimal_twenty : (n : ℕ) → n < 2 ^ 64 → length (decimal n) ≤ 20
decimal_twenty n h = decimal-length 19 n (omega arith)
