-- What an outcome tells of the parser that it comes from, and one turn of a loop over equal parts.
use Prim.Native.Nat.{ℕ, zero, suc, ◌+◌, ◌-◌, ◌≤◌, ◌<◌}
use native.Mathlib.Omega.{arith}
use native.Mathlib.Numerals.{add-one}
use mathlib.Core.Path.{◌≡◌, refl, sym, ap, ◌∙◌}
use mathlib.Core.List.{List, ◌∷◌}
use lib.ListN.{length, get_or, drop, drop_of_length-le}
use lib.Seq.{drop-cons}
use Rattle.std.specs.Prelude.{Result, Ok, Err}
use Rattle.std.specs.Result.{IsErrAnd}
use Rattle.reader.specs.declared.Refusal.{Refusal}
use Rattle.reader.specs.Parser.{Parsed, ok, fault, Parser, and_then, times, each}
use Rattle.reader.specs.scan.Sections.{outcome, section_of}
use Rattle.reader.proofs.Parsed.{fault-then}
use Rattle.reader.proofs.ParsesMany.{none-times, times-step, times-fault, none_each, each_step, each-fault}

-- what was read
pub record Success {A : Type 0} (o : Parsed A) (i : ℕ) : Type 0 where
  pub value : A
  pub equal : o ≡ ok value i

pub success : {A : Type 0} (o : Parsed A) {i : ℕ} → Ok i ≡ section_of o → Success o i
success (ok a j) {i} e = let q : i ≡ j = cc in record { value = a; equal = ap (ok a) (sym q) }
success (fault f j) e = cc

pub refused : {A B : Type 0} (h : A → ℕ → B) (o : Parsed A) {r : Refusal} → Err r ≡ outcome h o → o ≡ fault r.fault r.place
refused h (ok a i) e = cc
refused h (fault f i) {r} e = let q : r ≡ record { fault = f; place = i } = cc in rw q

-- what `?` hands on is the refusal that it met
pub passed : {A : Type 0} (o : Result A Refusal) {r : Refusal} → IsErrAnd o (λ e. e ≡ r) → o ≡ Err r
passed (Ok a) h = absurd h
passed (Err e) h = ap Err h

-- a part that is refused refuses what it is a part of
pub stop : {A B C D : Type 0} (h : A → ℕ → B) (k : C → ℕ → D) (o : Parsed A) {r : Refusal} (on : A → ℕ → Parsed C) → Err r ≡ outcome h o → Err r ≡ outcome k (and_then o on)
stop h k o on e = sym (ap (outcome k) (fault-then (refused h o e) on))

-- what is done to the value does not show in a section
keep : {A B : Type 0} (o : Parsed A) (f : A → B) → section_of (and_then o (λ a i. ok (f a) i)) ≡ section_of o
keep (ok a i) f = refl
keep (fault g i) f = refl

-- ---- one turn of a loop over equal parts

module _ {A : Type 0} (p : Parser A) (n i : ℕ) where
  pub times-end : n ≡ 0 → section_of (times n p i) ≡ Ok i
  times-end e = rw e (ap section_of (none-times p i))

  pub times-next : 0 < n → {j : ℕ} → Ok j ≡ section_of (p i) → section_of (times n p i) ≡ section_of (times (n - 1) p j)
  times-next some {j} is = go n some (success (p i) is)
    where
      go : (n : ℕ) → 0 < n → Success (p i) j → section_of (times n p i) ≡ section_of (times (n - 1) p j)
      go zero h v = absurd (omega arith)
      go (suc n) h v =
          let m : suc n - 1 ≡ n = omega arith in
          rw m (ap section_of (times-step p n v.equal) ∙ keep (times n p j) (λ xs. v.value ∷ xs))

  pub times-stop : 0 < n → {r : Refusal} → p i ≡ fault r.fault r.place → section_of (times n p i) ≡ Err r
  times-stop some {r} bad = go n some
    where
      go : (n : ℕ) → 0 < n → section_of (times n p i) ≡ Err r
      go zero h = absurd (omega arith)
      go (suc n) h = ap section_of (times-fault p n bad)

module _ {B : Type 0} (p : ℕ → Parser B) (xs : List ℕ) (k i : ℕ) where
  pub each-end : length xs ≤ k → section_of (each p (drop k xs) i) ≡ Ok i
  each-end h = rw (drop_of_length-le xs h) (ap section_of (none_each p i))

  module _ (here : k < length xs) where
    pub each_next : {j : ℕ} → Ok j ≡ section_of (p (get_or xs k 0) i) → section_of (each p (drop k xs) i) ≡ section_of (each p (drop (k + 1) xs) j)
    each_next {j} is =
        let v = success (p (get_or xs k 0) i) is in
        let rest = drop (suc k) xs in
        rw (drop-cons xs k 0 here, add-one k) (ap section_of (each_step p (get_or xs k 0) rest v.equal) ∙ keep (each p rest j) (λ ys. v.value ∷ ys))

    pub each-stop : {r : Refusal} → Err r ≡ section_of (p (get_or xs k 0) i) → section_of (each p (drop k xs) i) ≡ Err r
    each-stop bad =
        rw (drop-cons xs k 0 here) (ap section_of (each-fault p (get_or xs k 0) (drop (suc k) xs) (refused _ (p (get_or xs k 0) i) bad)))
