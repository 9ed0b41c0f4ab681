-- Standing in a list: by index, at either end, and among the variables of a side that are numbered in order.
use Prim.Native.Nat.{ℕ, zero, suc, ◌+◌, ◌≤◌, ◌<◌}
use native.Mathlib.Nat.{le_of_suc-le-suc, not-suc-le-zero}
use native.Mathlib.Omega.{arith}
use mathlib.Core.Path.{◌≡◌, refl}
use mathlib.Core.Logic.{◌⊎◌, inl, inr}
use mathlib.Core.List.{List, [], ◌∷◌, ◌++◌}
use lib.ListN.{length, get_or}
use Rattle.system.specs.Limits.{variable}
use Rattle.system.specs.Terms.{Member, first, later, Numbered, end, symbol, next, again}

pub member-nil {ℓ} : {X : Type ℓ} {e : ℕ} → Member e [] → X
member-nil h = elim h [ ]

-- standing in a list, by index
pub member-get_or : (es : List ℕ) (c : ℕ) → c < length es → Member (get_or es c 0) es
member-get_or [] c h = absurd (not-suc-le-zero h)
member-get_or (e ∷ es) zero h = first
member-get_or (e ∷ es) (suc c) h = later (member-get_or es c (le_of_suc-le-suc h))

pub member-index : (P : ℕ → Type 0) (es : List ℕ) → ((j : ℕ) → j < length es → P (get_or es j 0)) → (e : ℕ) → Member e es → P e
member-index P [] h d x'' = elim x'' [ ]
member-index P (e ∷ es) h d first = h 0 (omega arith)
member-index P (e ∷ es) h d (later st) = member-index P es (λ j l. h (suc j) (omega arith)) d st

-- ---- in two lists, one after the other

pub member-front : {e : ℕ} {a : List ℕ} (b : List ℕ) → Member e a → Member e (a ++ b)
member-front b first = first
member-front b (later h) = later (member-front b h)

pub member_back : {e : ℕ} (a : List ℕ) {b : List ℕ} → Member e b → Member e (a ++ b)
member_back [] h = h
member_back (d ∷ a) h = later (member_back a h)

pub member-snoc : (e d : ℕ) (ds : List ℕ) → Member e (ds ++ d ∷ []) → (e ≡ d) ⊎ Member e ds
member-snoc e d [] first = inl refl
member-snoc e d [] (later h) = member-nil h
member-snoc e d (x ∷ ds) first = inr first
member-snoc e d (x ∷ ds) (later h) = elim (member-snoc e d ds h) [ inl q ↦ inl q | inr k ↦ inr (later k) ]

-- ---- numbered variables

pub numbered-le : {n m : ℕ} {ls : List ℕ} → Numbered n m ls → n ≤ m
numbered-le end = omega arith
numbered-le (symbol l nb) = numbered-le nb
numbered-le (next e nb) = let h = numbered-le nb in omega arith
numbered-le (again e l nb) = numbered-le nb

pub numbered_below : {n m w : ℕ} {ls : List ℕ} → Numbered n m ls → Member w ls → w < variable + m
numbered_below {w = w} (end {n = n}) x5 = elim x5 [ ]
numbered_below (symbol l nb) first = omega arith
numbered_below (symbol l nb) (later st) = numbered_below nb st
numbered_below (next e nb) first = let h = numbered-le nb in omega arith
numbered_below (next e nb) (later st) = numbered_below nb st
numbered_below (again e l nb) first = let h = numbered-le nb in omega arith
numbered_below (again e l nb) (later st) = numbered_below nb st
