-- The numbers of faults are 1 to 8 and 15: 0 is no fault's, and no two faults have one.
use Prim.Native.Nat.{ℕ, ◌≤◌, ◌<◌}
use native.Mathlib.Omega.{arith}
use mathlib.Core.Path.{◌≡◌, refl}
use mathlib.Core.Logic.{◌⊎◌, inl, inr}
use mathlib.Core.List.{List, [], ◌∷◌}
use lib.ListN.{get_or}
use Rattle.system.specs.Numbers.{fault_number}
use Rattle.system.specs.declared.numbers.Fault.{Fault}
use Rattle.system.specs.declared.numbers.Fault.TheVariants.{Missing, Range, Entry, Unknown, Unbalanced, VariableHead, Unbound, Trailing, BuiltInHead}

pub fault-range : (f : Fault) → ((1 ≤ fault_number f) × (fault_number f ≤ 8)) ⊎ (fault_number f ≡ 15)
fault-range Missing = inl (omega arith, omega arith)
fault-range Range = inl (omega arith, omega arith)
fault-range Entry = inl (omega arith, omega arith)
fault-range Unknown = inl (omega arith, omega arith)
fault-range Unbalanced = inl (omega arith, omega arith)
fault-range VariableHead = inl (omega arith, omega arith)
fault-range Unbound = inl (omega arith, omega arith)
fault-range Trailing = inl (omega arith, omega arith)
fault-range BuiltInHead = inr refl

pub number-positive : (f : Fault) → 0 < fault_number f
number-positive f = elim (fault-range f) [ inl r ↦ r.0 | inr e ↦ (omega arith) ]

pub fault-not-zero : (f : Fault) → fault_number f ≡ 0 → ⊥
fault-not-zero f e = let p = number-positive f in omega arith

-- the fault that a number from 1 to 8 tells; number 15's for every other number
abbrev pub faults : List Fault
faults = BuiltInHead ∷ Missing ∷ Range ∷ Entry ∷ Unknown ∷ Unbalanced ∷ VariableHead ∷ Unbound ∷ Trailing ∷ []

unfoldable pub fault_of : ℕ → Fault
fault_of n = get_or faults n BuiltInHead

pub fault-of : (f : Fault) → fault_of (fault_number f) ≡ f
unfolding fault_of
fault-of Missing = refl
fault-of Range = refl
fault-of Entry = refl
fault-of Unknown = refl
fault-of Unbalanced = refl
fault-of VariableHead = refl
fault-of Unbound = refl
fault-of Trailing = refl
fault-of BuiltInHead = refl
