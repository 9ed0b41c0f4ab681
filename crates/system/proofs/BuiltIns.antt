-- The built-in words: what is cited of the shut definitions of BuiltIns.antt.
use Prim.Native.Nat.{ℕ, zero, suc, ◌+◌, ◌-◌, ◌≤◌, ◌<◌}
use native.Mathlib.Omega.{arith}
use native.Mathlib.Decide.{dec_lt, ℕ_discrete}
use mathlib.Core.Path.{◌≡◌, refl}
use mathlib.Core.Logic.{◌⊎◌, inl, inr}
use mathlib.Core.Bool.{Bool, true, false, ◌&&◌}
use mathlib.Core.List.{List, [], ◌∷◌}
use lib.ListN.{length}
use lib.Dec.{ltb, leb}
use borrow.Author.Tests.{lt-ltb, le-ltb, ltb-true, le-leb, lt-leb, leb-true, eq-eqb, ne_eqb}
use Rattle.system.specs.Limits.{max_entries}
use Rattle.system.specs.BuiltIns.{literal, literals, maximum, minimum, square, last_built_in}
use Rattle.system.specs.BuiltIns.{is_literal, is_built_in, is_binary, is_unary, built_in_arity, built_in_strategy, larger, smaller}
use Rattle.system.specs.Terms.{Member, first, later}

-- both of two tests
pub both : (a b : Bool) → (a && b) ≡ true → (a ≡ true) × (b ≡ true)
both true b e = (refl, e)
both false b e = absurd (let z : ◌≡◌ {A = ℕ} 0 1 = cc in omega arith)

-- a test that does not pass fails, and does not do both
pub refuted : (b : Bool) → (b ≡ true → ⊥) → b ≡ false
refuted true h = absurd (h refl)
refuted false h = refl

pub clash : {b : Bool} → b ≡ true → b ≡ false → ⊥
clash e q = let z : ◌≡◌ {A = ℕ} 0 1 = cc in omega arith

-- ---- which words they are

-- between the first literal and the last operator
pub record BuiltInWord (w : ℕ) : Type 0 where
  pub low : literal ≤ w
  pub high : w ≤ last_built_in

pub builtin-range : (w : ℕ) → is_built_in w ≡ true → BuiltInWord w
unfolding is_built_in
builtin-range w e = let c = both _ _ e in record { low = leb-true literal w c.0; high = leb-true w last_built_in c.1 }

pub range-builtin : (w : ℕ) → literal ≤ w → w ≤ last_built_in → is_built_in w ≡ true
unfolding is_built_in
range-builtin w l h = rw (le-leb literal w l, le-leb w last_built_in h)

pub below-builtin : (w : ℕ) → w < literal → is_built_in w ≡ false
unfolding is_built_in
below-builtin w h = rw (lt-leb literal w h)

pub above-builtin : (w : ℕ) → literal ≤ w → is_built_in w ≡ leb w last_built_in
unfolding is_built_in
above-builtin w h = rw (le-leb literal w h)

-- ---- literals

pub literal-is : (n : ℕ) → n < literals → is_literal (literal + n) ≡ true
unfolding is_literal
literal-is n h = rw (le-leb literal (literal + n) (omega arith), lt-ltb (literal + n) maximum (omega arith))

pub is-literal : (w : ℕ) → is_literal w ≡ true → (literal ≤ w) × (w < maximum)
unfolding is_literal
is-literal w e = let c = both _ _ e in (leb-true literal w c.0, ltb-true w maximum c.1)

pub below-literal : (w : ℕ) → w < literal → is_literal w ≡ false
unfolding is_literal
below-literal w h = rw (lt-leb literal w h)

pub above-literal : (w : ℕ) → literal ≤ w → is_literal w ≡ ltb w maximum
unfolding is_literal
above-literal w h = rw (le-leb literal w h)

-- the word of a literal, by its number
pub number_of_lem : (w : ℕ) → is_literal w ≡ true → (w ≡ literal + (w - literal)) × (w - literal < literals)
number_of_lem w e = let c = is-literal w e in (omega arith, omega arith)

-- ---- how many arguments they take

-- the three cases: an operator on two literals, one on one, and all other words
pub data Operands (w : ℕ) : Type 0 where
  binary : maximum ≤ w → w ≤ minimum → Operands w
  unary : minimum < w → w ≤ last_built_in → Operands w
  nullary : (w < maximum) ⊎ (last_built_in < w) → Operands w

pub operands : (w : ℕ) → Operands w
operands w = elim (dec_lt w maximum) [
  | yes l ↦ nullary (inl l)
  | no a ↦
      elim (dec_lt minimum w) [
        | yes l ↦ elim (dec_lt last_built_in w) [ yes h ↦ nullary (inr h) | no h ↦ unary l (omega arith) ]
        | no b ↦ binary (omega arith) (omega arith)
      ]
]

-- each argument, then the rules; where there is no argument, nothing
abbrev pub eager : ℕ → List ℕ
eager zero = []
eager (suc zero) = 1 ∷ 0 ∷ []
eager (suc (suc n)) = 1 ∷ 2 ∷ 0 ∷ []

module _ (w : ℕ) where
  is-binary : maximum ≤ w → w ≤ minimum → is_binary w ≡ true
  unfolding is_binary
  is-binary l h = elim (ℕ_discrete w maximum) [ yes e ↦ rw (eq-eqb w maximum e) | no a ↦ rw (ne_eqb w maximum a, eq-eqb w minimum (omega arith)) ]

  not-binary : (w < maximum) ⊎ (minimum < w) → is_binary w ≡ false
  unfolding is_binary
  not-binary (inl h) = rw (ne_eqb w maximum (λ e. omega arith), ne_eqb w minimum (λ e. omega arith))
  not-binary (inr h) = rw (ne_eqb w maximum (λ e. omega arith), ne_eqb w minimum (λ e. omega arith))

  is-unary : minimum < w → w ≤ last_built_in → is_unary w ≡ true
  unfolding is_unary
  is-unary l h = rw (eq-eqb w square (omega arith))

  not-unary : (w < maximum) ⊎ (last_built_in < w) → is_unary w ≡ false
  unfolding is_unary
  not-unary (inl h) = rw (ne_eqb w square (λ e. omega arith))
  not-unary (inr h) = rw (ne_eqb w square (λ e. omega arith))

  no-operator : (w < maximum) ⊎ (last_built_in < w) → (is_binary w ≡ false) × (is_unary w ≡ false)
  no-operator (inl h) = (not-binary (inl h), not-unary (inl h))
  no-operator (inr h) = (not-binary (inr (omega arith)), not-unary (inr h))

  pub arity-two : maximum ≤ w → w ≤ minimum → built_in_arity w ≡ 2
  unfolding built_in_arity
  arity-two l h = rw (is-binary l h)

  pub arity-one : minimum < w → w ≤ last_built_in → built_in_arity w ≡ 1
  unfolding built_in_arity
  arity-one l h = rw (not-binary (inr l), is-unary l h)

  pub arity-none : (w < maximum) ⊎ (last_built_in < w) → built_in_arity w ≡ 0
  unfolding built_in_arity
  arity-none h = rw ((no-operator h).0, (no-operator h).1)

  pub strategy-eager : built_in_strategy w ≡ eager (built_in_arity w)
  unfolding built_in_strategy
  strategy-eager = elim (operands w) [
    | binary l h ↦ rw (arity-two l h, is-binary l h)
    | unary l h ↦ rw (arity-one l h, not-binary (inr l), is-unary l h)
    | nullary h ↦ rw (arity-none h, (no-operator h).0, (no-operator h).1)
  ]

  pub builtin-narrow : built_in_arity w ≤ 2
  builtin-narrow = elim (operands w) [
    | binary l h ↦ rw (arity-two l h) (omega arith)
    | unary l h ↦ rw (arity-one l h) (omega arith)
    | nullary h ↦ rw (arity-none h) (omega arith)
  ]

  -- their strategies are short, and name only arguments that there are
  pub builtin-strategy : (length (built_in_strategy w) ≤ max_entries) × ((e : ℕ) → Member e (built_in_strategy w) → e ≤ built_in_arity w)
  builtin-strategy = rw strategy-eager (short (built_in_arity w) builtin-narrow, named (built_in_arity w) builtin-narrow)
    where
      short : (n : ℕ) → n ≤ 2 → length (eager n) ≤ max_entries
      short zero h = omega arith
      short (suc zero) h = omega arith
      short (suc (suc n)) h = omega arith

      named : (n : ℕ) → n ≤ 2 → (e : ℕ) → Member e (eager n) → e ≤ n
      named (suc zero) h e (later (later x10)) = elim x10 [ ]
      named (suc (suc n)) h e (later (later (later x15))) = elim x15 [ ]
      named zero h e m = elim m [ ]
      named (suc zero) h e first = omega arith
      named (suc zero) h e (later first) = omega arith
      named (suc (suc n)) h e first = omega arith
      named (suc (suc n)) h e (later first) = omega arith
      named (suc (suc n)) h e (later (later first)) = omega arith

-- ---- "the larger or smaller level": that of the words, too, and a level again

pub larger-words : (c m n : ℕ) → c ≤ m → c ≤ n → larger m n ≡ c + larger (m - c) (n - c)
unfolding larger
larger-words c m n a b = elim (dec_lt m n) [
  | yes l ↦ rw (lt-ltb m n l, lt-ltb (m - c) (n - c) (omega arith)) (omega arith)
  | no l ↦ rw (le-ltb m n (omega arith), le-ltb (m - c) (n - c) (omega arith)) (omega arith)
]

pub smaller-words : (c m n : ℕ) → c ≤ m → c ≤ n → smaller m n ≡ c + smaller (m - c) (n - c)
unfolding smaller
smaller-words c m n a b = elim (dec_lt m n) [
  | yes l ↦ rw (lt-ltb m n l, lt-ltb (m - c) (n - c) (omega arith)) (omega arith)
  | no l ↦ rw (le-ltb m n (omega arith), le-ltb (m - c) (n - c) (omega arith)) (omega arith)
]

pub larger-second : (m n : ℕ) → m < n → larger m n ≡ n
unfolding larger
larger-second m n h = rw (lt-ltb m n h)

pub larger-first : (m n : ℕ) → n ≤ m → larger m n ≡ m
unfolding larger
larger-first m n h = rw (le-ltb m n h)

pub smaller-first : (m n : ℕ) → m ≤ n → smaller m n ≡ m
unfolding smaller
smaller-first m n h = elim (dec_lt m n) [ yes l ↦ rw (lt-ltb m n l) | no l ↦ rw (le-ltb m n (omega arith)) (omega arith) ]

pub smaller-second : (m n : ℕ) → n < m → smaller m n ≡ n
unfolding smaller
smaller-second m n h = rw (le-ltb m n (omega arith))

pub larger-below : (m n c : ℕ) → m < c → n < c → larger m n < c
larger-below m n c a b = elim (dec_lt m n) [ yes l ↦ rw (larger-second m n l) b | no l ↦ rw (larger-first m n (omega arith)) a ]

pub smaller-below : (m n c : ℕ) → m < c → n < c → smaller m n < c
unfolding smaller
smaller-below m n c a b = elim (dec_lt m n) [ yes l ↦ rw (lt-ltb m n l) a | no l ↦ rw (le-ltb m n (omega arith)) b ]
