-- One word of a side: what its check answers in each case, and so what a word is that passes.
use Prim.Native.Nat.{ℕ, zero, suc, ◌+◌, ◌-◌, ◌≤◌, ◌<◌}
use native.Mathlib.Omega.{arith}
use native.Mathlib.Decide.{dec_lt}
use mathlib.Core.Path.{◌≡◌, refl, sym, ◌∙◌}
use mathlib.Core.Logic.{◌⊎◌, inl, inr}
use mathlib.Core.Bool.{Bool, true, false}
use mathlib.Core.Option.{none, some}
use lib.ListN.{length}
use borrow.Author.Tests.{lt-ltb, le-ltb, le-leb, lt-leb, eq-eqb, ne_eqb}
use Rattle.reader.specs.declared.scan.sides.SideRole.{SideRole}
use Rattle.reader.specs.declared.scan.sides.SideRole.TheVariants.{Left, Right}
use Rattle.system.specs.Limits.{variable, variables}
use Rattle.system.specs.Signature.{Signature, Symbol, Listed, is_symbol}
use Rattle.system.specs.declared.numbers.Fault.{Fault}
use Rattle.system.specs.declared.numbers.Fault.TheVariants.{Unknown, Unbalanced, VariableHead, Unbound, BuiltInHead}
use Rattle.reader.specs.Parser.{variable_fault, symbol_fault, side_fault, learn}
use Rattle.system.proofs.BuiltIns.{BuiltInWord}
use Rattle.system.proofs.Signatures.{symbol-cases}

-- ---- a variable

module _ (role : SideRole) (first : Bool) (known k : ℕ) where
  pub variable-head : role ≡ Left → first ≡ true → variable_fault role first known k ≡ some VariableHead
  unfolding variable_fault
  variable-head p q = rw (p, q)

  pub variable-next : role ≡ Left → first ≡ false → k ≤ known → variable_fault role first known k ≡ none
  unfolding variable_fault
  variable-next p q h = rw (p, q, le-leb k known h)

  pub variable-skips : role ≡ Left → first ≡ false → known < k → variable_fault role first known k ≡ some Unbound
  unfolding variable_fault
  variable-skips p q h = rw (p, q, lt-leb k known h)

  pub variable-known : role ≡ Right → k < known → variable_fault role first known k ≡ none
  unfolding variable_fault
  variable-known p h = rw (p, lt-ltb k known h)

  pub variable-unbound : role ≡ Right → known ≤ k → variable_fault role first known k ≡ some Unbound
  unfolding variable_fault
  variable-unbound p h = rw (p, le-ltb k known h)

-- how many variables are known afterwards
module _ (role : SideRole) (known w : ℕ) where
  pub learn-new : role ≡ Left → w ≡ variable + known → learn role known w ≡ suc known
  unfolding learn
  learn-new p e = rw (p, eq-eqb w (variable + known) e)

  pub learn-right : role ≡ Right → learn role known w ≡ known
  unfolding learn
  learn-right p = rw p

-- a symbol teaches nothing, and a variable that was met before neither
pub learn-old : (role : SideRole) (known w : ℕ) → (w ≡ variable + known → ⊥) → learn role known w ≡ known
unfolding learn
learn-old Left known w d = rw (ne_eqb w (variable + known) d)
learn-old Right known w d = refl

-- ---- a symbol

module _ (g : Signature) (role : SideRole) (first : Bool) (w : ℕ) where
  pub symbol-listed : Listed g w → symbol_fault g role first w ≡ none
  unfolding symbol_fault
  symbol-listed h = go role first
    where
      go : (role : SideRole) (first : Bool) → symbol_fault g role first w ≡ none
      go Left true = rw (lt-ltb w (length g) h)
      go Left false = refl
      go Right first = refl

  pub symbol-later : first ≡ false → symbol_fault g role first w ≡ none
  unfolding symbol_fault
  symbol-later e = rw e (go role)
    where
      go : (role : SideRole) → symbol_fault g role false w ≡ none
      go Left = refl
      go Right = refl

  pub symbol-right : role ≡ Right → symbol_fault g role first w ≡ none
  unfolding symbol_fault
  symbol-right e = rw e

  pub symbol-head : role ≡ Left → first ≡ true → length g ≤ w → symbol_fault g role first w ≡ some BuiltInHead
  unfolding symbol_fault
  symbol-head p q h = rw (p, q, le-ltb w (length g) h)

-- ---- a word

module _ (g : Signature) (role : SideRole) (first : Bool) (due known w : ℕ) where
  pub side-complete : due ≡ 0 → side_fault g role first due known w ≡ some Unbalanced
  unfolding side_fault
  side-complete e = rw e

  module _ (open-due : 0 < due) where
    pub side-symbol : Symbol g w → side_fault g role first due known w ≡ symbol_fault g role first w
    unfolding side_fault
    side-symbol e = go due open-due
      where
        go : (d : ℕ) → 0 < d → side_fault g role first d known w ≡ symbol_fault g role first w
        go zero h = absurd (omega arith)
        go (suc d) h = rw (e, side_fault)

    pub side-low : is_symbol g w ≡ false → w < variable → side_fault g role first due known w ≡ some Unknown
    unfolding side_fault
    side-low e l = go due open-due
      where
        go : (d : ℕ) → 0 < d → side_fault g role first d known w ≡ some Unknown
        go zero h = absurd (omega arith)
        go (suc d) h = rw (e, side_fault) (rw (lt-leb variable w l))

    pub side-high : is_symbol g w ≡ false → variable + variables ≤ w → side_fault g role first due known w ≡ some Unknown
    unfolding side_fault
    side-high e l = go due open-due
      where
        go : (d : ℕ) → 0 < d → side_fault g role first d known w ≡ some Unknown
        go zero h = absurd (omega arith)
        go (suc d) h = rw (e, side_fault) (rw (le-leb variable w (omega arith), le-ltb w (variable + variables) l))

    pub side-variable : is_symbol g w ≡ false → variable ≤ w → w < variable + variables → side_fault g role first due known w ≡ variable_fault role first known (w - variable)
    unfolding side_fault
    side-variable e l u = go due open-due
      where
        go : (d : ℕ) → 0 < d → side_fault g role first d known w ≡ variable_fault role first known (w - variable)
        go zero h = absurd (omega arith)
        go (suc d) h = rw (e, side_fault) (rw (le-leb variable w l, lt-ltb w (variable + variables) u))

-- ---- a word that passes

refused : {f : Fault} → some f ≡ none → ⊥
refused n = let z : ◌≡◌ {A = ℕ} 0 1 = cc in omega arith

-- a variable that may stand there
pub record Variable (h : SideRole) (start : Bool) (known w : ℕ) : Type 0 where
  pub low : variable ≤ w
  pub high : w < variable + variables
  pub passes : variable_fault h start known (w - variable) ≡ none

module _ (g : Signature) (h : SideRole) (start : Bool) (due known w : ℕ) where
  pub variable-passes : 0 < due → Variable h start known w → side_fault g h start due known w ≡ none
  variable-passes o v = go (is_symbol g w) refl
    where
      low : BuiltInWord w → ⊥
      low b = let l = v.low in let u = b.high in omega arith

      go : (b : Bool) → is_symbol g w ≡ b → side_fault g h start due known w ≡ none
      go true e = side-symbol g h start due known w o e ∙ symbol-listed g h start w (elim (symbol-cases g w e) [ inl l ↦ l | inr b ↦ absurd (low b) ])
      go false e = side-variable g h start due known w o e v.low v.high ∙ v.passes

  module _ (e : side_fault g h start due known w ≡ none) where
    -- it completes a subterm that was due
    pub passes-due : 0 < due
    passes-due =
        elim (dec_lt 0 due) [
          | yes l ↦ l
          | no l ↦ absurd (refused (sym (side-complete g h start due known w (omega arith)) ∙ e))
        ]

    pub passes-word : Symbol g w ⊎ Variable h start known w
    passes-word = go (is_symbol g w) refl
      where
        go : (b : Bool) → is_symbol g w ≡ b → Symbol g w ⊎ Variable h start known w
        go true s = inl s
        go false s =
            elim (dec_lt w variable) [
              | yes l ↦ absurd (refused (sym (side-low g h start due known w passes-due s l) ∙ e))
              | no l ↦ elim (dec_lt w (variable + variables)) [
                | yes u ↦ inr (record { low = omega arith; high = u; passes = sym (side-variable g h start due known w passes-due s (omega arith) u) ∙ e })
                | no u ↦ absurd (refused (sym (side-high g h start due known w passes-due s (omega arith)) ∙ e))
              ]
            ]

    pub passes-symbol : Symbol g w → symbol_fault g h start w ≡ none
    passes-symbol s = sym (side-symbol g h start due known w passes-due s) ∙ e

-- a left side that starts with a symbol starts with a listed one
pub head-listed : (g : Signature) (w : ℕ) → symbol_fault g Left true w ≡ none → Listed g w
head-listed g w e =
    elim (dec_lt w (length g)) [
      | yes l ↦ l
      | no l ↦ absurd (refused (sym (symbol-head g Left true w refl refl (omega arith)) ∙ e))
    ]

-- what a variable that may stand there is, on each side
pub left-variable : (start : Bool) (known w : ℕ) → Variable Left start known w → (start ≡ false) × (w ≤ variable + known)
left-variable true known w v = absurd (refused (sym (variable-head Left true known (w - variable) refl refl) ∙ v.passes))
left-variable false known w v =
    elim (dec_lt known (w - variable)) [
      | yes h ↦ absurd (refused (sym (variable-skips Left false known (w - variable) refl refl h) ∙ v.passes))
      | no h ↦ (refl, let l = v.low in omega arith)
    ]

pub variable-left : (known k w : ℕ) → k ≤ known → k < variables → w ≡ variable + k → Variable Left false known w
variable-left known k w h l e = record { low = omega arith; high = omega arith; passes = variable-next Left false known (w - variable) refl refl (omega arith) }

pub right-variable : (start : Bool) (known w : ℕ) → Variable Right start known w → w < variable + known
right-variable start known w v =
    elim (dec_lt (w - variable) known) [
      | yes e ↦ (let l = v.low in omega arith)
      | no e ↦ absurd (refused (sym (variable-unbound Right start known (w - variable) refl (omega arith)) ∙ v.passes))
    ]

pub variable-right : (start : Bool) (known w : ℕ) → known ≤ variables → variable ≤ w → w < variable + known → Variable Right start known w
variable-right start known w few l u = record { low = l; high = omega arith; passes = variable-known Right start known (w - variable) refl (omega arith) }
