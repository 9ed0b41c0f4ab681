-- Which words are symbols, and how many arguments a word takes: what is cited of the shut definitions of Signature.antt.
use Prim.Native.Nat.{ℕ, zero, suc, ◌≤◌, ◌<◌}
use native.Mathlib.Omega.{arith}
use mathlib.Core.Path.{◌≡◌, refl, ◌∙◌}
use mathlib.Core.Logic.{◌⊎◌, inl, inr}
use mathlib.Core.Bool.{Bool, true, false, ◌||◌}
use mathlib.Core.List.{List, [], ◌∷◌}
use lib.ListN.{length, get_or, get_or-eq_default}
use lib.Dec.{ltb}
use borrow.Author.Tests.{lt-ltb, le-ltb, ltb-true}
use Rattle.system.specs.Limits.{variable}
use Rattle.system.specs.BuiltIns.{literal, is_built_in, built_in_arity}
use Rattle.system.specs.Signature.{Signature, Symbol, Listed, is_symbol, arity}
use Rattle.system.specs.System.{System}
use Rattle.system.specs.Terms.{WellFormed}
use Rattle.system.proofs.BuiltIns.{BuiltInWord, builtin-range, arity-none}

-- within a list, no matter what stands for what is not there
pub get_or-within : {A : Type 0} (xs : List A) (c d : A) (i : ℕ) → i < length xs → get_or xs i c ≡ get_or xs i d
get_or-within [] c d i h = absurd (omega arith)
get_or-within (x ∷ xs) c d zero h = refl
get_or-within (x ∷ xs) c d (suc i) h = get_or-within xs c d i (omega arith)

module _ (g : Signature) (w : ℕ) where
  pub symbol-lt : Listed g w → Symbol g w
  unfolding is_symbol
  symbol-lt h = rw (lt-ltb w (length g) h)

  pub symbol-unlisted : length g ≤ w → is_symbol g w ≡ is_built_in w
  unfolding is_symbol
  symbol-unlisted h = rw (le-ltb w (length g) h)

  pub symbol-builtin : is_built_in w ≡ true → Symbol g w
  unfolding is_symbol
  symbol-builtin h = go (ltb w (length g))
    where
      go : (b : Bool) → (b || is_built_in w) ≡ true
      go true = refl
      go false = h

  -- a symbol is listed or built in
  pub symbol-cases : Symbol g w → Listed g w ⊎ BuiltInWord w
  unfolding is_symbol
  symbol-cases h = go (ltb w (length g)) refl h
    where
      go : (b : Bool) → ltb w (length g) ≡ b → (b || is_built_in w) ≡ true → Listed g w ⊎ BuiltInWord w
      go true e q = inl (ltb-true w (length g) e)
      go false e q = inr (builtin-range w q)

  pub arity-listed : Listed g w → arity g w ≡ get_or g w 0
  unfolding arity
  arity-listed h = get_or-within g (built_in_arity w) 0 w h

  pub arity-unlisted : length g ≤ w → arity g w ≡ built_in_arity w
  unfolding arity
  arity-unlisted h = get_or-eq_default g (built_in_arity w) h

  -- a variable is no symbol
  pub symbol-below : length g ≤ variable → Symbol g w → w < variable
  symbol-below l h = go (symbol-cases h)
    where
      go : Listed g w ⊎ BuiltInWord w → w < variable
      go (inl b) = omega arith
      go (inr b) = let u = b.high in omega arith

  pub arity-variable : length g ≤ variable → variable ≤ w → arity g w ≡ 0
  arity-variable l h = arity-unlisted (omega arith) ∙ arity-none w (inr (omega arith))

-- the listed symbols of a system that 01 describes stop short of the variables, and of the built-in words
pub few-symbols : (s : System) → WellFormed s → length s.arities ≤ variable
few-symbols s wf = omega arith

pub few-listed : (s : System) → WellFormed s → length s.arities ≤ literal
few-listed s wf = omega arith
