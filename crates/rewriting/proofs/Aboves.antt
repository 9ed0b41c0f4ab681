-- The symbols on the way to the position below some open levels.
use Prim.Native.Nat.{ℕ, zero, suc, ◌<◌}
use native.Mathlib.Omega.{arith}
use mathlib.Core.Path.{◌≡◌, refl, ap}
use mathlib.Core.List.{List, [], ◌∷◌, ◌++◌}
use lib.ListN.{length, get_or, take}
use Rattle.system.specs.System.{System}
use Rattle.rewriting.specs.Machine.{down, position}
use Rattle.rewriting.specs.levels.Lengths.{above}

module _ (s : System) (t : List ℕ) where
  pub above-none : (p : ℕ) → above s t [] p ≡ []
  unfolding above
  above-none p = refl

  pub above_more : (c : ℕ) (cs : List ℕ) (p : ℕ) → above s t (c ∷ cs) p ≡ p ∷ above s t cs (down s t p c)
  unfolding above
  above_more c cs p = refl

  -- one more
  pub above-snoc : (cs : List ℕ) (c p : ℕ) → above s t (cs ++ c ∷ []) p ≡ above s t cs p ++ position s t cs p ∷ []
  unfolding above position
  above-snoc [] c p = refl
  above-snoc (d ∷ cs) c p = ap (λ z. p ∷ z) (above-snoc cs c (down s t p d))

  pub above-length : (cs : List ℕ) (p : ℕ) → length (above s t cs p) ≡ length cs
  unfolding above
  above-length [] p = refl
  above-length (c ∷ cs) p = ap suc (above-length cs (down s t p c))

  -- where a machine keeps them: the positions of its levels
  pub above-position : (cs : List ℕ) (p k : ℕ) → k < length cs → get_or (above s t cs p) k 0 ≡ position s t (take k cs) p
  unfolding above position
  above-position [] p k h = absurd (omega arith)
  above-position (c ∷ cs) p zero h = refl
  above-position (c ∷ cs) p (suc k) h = above-position cs (down s t p c) k (omega arith)
