-- Whether a position lies in the subterm at another, by that one's length.
use Prim.Native.Nat.{ℕ, ◌+◌, ◌-◌, ◌≤◌, ◌<◌}
use native.Mathlib.Omega.{arith}
use native.Mathlib.Decide.{dec_lt}
use mathlib.Core.Path.{◌≡◌, refl, sym, ◌∙◌}
use mathlib.Core.Bool.{Bool, true, false, ◌&&◌}
use mathlib.Core.List.{List}
use lib.ListN.{drop}
use lib.Dec.{leb, ltb}
use borrow.Author.Tests.{leb-true, ltb-true, le-leb, lt-leb, lt-ltb, le-ltb}
use Rattle.system.specs.Signature.{Signature, span}
use Rattle.walks.specs.walk.Descent.{within}

module _ (g : Signature) (t : List ℕ) (p q : ℕ) where
  pub within-before : q < p → leb p q ≡ within g t p q
  unfolding within
  within-before h = rw (lt-leb p q h)

  -- from its low end on only the high one counts
  within-high : p ≤ q → within g t p q ≡ ltb q (p + span g (drop p t) 1)
  unfolding within
  within-high h = rw (le-leb p q h)

  pub within-read : p ≤ q → (width : ℕ) → width ≡ span g (drop p t) 1 → ltb (q - p) width ≡ within g t p q
  within-read h width e =
      elim (dec_lt (q - p) width) [
        | yes l ↦ lt-ltb (q - p) width l ∙ sym (within-high h ∙ lt-ltb q _ (omega arith))
        | no l ↦ le-ltb (q - p) width (omega arith) ∙ sym (within-high h ∙ le-ltb q _ (omega arith))
      ]

  -- what the answer tells
  pub within-ends : within g t p q ≡ true → (p ≤ q) × (q < p + span g (drop p t) 1)
  unfolding within
  within-ends h = go (leb p q) (ltb q (p + span g (drop p t) 1)) (leb-true p q) (ltb-true q _) h
    where
      go : (b c : Bool) → (b ≡ true → p ≤ q) → (c ≡ true → q < p + span g (drop p t) 1) → b && c ≡ true → (p ≤ q) × (q < p + span g (drop p t) 1)
      go true c f k e = (f refl, k e)
      go false c f k e = absurd (let z : ◌≡◌ {A = ℕ} 0 1 = cc in omega arith)
