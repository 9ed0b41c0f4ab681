-- `redexes::same_slots` meets its contract: the slices are the parts.
use Prim.Native.Nat.{ℕ, ◌+◌, ◌-◌}
use native.Mathlib.Omega.{arith}
use mathlib.Core.Path.{◌≡◌, refl, ap, ◌∙◌}
use mathlib.Core.Bool.{◌&&◌}
use mathlib.Core.List.{List, [], ◌∷◌}
use lib.ListN.{take, drop}
use lib.Dec.{eqb}
use Rattle.std.specs.Cmp.Lexicographic.{pointwise}
use Rattle.matching.specs.Matching.{same_words}
use Rattle.redexes.proofs.search.same_slots.Goals as goal

pointwise-same : (xs ys : List ℕ) → pointwise eqb xs ys ≡ same_words xs ys
unfolding same_words
pointwise-same [] [] = refl
pointwise-same [] (y ∷ ys) = refl
pointwise-same (x ∷ xs) [] = refl
pointwise-same (x ∷ xs) (y ∷ ys) = ap (λ b. eqb x y && b) (pointwise-same xs ys)

slice-part : (ws : List ℕ) (a n : ℕ) → take (a + n - a) (drop a ws) ≡ take n (drop a ws)
slice-part ws a n = let z : a + n - a ≡ n = omega arith in ap (λ k. take k (drop a ws)) z

pub returns : goal.returns
returns c =
    let a = c.args in
    c.eq.ensures ∙ pointwise-same _ _ ∙ (λ i. same_words (slice-part a.area.now a.a a.n i) (slice-part a.area.now a.b a.n i))
