-- What a state gives, level by level. Where the machine comes to from a state and the transitions that remain in it are both told from the
-- innermost level outwards, so a change of the innermost levels is seen through the levels around them in one way.
use Prim.Native.Nat.{ℕ, suc, ◌+◌, ◌-◌, ◌<◌}
use native.Mathlib.Omega.{arith}
use mathlib.Core.Path.{◌≡◌, refl, ap, ◌∙◌, subst}
use mathlib.Core.List.{List, [], ◌∷◌, ◌++◌}
use lib.ListN.{length}
use Rattle.system.specs.System.{System}
use Rattle.rewriting.specs.Machine.{down, position}

-- so many levels with those above them
pub onto : List ℕ → ℕ → ℕ
onto [] m = m
onto (c ∷ cs) m = suc (onto cs m)

onto-sum : (cs : List ℕ) (m : ℕ) → onto cs m ≡ length cs + m
unfolding onto
onto-sum [] m = omega arith
onto-sum (c ∷ cs) m = let z = onto-sum cs m in omega arith

module _ {A : Type 0} (s : System) (t : List ℕ) (around : ℕ → ℕ → ℕ → A → A) where
  -- what the levels cs from p on make of what the levels below them give, of which m are left
  unfoldable pub outward : ℕ → List ℕ → ℕ → A → A
  outward m [] p x = x
  outward m (c ∷ cs) p x = around (onto cs m) c p (outward m cs (down s t p c) x)

  module _ (give : ℕ → List ℕ → ℕ → A) (clause : (l c : ℕ) (cs : List ℕ) (p : ℕ) → give (suc l) (c ∷ cs) p ≡ around l c p (give l cs (down s t p c))) where
    below : (cs xs : List ℕ) (m p : ℕ) → give (onto cs m) (cs ++ xs) p ≡ outward m cs p (give m xs (position s t cs p))
    unfolding outward position onto
    below [] xs m p = refl
    below (c ∷ cs) xs m p = clause (onto cs m) c (cs ++ xs) p ∙ ap (around (onto cs m) c p) (below cs xs m (down s t p c))

    -- with l levels, below fewer of them
    pub given_below : (l p : ℕ) (cs : List ℕ) → length cs < l → (xs : List ℕ) →
        let m = suc (l - suc (length cs)) in give l (cs ++ xs) p ≡ outward m cs p (give m xs (position s t cs p))
    given_below l p cs room xs =
        let m = suc (l - suc (length cs)) in
        let split : onto cs m ≡ l = omega (arith, onto-sum cs m) in
        subst (λ y. give y (cs ++ xs) p ≡ outward m cs p (give m xs (position s t cs p))) split (below cs xs m p)
