-- A number of words that is taken, if one is.
use Prim.Native.Nat.{ℕ, zero, suc}
use mathlib.Core.Path.{◌≡◌, refl, ap, ◌∙◌}
use Rattle.std.specs.Prelude.{Some, None}
use Rattle.redexes.specs.search.Redexes.{some_words}

pub some_words-some : {n k : ℕ} → n ≡ k → (n ≡ 0 → ⊥) → Some n ≡ some_words k
some_words-some {n} e d = go n d ∙ ap some_words e
  where
    go : (n : ℕ) → (n ≡ 0 → ⊥) → Some n ≡ some_words n
    go zero d = absurd (d refl)
    go (suc n) d = refl

pub some-from_words : {n k : ℕ} → Some n ≡ some_words k → (n ≡ k) × (n ≡ 0 → ⊥)
some-from_words {n} {k = zero} e = absurd (cc)
some-from_words {n} {k = suc k} e = let z : n ≡ suc k = cc in (z, λ y. absurd (cc))

pub none-from_words : {k : ℕ} → None ≡ some_words k → k ≡ 0
none-from_words {k = zero} e = refl
none-from_words {k = suc k} e = absurd (cc)
