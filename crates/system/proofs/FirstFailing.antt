-- The lowest of a stretch of numbers that fails a test: which number that is.
use Prim.Native.Nat.{ℕ, zero, suc, ◌+◌, ◌≤◌, ◌<◌}
use native.Mathlib.Omega.{arith}
use native.Mathlib.Decide.{ℕ_discrete}
use mathlib.Core.Path.{◌≡◌, refl, ap}
use mathlib.Core.Bool.{Bool, true, false}
use mathlib.Core.Option.{Option, none, some}
use Rattle.system.specs.FirstFailing.{first_failing}
use Rattle.system.proofs.BuiltIns.{clash}

module _ (test : ℕ → Bool) where
  first-nil : (k : ℕ) → first_failing test k 0 ≡ none
  unfolding first_failing
  first-nil k = refl

  first_passes : (k n : ℕ) → test k ≡ true → first_failing test k (suc n) ≡ first_failing test (suc k) n
  unfolding first_failing
  first_passes k n e = rw e

  first-fails : (k n : ℕ) → test k ≡ false → first_failing test k (suc n) ≡ some k
  unfolding first_failing
  first-fails k n e = rw e

  -- ---- which number it is

  -- of the n numbers from k on, f fails and the lower ones pass
  pub record Lowest (k n f : ℕ) : Type 0 where
    pub least : k ≤ f
    pub inside : f < k + n
    pub fails : test f ≡ false
    pub lower : (j : ℕ) → k ≤ j → j < f → test j ≡ true

  -- what is found: nothing where all pass, else the lowest that fails
  data Finds (k n : ℕ) : Option ℕ → Type 0 where
    nothing : ((j : ℕ) → k ≤ j → j < k + n → test j ≡ true) → Finds k n none
    lowest : (f : ℕ) → Lowest k n f → Finds k n (some f)

  finds-here : (k n : ℕ) → test k ≡ false → Finds k (suc n) (some k)
  finds-here k n e = lowest k (record { least = omega arith; inside = omega arith; fails = e; lower = λ j l m. absurd (omega arith) })

  finds-later : (k n : ℕ) {o : Option ℕ} → test k ≡ true → Finds (suc k) n o → Finds k (suc n) o
  finds-later k n e (nothing h) = nothing (λ j l m. elim (ℕ_discrete j k) [ yes z ↦ rw z e | no d ↦ h j (omega arith) (omega arith) ])
  finds-later k n e (lowest f h) =
      let l = h.least in
      let m = h.inside in
      lowest f (record {
        least = omega arith;
        inside = omega arith;
        fails = h.fails;
        lower = λ j a b. elim (ℕ_discrete j k) [ yes z ↦ rw z e | no d ↦ h.lower j (omega arith) b ];
      })

  finds : (k n : ℕ) → Finds k n (first_failing test k n)
  finds k zero = rw (first-nil k) (nothing (λ j l h. absurd (omega arith)))
  finds k (suc n) = go (test k) refl (finds (suc k) n)
    where
      go : (b : Bool) → test k ≡ b → Finds (suc k) n (first_failing test (suc k) n) → Finds k (suc n) (first_failing test k (suc n))
      go true e h = rw (first_passes k n e) (finds-later k n e h)
      go false e h = rw (first-fails k n e) (finds-here k n e)

  module _ (k n : ℕ) where
    -- none is found exactly if all pass
    pub none-all : first_failing test k n ≡ none → (j : ℕ) → k ≤ j → j < k + n → test j ≡ true
    none-all e = go (rw e at (finds k n))
      where
        go : Finds k n none → (j : ℕ) → k ≤ j → j < k + n → test j ≡ true
        go (nothing h) = h

    pub all_none : ((j : ℕ) → k ≤ j → j < k + n → test j ≡ true) → first_failing test k n ≡ none
    all_none h = go (finds k n)
      where
        go : {o : Option ℕ} → Finds k n o → o ≡ none
        go (nothing z) = refl
        go (lowest f z) = absurd (clash (h f z.least z.inside) z.fails)

    -- f is found exactly if it is the lowest that fails
    pub some-lowest : {f : ℕ} → first_failing test k n ≡ some f → Lowest k n f
    some-lowest {f} e = go (rw e at (finds k n))
      where
        go : Finds k n (some f) → Lowest k n f
        go (lowest f h) = h

    pub lowest-some : {f : ℕ} → Lowest k n f → first_failing test k n ≡ some f
    lowest-some {f} h = go (finds k n)
      where
        go : {o : Option ℕ} → Finds k n o → o ≡ some f
        go (nothing z) = absurd (clash (z f h.least h.inside) h.fails)
        go (lowest g z) = elim (ℕ_discrete g f) [
          | yes e ↦ ap some e
          | no d ↦ absurd (apart (λ l. clash (h.lower g z.least l) z.fails) (λ l. clash (z.lower f h.least l) h.fails) d)
        ]
          where
            apart : (g < f → ⊥) → (f < g → ⊥) → (g ≡ f → ⊥) → ⊥
            apart a b d = omega arith
