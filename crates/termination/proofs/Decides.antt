-- Whether a rule falls, by computing: the test of its variables, one after the other, and of its weights.
use Prim.Native.Nat.{ℕ, zero, suc, ◌+◌, ◌≤◌, ◌<◌}
use native.Mathlib.Omega.{arith}
use native.Mathlib.Decide.{ℕ_discrete}
use mathlib.Core.Path.{◌≡◌, refl}
use mathlib.Core.Bool.{Bool, true}
use borrow.Author.Tests.{ltb-true, lt-ltb, leb-true, le-leb}
use Rattle.system.specs.Limits.{variable, variables}
use Rattle.system.specs.System.{Rule}
use Rattle.system.proofs.BuiltIns.{both}
use Rattle.termination.specs.Weights.{Weights, Falls}
use Rattle.system.specs.Terms.{occurs}
use Rattle.termination.specs.WeightTest.{keeps_at, below, falls}

-- ---- a test of the numbers below n

module _ (test : ℕ → Bool) where
  -- it passes exactly if all do
  pub below_all : (n : ℕ) → below test n ≡ true → (v : ℕ) → v < n → test v ≡ true
  unfolding below
  below_all zero e v l = absurd (omega arith)
  below_all (suc n) e v l =
      let c = both (below test n) (test n) e in
      elim (ℕ_discrete v n) [ yes q ↦ rw q c.1 | no q ↦ below_all n c.0 v (omega arith) ]

  pub all-below : (n : ℕ) → ((v : ℕ) → v < n → test v ≡ true) → below test n ≡ true
  unfolding below
  all-below zero h = refl
  all-below (suc n) h = rw (all-below n (λ v l. h v (omega arith)), h n (omega arith))

-- tests that agree there
pub below-same : (f g : ℕ → Bool) (n : ℕ) → ((v : ℕ) → v < n → f v ≡ g v) → below f n ≡ below g n
unfolding below
below-same f g zero h = refl
below-same f g (suc n) h = rw (below-same f g n (λ v l. h v (omega arith)), h n (omega arith))

-- ---- whether a rule falls

module _ (r : Rule) (v : ℕ) where
  keeps-variable : occurs (variable + v) r.rhs ≤ occurs (variable + v) r.lhs → keeps_at r v ≡ true
  unfolding keeps_at
  keeps-variable h = le-leb (occurs (variable + v) r.rhs) (occurs (variable + v) r.lhs) h

module _ (m : Weights) (r : Rule) where
  pub falls-sound : falls m r ≡ true → Falls m r
  unfolding falls keeps_at
  falls-sound e =
      let c = both _ (below (keeps_at r) variables) e in
      record { lighter = ltb-true _ _ c.0; kept = λ v l. leb-true _ _ (below_all (keeps_at r) variables c.1 v l) }

  pub falls-complete : Falls m r → falls m r ≡ true
  unfolding falls
  falls-complete f = rw (lt-ltb _ _ f.lighter, all-below (keeps_at r) variables (λ v l. keeps-variable r v (f.kept v l)))
