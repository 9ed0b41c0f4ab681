-- The computed test decides which lists are lists of sorts.
use Prim.Native.Nat.{ℕ, zero, suc, ◌≤◌, ◌<◌}
use native.Mathlib.Omega.{arith}
use mathlib.Core.Path.{◌≡◌, refl}
use mathlib.Core.Bool.{Bool, true, false, ◌&&◌}
use mathlib.Core.List.{[], ◌∷◌}
use lib.ListN.{length, get_or}
use lib.Dec.{leb}
use borrow.Author.Tests.{leb-true, le-leb, eqb-true, eq-eqb}
use Rattle.system.specs.Limits.{max_sort}
use Rattle.system.specs.Signature.{Signature}
use Rattle.system.proofs.BuiltIns.{both}
use Rattle.sorts.specs.Sorts.{Sorts, Lists}
use Rattle.sort_test.specs.SortTest.{all_small, lists}

both_true : (a b : Bool) → a ≡ true → b ≡ true → a && b ≡ true
both_true true b p q = q
both_true false b p q = p

small-sound : (ks : Sorts) → all_small ks ≡ true → (i : ℕ) → i < length ks → get_or ks i 0 ≤ max_sort
unfolding all_small
small-sound [] e i l = absurd (omega arith)
small-sound (k ∷ ks) e zero l = leb-true k max_sort (both (leb k max_sort) (all_small ks) e).0
small-sound (k ∷ ks) e (suc i) l = small-sound ks (both (leb k max_sort) (all_small ks) e).1 i (omega arith)

small-complete : (ks : Sorts) → ((i : ℕ) → i < length ks → get_or ks i 0 ≤ max_sort) → all_small ks ≡ true
unfolding all_small
small-complete [] h = refl
small-complete (k ∷ ks) h = both_true (leb k max_sort) (all_small ks) (le-leb k max_sort (h 0 (omega arith))) (small-complete ks (λ i l. h (suc i) (omega arith)))

pub lists-sound : (ks : Sorts) (g : Signature) → lists ks g ≡ true → Lists ks g
unfolding lists
lists-sound ks g e = let c = both _ (all_small ks) e in record { total = eqb-true _ _ c.0; small = small-sound ks c.1 }

pub lists-complete : (ks : Sorts) (g : Signature) → Lists ks g → lists ks g ≡ true
unfolding lists
lists-complete ks g h = both_true _ (all_small ks) (eq-eqb _ _ h.total) (small-complete ks h.small)
