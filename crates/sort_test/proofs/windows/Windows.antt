-- A term is well-sorted exactly if every pass over it finds it so.
use Prim.Native.Nat.{ℕ, ◌+◌, ◌*◌, ◌/◌, ◌≤◌, ◌<◌}
use native.Mathlib.Omega.{arith}
use native.Mathlib.Decide.{ℕ_discrete}
use mathlib.Core.Path.{◌≡◌, refl, sym, ap, ◌∙◌}
use mathlib.Core.Bool.{Bool, true, false, not, ◌&&◌, ◌||◌, or-true}
use mathlib.Core.List.{List, [], ◌∷◌, ◌++◌}
use lib.ListN.{length, length-append}
use lib.Dec.{leb, eqb}
use borrow.Author.Tests.{lt-ltb, le-ltb, le-leb, lt-leb, eq-eqb, eqb-true}
use Rattle.system.specs.Limits.{variable}
use Rattle.system.specs.Signature.{Signature, Symbol, arity}
use Rattle.system.specs.Terms.{Forest}
use Rattle.system.specs.Terms.Forest.{empty as nil, more as cons}
use Rattle.system.proofs.BuiltIns.{both, clash}
use Rattle.system.proofs.Signatures.{symbol-below}
use Rattle.system.proofs.Forests.{forest-length}
use Rattle.sorts.specs.Sorts.{Sorts, result_sort, argument_sorts}
use Rattle.sorts.specs.SortCheck.{check, is_some}
use Rattle.sort_test.specs.windows.Windows.{window_words, within, windowed}
use Rattle.sorts.proofs.Sortings.{arguments-length}
use Rattle.sorts.proofs.Checking.{check-end, check-symbol, check-differ}

-- ---- heights in a window

module _ (low h : ℕ) where
  pub within_in : low ≤ h → h < low + window_words → within low h ≡ true
  unfolding within
  within_in l m = rw (le-leb low h l, lt-ltb h (low + window_words) m)

  pub within_low : h < low → within low h ≡ false
  unfolding within
  within_low l = rw (lt-leb low h l)

  pub within-high : low + window_words ≤ h → within low h ≡ false
  unfolding within
  within-high l = rw (le-ltb h (low + window_words) l) (go (leb low h))
    where
      go : (b : Bool) → (b && false) ≡ false
      go true = refl
      go false = refl

module _ (g : Signature) (few : length g ≤ variable) (ks : Sorts) where
  arguments-count : (w : ℕ) (es : List ℕ) → length (argument_sorts g ks w ++ es) ≡ length es + arity g w
  arguments-count w es = let z = length-append (argument_sorts g ks w) es in let z' = arguments-length g ks w in omega arith

  -- a term that is well-sorted passes at all heights
  pub check-windowed : (low : ℕ) {k : ℕ} {ws : List ℕ} → Forest g (Symbol g) k ws → (es τ : List ℕ) → length es ≡ k → is_some (check g ks ws es τ) ≡ true →
      windowed g ks low ws es ≡ true
  unfolding windowed
  check-windowed low nil es τ n q = refl
  check-windowed low (cons h f) [] τ n q = refl
  check-windowed low (cons {w} {ws} h f) (e ∷ es) τ n q = elim (ℕ_discrete (result_sort g ks w) e) [
    | yes z ↦
        let r = check-windowed low f (argument_sorts g ks w ++ es) τ (let y = arguments-count w es in omega arith)
        (ap is_some (sym (check-symbol g ks w e ws es τ (symbol-below g w few h) z)) ∙ q) in
        rw (eq-eqb (result_sort g ks w) e z, or-true (not (within low (length es))), r)
    | no z ↦ absurd (clash q (ap is_some (check-differ g ks w e ws es τ (symbol-below g w few h) z)))
  ]

  -- and the other way round
  pub windowed-check : (most : ℕ) {k : ℕ} {ws : List ℕ} → Forest g (Symbol g) k ws → (es τ : List ℕ) → length es ≡ k → length ws ≤ most →
      ((m : ℕ) → m * window_words < most → windowed g ks (m * window_words) ws es ≡ true) → is_some (check g ks ws es τ) ≡ true
  unfolding windowed
  windowed-check most nil [] τ n l h = ap is_some (check-end g ks [] τ)
  windowed-check most nil (e ∷ es) τ n l h = absurd (omega arith)
  windowed-check most (cons d f) [] τ n l h = absurd (omega arith)
  windowed-check most (cons {w} {k} {ws} d f) (e ∷ es) τ n l h =
      let x = length es in
      let m = x / 256 in
      let few_words = forest-length f in
      let low : m * window_words ≤ x = omega arith in
      let high : x < m * window_words + window_words = omega arith in
      let here = (both (not (within (m * window_words) x) || eqb (result_sort g ks w) e) (windowed g ks (m * window_words) ws (argument_sorts g ks w ++ es)) (h m (omega arith))).0 in
      let z : result_sort g ks w ≡ e = eqb-true (result_sort g ks w) e (rw (within_in (m * window_words) x low high) at here) in
      ap is_some (check-symbol g ks w e ws es τ (symbol-below g w few d) z)
      ∙ windowed-check most f (argument_sorts g ks w ++ es) τ (let y = arguments-count w es in omega arith) (omega arith)
      (λ i b. (both (not (within (i * window_words) x) || eqb (result_sort g ks w) e) (windowed g ks (i * window_words) ws (argument_sorts g ks w ++ es)) (h i b)).1)
