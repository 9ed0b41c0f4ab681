-- Sorts in a window, in the code's terms: those of a word's arguments that are put there, and one word.
use Prim.Native.Nat.{ℕ, ◌+◌, ◌-◌, ◌≤◌, ◌<◌}
use native.Mathlib.Omega.{arith}
use native.Mathlib.Decide.{dec_lt}
use mathlib.Core.Path.{◌≡◌, refl, sym, ap, ◌∙◌}
use mathlib.Core.Bool.{Bool, true, false, not, ◌||◌}
use mathlib.Core.List.{List, ◌++◌}
use lib.ListN.{length, get_or, length-append, get_or-append}
use lib.Seq.{get_or-append-add}
use lib.Dec.{eqb}
use borrow.Author.Tests.{eq-eqb, ne_eqb}
use Rattle.system.specs.Signature.{Signature, arity}
use Rattle.system.proofs.BuiltIns.{clash}
use Rattle.sorts.specs.Sorts.{Sorts, offset, numbers_from, result_sort}
use Rattle.sort_test.specs.windows.Windows.{window_words, within, Put, Window}
use Rattle.sorts.proofs.Sortings.{numbers-length}
use Rattle.sorts.proofs.sides.Lists.{numbers-at}
use Rattle.sort_test.proofs.windows.Windows.{within_in, within_low, within-high}

-- ---- the sorts of arguments: j of n are put there

pub record Putting (ks : Sorts) (low h k n : ℕ) (before : List ℕ) (j : ℕ) (window : List ℕ) : Type 0 where
  pub inside : j ≤ n
  pub size : length window ≡ window_words
  pub below : (x : ℕ) → low ≤ x → x < low + window_words → x < h → get_or window (x - low) 0 ≡ get_or before (x - low) 0
  pub above : (x : ℕ) → low ≤ x → x < low + window_words → h + n ≤ x + j → x < h + n → get_or window (x - low) 0 ≡ get_or ks (k + (h + n - 1 - x)) 0

-- ---- the window has the sorts to come

module _ (ks : Sorts) (low k n : ℕ) (es before after : List ℕ) where
  -- those of the arguments on top of them
  pub window-put : Window low es before → Put ks low (length es) k n before after → Window low (numbers_from ks k n ++ es) after
  window-put w d = record {
    size = d.size;
    each = λ x l m b. let z = total in let z' = count in elim (dec_lt x (length es)) [
      | yes c ↦
          let i = length es - 1 - x in
          let u : length (numbers_from ks k n ++ es) - 1 - x ≡ length (numbers_from ks k n) + i = omega arith in
          d.below x l m c ∙ w.each x l m c ∙ sym (get_or-append-add (numbers_from ks k n) es i 0) ∙ ap (λ i. get_or (numbers_from ks k n ++ es) i 0) (sym u)
      | no c ↦
          let i = length es + n - 1 - x in
          let u : length (numbers_from ks k n ++ es) - 1 - x ≡ i = omega arith in
          d.above x l m (omega arith) (omega arith) ∙ sym (numbers-at ks k n i (omega arith))
          ∙ sym (get_or-append (numbers_from ks k n) es 0 i (omega arith)) ∙ ap (λ i. get_or (numbers_from ks k n ++ es) i 0) (sym u)
    ];
  }
    where
      total : length (numbers_from ks k n ++ es) ≡ n + length es
      total = let z = length-append (numbers_from ks k n) es in let z' = numbers-length ks k n in omega arith

      count : length (numbers_from ks k n) ≡ n
      count = numbers-length ks k n

-- ---- one word, at height h

module _ (g : Signature) (ks : Sorts) (low h w : ℕ) (window : List ℕ) (size : length window ≡ window_words) where
  abbrev compared : Bool
  compared = not (within low h) || eqb (result_sort g ks w) (get_or window (h - low) 0)

  abbrev Puts : List ℕ → Type 0
  Puts after = Put ks low h (offset g w + 1) (arity g w) window after

  -- neither it nor its arguments are in the window
  pub visit-high : low + window_words ≤ h → (true ≡ compared) × (true ≡ true → Puts window)
  visit-high l = (rw (within-high low h l) refl, λ _. record { size = size; below = λ x a b c. refl; above = λ x a b c d. absurd (omega arith) })

  pub visit-low : {a : ℕ} → a ≡ arity g w → h + a < low → (true ≡ compared) × (true ≡ true → Puts window)
  visit-low e l = (rw (within_low low h (omega arith)) refl, λ _. record { size = size; below = λ x a b c. refl; above = λ x a b c d. absurd (omega arith) })

  module _ {o x : ℕ} (eo : o ≡ offset g w) (ex : x ≡ get_or ks o 0) where
    result : result_sort g ks w ≡ x
    unfolding result_sort
    result = ap (λ i. get_or ks i 0) (sym eo) ∙ sym ex

    -- it has not the sort of its place
    pub visit-differs : low ≤ h → h < low + window_words → (x ≡ get_or window (h - low) 0 → ⊥) → (after : List ℕ) → (false ≡ compared) × (false ≡ true → Puts after)
    visit-differs l m d after =
        (rw (within_in low h l m) (sym (ne_eqb (result_sort g ks w) (get_or window (h - low) 0) (λ z. d (sym result ∙ z)))), λ z. absurd (clash refl (sym z)))

    -- it has, or that place is not in the window
    pub visit-same : low ≤ h → h < low + window_words → x ≡ get_or window (h - low) 0 → true ≡ compared
    visit-same l m z = rw (within_in low h l m) (sym (eq-eqb (result_sort g ks w) (get_or window (h - low) 0) (result ∙ z)))

  pub visit-below : h < low → true ≡ compared
  visit-below l = rw (within_low low h l) refl

  pub visit-puts : {o a : ℕ} → o ≡ offset g w → a ≡ arity g w → (after : List ℕ) → Put ks low h (o + 1) a window after → true ≡ true → Puts after
  visit-puts eo ea after d _ = rw (eo, ea) at d
