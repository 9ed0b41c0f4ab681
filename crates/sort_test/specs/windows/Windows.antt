-- The check of a term in passes. With the sorts es of the places to come, the first of them on top, the sort at the bottom has height 0: the
-- place of a word has the height of how many come after it. A pass looks at the places of some heights.
use Rattle.std.specs.Prelude.{ℕ, ◌+◌, ◌-◌, ◌≤◌, ◌<◌, ◌≡◌, Bool, true, not, ◌&&◌, ◌||◌, List, [], ◌∷◌, ◌++◌, length, get_or, ltb, leb, eqb}
use Rattle.system.specs.Signature.{Signature}
use Rattle.sorts.specs.Sorts.{Sorts, result_sort, argument_sorts}

abbrev pub window_words : ℕ
window_words = 256

-- whether a height is in the window that starts at height low
unfoldable pub within : ℕ → ℕ → Bool
within low h = leb low h && ltb h (low + window_words)

-- the check of words against the sorts es, at the heights of the window
unfoldable pub windowed : Signature → Sorts → ℕ → List ℕ → List ℕ → Bool
windowed g ks low [] es = true
windowed g ks low (w ∷ ws) [] = true
windowed g ks low (w ∷ ws) (e ∷ es) =
    (not (within low (length es)) || eqb (result_sort g ks w) e) && windowed g ks low ws (argument_sorts g ks w ++ es)

-- the window before and after a sort was put at a height
pub record Placed (low at e : ℕ) (before after : List ℕ) : Type 0 where
  pub size : length after ≡ window_words
  pub here : low ≤ at → at < low + window_words → get_or after (at - low) 0 ≡ e
  pub other : (x : ℕ) → low ≤ x → x < low + window_words → (x ≡ at → ⊥) → get_or after (x - low) 0 ≡ get_or before (x - low) 0

-- the window before and after n numbers of the list from k on were put on the height h
pub record Put (ks : Sorts) (low h k n : ℕ) (before after : List ℕ) : Type 0 where
  pub size : length after ≡ window_words
  pub below : (x : ℕ) → low ≤ x → x < low + window_words → x < h → get_or after (x - low) 0 ≡ get_or before (x - low) 0
  pub above : (x : ℕ) → low ≤ x → x < low + window_words → h ≤ x → x < h + n → get_or after (x - low) 0 ≡ get_or ks (k + (h + n - 1 - x)) 0

-- the window has the sorts es at its heights
pub record Window (low : ℕ) (es window : List ℕ) : Type 0 where
  pub size : length window ≡ window_words
  pub each : (x : ℕ) → low ≤ x → x < low + window_words → x < length es → get_or window (x - low) 0 ≡ get_or es (length es - 1 - x) 0
