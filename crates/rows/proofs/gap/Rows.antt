-- What a store does to the rows of an area: the row of words, the row of lengths, and what stands behind both. Assumes nothing.
use mathlib.Core.Path.{◌≡◌, refl, sym, ap, ◌∙◌}
use mathlib.Core.List.{List, [], ◌∷◌}
use Prim.Native.Nat.{ℕ, suc, ◌+◌, ◌≤◌, ◌<◌}
use native.Mathlib.Omega.{arith}
use native.Mathlib.Nat.{add-suc}
use lib.ListN.{length, take, drop, get_or, set, length-take, length-drop}
use lib.Seq.{sets, take-set-lt, drop-set-add, take-take, drop-drop, get_or-take, get_or-drop}
use Rattle.buffers.specs.Words.{over}
use Rattle.buffers.specs.moves.Parts.{part}
use Rattle.buffers.proofs.Over.{part_slice, take-over, drop-over, part-above}
use Rattle.system.specs.Limits.{term_words}
use Rattle.rows.specs.Rows.{counts_at, word_row, length_row}

-- ---- stores and a cut, for any list

pub take-over-lt : (n : ℕ) (l : List ℕ) (i : ℕ) (vs : List ℕ) → i + length vs ≤ n → take n (over l i vs) ≡ over (take n l) i vs
take-over-lt n l i [] h = refl
take-over-lt n l i (v ∷ vs) h =
    take-over-lt n (set l i v) (suc i) vs (omega arith) ∙ ap (λ (m : List ℕ). sets m (suc i) vs) (take-set-lt n l i v (omega arith))

pub drop-over-add : (n : ℕ) (l : List ℕ) (i : ℕ) (vs : List ℕ) → drop n (over l (n + i) vs) ≡ over (drop n l) i vs
drop-over-add n l i [] = refl
drop-over-add n l i (v ∷ vs) =
    ap (λ (k : ℕ). drop n (sets (set l (n + i) v) k vs)) (sym (add-suc n i))
    ∙ drop-over-add n (set l (n + i) v) (suc i) vs
    ∙ ap (λ (m : List ℕ). sets m (suc i) vs) (drop-set-add n l i v)

pub part-take : (n : ℕ) (l : List ℕ) (a m : ℕ) → a + m ≤ n → part a m (take n l) ≡ part a m l
part-take n l a m h = part_slice a m (take n l) ∙ ap (λ (k : List ℕ). drop a k) (take-take (a + m) n l h) ∙ sym (part_slice a m l)

-- ---- the rows of an area

pub word-row-length : (ws : List ℕ) → counts_at ≤ length ws → length (word_row ws) ≡ term_words
word-row-length ws h = rw (length-take term_words ws) (omega arith)

pub length-row-length : (ws : List ℕ) → counts_at ≤ length ws → length (length_row ws) ≡ term_words
length-row-length ws h = rw (length-take term_words (drop term_words ws), length-drop term_words ws) (omega arith)

pub word-row-at : (ws : List ℕ) (i : ℕ) → i < term_words → get_or (word_row ws) i 0 ≡ get_or ws i 0
word-row-at ws i h = get_or-take term_words ws i 0 h

pub length-row-at : (ws : List ℕ) (i : ℕ) → i < term_words → get_or (length_row ws) i 0 ≡ get_or ws (term_words + i) 0
length-row-at ws i h = get_or-take term_words (drop term_words ws) i 0 h ∙ get_or-drop term_words ws i 0

pub word-row-part : (ws : List ℕ) (a n : ℕ) → a + n ≤ term_words → part a n (word_row ws) ≡ part a n ws
word-row-part ws a n h = part-take term_words ws a n h

pub length-row-part : (ws : List ℕ) (a n : ℕ) → a + n ≤ term_words → part a n (length_row ws) ≡ part (term_words + a) n ws
length-row-part ws a n h = part-take term_words (drop term_words ws) a n h ∙ ap (λ (l : List ℕ). take n l) (drop-drop a term_words ws)

-- ---- a store in one of the rows: what becomes of the three

pub record RowsOf (ws words lengths counts : List ℕ) : Type 0 where
  pub words_are : word_row ws ≡ words
  pub lengths-are : length_row ws ≡ lengths
  pub counts-are : drop counts_at ws ≡ counts

pub word-over-row : (ws : List ℕ) (i : ℕ) (xs : List ℕ) → i + length xs ≤ term_words →
    RowsOf (over ws i xs) (over (word_row ws) i xs) (length_row ws) (drop counts_at ws)
word-over-row ws i xs h = record {
  words_are = take-over-lt term_words ws i xs h;
  lengths-are = part-above term_words term_words ws i xs h;
  counts-are = drop-over counts_at ws i xs (omega arith);
}

pub length-over-row : (ws : List ℕ) (i : ℕ) (xs : List ℕ) → i + length xs ≤ term_words →
    RowsOf (over ws (term_words + i) xs) (word_row ws) (over (length_row ws) i xs) (drop counts_at ws)
length-over-row ws i xs h = record {
  words_are = take-over term_words ws (term_words + i) xs (omega arith);
  lengths-are = ap (λ (l : List ℕ). take term_words l) (drop-over-add term_words ws i xs) ∙ take-over-lt term_words (drop term_words ws) i xs h;
  counts-are = drop-over counts_at ws (term_words + i) xs (omega arith);
}

pub length-set-row : (ws : List ℕ) (q x : ℕ) → q < term_words →
    RowsOf (set ws (term_words + q) x) (word_row ws) (set (length_row ws) q x) (drop counts_at ws)
length-set-row ws q x h = length-over-row ws q (x ∷ []) (omega arith)
