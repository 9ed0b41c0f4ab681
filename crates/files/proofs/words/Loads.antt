-- The words of a file's bytes, pair by pair, as the loop that loads them has them.
use Prim.Native.Nat.{ℕ, zero, suc, ◌+◌, ◌*◌, ◌/◌, ◌≤◌, ◌<◌}
use native.Mathlib.Omega.{arith}
use mathlib.Core.Path.{◌≡◌, refl, ap, ◌∙◌}
use mathlib.Core.List.{List, [], ◌∷◌, map}
use lib.ListN.{length, get_or, take, drop, set}
use lib.Seq.{take_all, take_at, length-take-le, length-sets, sets-eq}
use Rattle.std.proofs.lemmas.List.{map_more, length-map}
use Rattle.buffers.specs.Words.{over}
use Rattle.buffers.proofs.Over.{over-append}
use mir.Syntax.{w16}
use Rattle.std.specs.Simd.{first_chunks}
use Rattle.std.specs.Int.{from_le_bytes}
use Rattle.files.specs.Words.{word_of, words_of}

pub words-length : (bs : List ℕ) → length (words_of bs) ≡ length bs / 2
unfolding words_of
words-length [] = refl
words-length (l ∷ []) = refl
words-length (l ∷ h ∷ bs) = let e = words-length bs in omega arith

-- each word is its two bytes, the low one first: by its index, and all together
pub word_at : (bs : List ℕ) (i : ℕ) → i < length (words_of bs) → get_or (words_of bs) i 0 ≡ word_of (get_or bs (2 * i) 0) (get_or bs (2 * i + 1) 0)
unfolding words_of
word_at [] i h = absurd (omega arith)
word_at (l ∷ []) i h = absurd (omega arith)
word_at (l ∷ k ∷ bs) zero h = refl
word_at (l ∷ k ∷ bs) (suc i) h =
    let a : 2 * suc i ≡ suc (suc (2 * i)) = omega arith in
    let b : 2 * suc i + 1 ≡ suc (suc (2 * i + 1)) = omega arith in
    rw (b, a) (word_at bs i (omega arith))

words_pairs : (bs : List ℕ) → words_of bs ≡ map (from_le_bytes w16) (first_chunks 2 (length bs / 2) bs)
unfolding words_of
words_pairs [] = refl
words_pairs (l ∷ []) = refl
words_pairs (l ∷ h ∷ bs) =
    let e : length (l ∷ h ∷ bs) / 2 ≡ suc (length bs / 2) = omega arith in
    let w : l + 256 * h ≡ from_le_bytes w16 (l ∷ h ∷ []) = omega arith in
    rw (e, words_pairs bs, w)

-- a turn of the loop stores one word more, and at its end all are there
pub stored : (ws w : List ℕ) (pairs : List (List ℕ)) (i x : ℕ) → w ≡ over ws 0 (map (from_le_bytes w16) (take i pairs)) → i < length pairs
    → x ≡ from_le_bytes w16 (get_or pairs i []) → set w i x ≡ over ws 0 (map (from_le_bytes w16) (take (i + 1) pairs))
stored ws w pairs i x e m q =
    let written = map (from_le_bytes w16) (take i pairs) in
    let k : length written ≡ i = length-map (take i pairs) (from_le_bytes w16) ∙ length-take-le i pairs (omega arith) in
    let o = over-append ws 0 written (x ∷ []) in
    let z : 0 + length written ≡ i = omega arith in
    rw (map_more (from_le_bytes w16) pairs i [] m, e, ← q, o, z)

pub all_stored : (bs ws w : List ℕ) (pairs : List (List ℕ)) (i : ℕ) → pairs ≡ first_chunks 2 (length bs / 2) bs → length pairs ≤ i
    → w ≡ over ws 0 (map (from_le_bytes w16) (take i pairs)) → w ≡ over ws 0 (words_of bs)
all_stored bs ws w pairs i p m e = rw (e, take_all i pairs m, p, words_pairs bs)

-- what a load leaves, where n is its answer and w the words of the buffer then: they fit, and stand at its start
pub record Loaded (bs : List ℕ) (n : ℕ) (w : List ℕ) : Type 0 where
  pub fits : n ≤ length w
  pub words : take n w ≡ words_of bs

pub loaded : (bs ws w : List ℕ) (n : ℕ) → length bs ≤ 2 * length ws → n ≡ length (words_of bs) → w ≡ over ws 0 (words_of bs) → Loaded bs n w
loaded bs ws w n h e f =
    let l = words-length bs in
    let k : length w ≡ length ws = ap length f ∙ length-sets ws 0 (words_of bs) in
    record {
      fits = omega arith;
      words = rw (e, f, sets-eq (words_of bs) ws 0 (omega arith)) (take_at (words_of bs) (drop (0 + length (words_of bs)) ws) (length (words_of bs)) refl);
    }
