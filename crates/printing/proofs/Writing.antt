-- Laws of what is written into a text: one piece after the other, a piece byte by byte, and the page that is written to.
use Prim.Native.Nat.{ℕ, ◌+◌, ◌*◌, ◌≤◌, ◌<◌}
use native.Mathlib.Omega.{arith}
use mathlib.Core.Path.{◌≡◌, refl, sym, ap, ◌∙◌}
use mathlib.Core.List.{List, [], ◌∷◌, ◌++◌, append_assoc, append-nil}
use lib.ListN.{length, take, drop, get_or, set, length-append, length-take}
use lib.Seq.{length-sets, take_all, take_at, sets-eq}
use Rattle.std.proofs.lemmas.List.{take_more}
use Rattle.buffers.proofs.Over.{over-append}
use Rattle.system.specs.declared.Answer.{Answer}
use Rattle.printing.specs.Text.{decimal, line, numbers_line, word_lines}
use Rattle.printing.specs.lent.Written.{Written}
use Rattle.printing.proofs.Decimals.{decimal_five}

module _ {t t₁ : List ℕ} {at m : ℕ} {xs : List ℕ} (a : Written t at xs m t₁) where
  -- the text keeps its length
  pub written-length : length t₁ ≡ length t
  written-length = ap length a.becomes ∙ length-sets t at xs

  -- a piece behind it
  pub written_then : {t₂ ys : List ℕ} {r : ℕ} → Written t₁ m ys r t₂ → Written t at (xs ++ ys) r t₂
  written_then {t₂} {ys} {r} b =
      let l = written-length in
      record {
        ends = (let z = length-append xs ys in let e = a.ends in let f = b.ends in omega arith);
        fits = (let f = b.fits in omega arith);
        becomes = b.becomes ∙ rw (a.becomes, a.ends, over-append t at xs ys);
      }

  -- a page that ended there has the bytes behind its own
  pub written_page : {page : List ℕ} → take at t ≡ page → take m t₁ ≡ page ++ xs
  written_page v =
      let e = a.ends in
      let f = a.fits in
      let l : length (take at t ++ xs) ≡ m = (let z = length-append (take at t) xs in let y = length-take at t in omega arith) in
      rw (← v, a.becomes, sets-eq xs t at (omega arith)) (take_at (take at t ++ xs) (drop (at + length xs) t) m l)

-- one byte
pub written_byte : (t : List ℕ) (at b : ℕ) → at < length t → Written t at (b ∷ []) (at + 1) (set t at b)
written_byte t at b h = record { ends = refl; fits = omega arith; becomes = refl }

-- room behind it
pub written-room : {t t₁ xs : List ℕ} {at p : ℕ} → Written t at xs p t₁ → at + length xs < length t → p < length t₁
written-room a h = let e = a.ends in let l = written-length a in omega arith

-- a number and a byte behind it: no more bytes than its digits and one
pub number-end : {t t₁ : List ℕ} {at p k : ℕ} (n b : ℕ) → Written t at (decimal n ++ (b ∷ [])) p t₁ → length (decimal n) ≤ k → p ≤ at + k + 1
number-end n b a h = let e = a.ends in let l = length-append (decimal n) (b ∷ []) in omega arith

-- the three numbers of an answer, one after the other
pub written-numbers : {t t₁ t₂ t₃ : List ℕ} {at p q r : ℕ} (a : Answer)
    → Written t at (decimal a.number ++ (32 ∷ [])) p t₁ → Written t₁ p (decimal a.place ++ (32 ∷ [])) q t₂
    → Written t₂ q (line (decimal a.steps)) r t₃ → Written t at (numbers_line a) r t₃
unfolding numbers_line
written-numbers a x y z = simp append_assoc (simp append_assoc at (written_then (written_then x y) z))

-- one word more, on a line of its own
lines_snoc : (xs : List ℕ) (w : ℕ) → word_lines (xs ++ (w ∷ [])) ≡ word_lines xs ++ line (decimal w)
unfolding word_lines
lines_snoc [] w = append-nil (line (decimal w))
lines_snoc (x ∷ xs) w = rw (lines_snoc xs w) (sym (append_assoc (line (decimal x)) (word_lines xs) (line (decimal w))))

-- the loop that writes words: the lines of the first i of them stand in the text, and no more than six bytes for each
pub record Lines (t : List ℕ) (at : ℕ) (ws : List ℕ) (m i : ℕ) (t₁ : List ℕ) : Type 0 where
  pub written : Written t at (word_lines (take i ws)) m t₁
  pub short : m ≤ at + 6 * i

pub lines_start : (t ws : List ℕ) (at : ℕ) → at + 6 * length ws ≤ length t → Lines t at ws at 0 t
unfolding word_lines
lines_start t ws at h = record { written = record { ends = omega arith; fits = omega arith; becomes = refl }; short = omega arith }

pub lines_end : {t t₁ ws : List ℕ} {at m i : ℕ} → Lines t at ws m i t₁ → length ws ≤ i → Written t at (word_lines ws) m t₁
lines_end {ws = ws} {i = i} l h = rw (take_all i ws h) at l.written

module _ {t t₁ ws : List ℕ} {at m i : ℕ} (l : Lines t at ws m i t₁) (more : i < length ws) (word : get_or ws i 0 < 65536) where
  five : length (decimal (get_or ws i 0)) ≤ 5
  five = decimal_five (get_or ws i 0) (omega arith)

  pub lines-room : at + 6 * length ws ≤ length t → m + length (decimal (get_or ws i 0)) < length t₁
  lines-room h = let e = written-length l.written in let f = five in let s = l.short in omega arith

  pub lines_more : {t₂ : List ℕ} {r : ℕ} → Written t₁ m (line (decimal (get_or ws i 0))) r t₂ → Lines t at ws r (i + 1) t₂
  lines_more {t₂} {r} b = record {
    written =
        (let e : word_lines (take (i + 1) ws) ≡ word_lines (take i ws) ++ line (decimal (get_or ws i 0))
        = rw (take_more ws i 0 more) (lines_snoc (take i ws) (get_or ws i 0)) in
        rw e (written_then l.written b));
    short = (let e = number-end (get_or ws i 0) 10 b five in let s = l.short in omega arith);
  }
