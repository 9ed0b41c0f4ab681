-- Laws of what the program prints, in the terms of the code that puts the text.
use Prim.Native.Nat.{ℕ, zero, suc, ◌-◌, ◌≤◌, ◌<◌}
use native.Mathlib.Omega.{arith}
use mathlib.Core.Path.{◌≡◌, refl, ap, ◌∙◌}
use mathlib.Core.List.{List, [], ◌∷◌, ◌++◌, append_assoc, append-nil}
use lib.ListN.{length, take, drop, get_or}
use Rattle.std.proofs.lemmas.Slice.{between_to_end}
use Rattle.system.specs.declared.Answer.{Answer}
use Rattle.system.specs.Limits.{area_words, term_words}
use Rattle.buffers.specs.Words.{zeros}
use Rattle.rewriting.specs.Evaluation.{unrecorded}
use Rattle.evaluation.specs.Expansion.{Expansion, expansion, answer_and_buffers}
use Rattle.printing.specs.Text.{ascii, line, heading, numbers_line, word_lines}
use Rattle.files.specs.Files.{holds}
use Rattle.expand.specs.Report.{on_zero, answer_text, text_of}

on-zero : (n : ℕ) (text : List ℕ) → n ≡ 0 → on_zero n text ≡ text
unfolding on_zero
on-zero n text e = rw e

on-other : (n : ℕ) (text : List ℕ) → (n ≡ 0 → ⊥) → on_zero n text ≡ []
unfolding on_zero
on-other zero text h = absurd (h refl)
on-other (suc n) text h = refl

-- a page after an answer, which has words or not
module _ (page out : List ℕ) (a : Answer) where
  pub answer-words : a.number ≡ 0 → page ++ heading ++ numbers_line a ++ word_lines (take a.place out) ≡ page ++ answer_text (answer_and_buffers a out [])
  unfolding answer_text
  answer-words z = rw (on-zero a.number (word_lines (take a.place out)) z) (simp append_assoc)

  pub answer-refused : (a.number ≡ 0 → ⊥) → page ++ heading ++ numbers_line a ≡ page ++ answer_text (answer_and_buffers a out [])
  unfolding answer_text
  answer-refused z = rw (on-other a.number (word_lines (take a.place out)) z, append-nil) (append_assoc page heading (numbers_line a))

-- the work buffer is not printed
work-apart : (a : Answer) (out work : List ℕ) → answer_text (answer_and_buffers a out []) ≡ answer_text (answer_and_buffers a out work)
unfolding answer_text
work-apart a out work = refl

pub answer-printed : (a : Answer) (out work : List ℕ) (x : Expansion) → answer_and_buffers a out work ≡ x → answer_text (answer_and_buffers a out []) ≡ answer_text x
answer-printed a out work x e = work-apart a out work ∙ ap answer_text e

-- the cue file has no word
pub text_short : (ws ts : List ℕ) → length ts < 1 → text_of (holds ws) (holds ts) ≡ line (ascii "short")
unfolding text_of
text_short ws [] h = refl
text_short ws (x ∷ ts) h = absurd (omega arith)

-- it has one: limit and the words behind it, and book are what the code has of the files' words ts and ws
pub text_words : (page : List ℕ) {page' : List ℕ} (ws ts book cue : List ℕ) (limit : ℕ) → book ≡ ws → cue ≡ ts → 1 ≤ length cue → limit ≡ get_or cue 0 0
    → page' ≡ page ++ answer_text (expansion book (take (length cue - 1) (drop 1 cue)) (unrecorded limit) (zeros term_words) (zeros area_words))
    → page' ≡ page ++ text_of (holds ws) (holds ts)
unfolding text_of
text_words page ws ts book [] limit b c h l e = absurd (omega arith)
text_words page ws ts book (x ∷ cue) limit b c h l e = e ∙ rw (between_to_end (x ∷ cue) 1 (length (x ∷ cue)) (omega arith), l, b, ← c)
