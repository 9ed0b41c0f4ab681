-- What the program prints (01, "The program"), whatever it finds of its two files.
use Rattle.std.specs.Prelude.{ℕ, zero, suc, List, [], ◌∷◌, ◌++◌}
use Rattle.buffers.specs.Words.{zeros}
use Rattle.system.specs.Limits.{term_words, area_words}
use Rattle.rewriting.specs.Evaluation.{unrecorded}
use Rattle.evaluation.specs.Expansion.{Expansion, expansion, handed_back}
use Rattle.printing.specs.Text.{ascii, line, heading, numbers_line, word_lines}
use Rattle.files.specs.Files.{File, book_bytes, Checked, stops, holds, check}

-- the most bytes of a cue file: "`long` (over .. 8,194 bytes)"
abbrev pub cue_bytes : ℕ
cue_bytes = 8194

-- "a heading, the three numbers, and on 0 the answer, a word a line"
unfoldable pub on_zero : ℕ → List ℕ → List ℕ
on_zero zero text = text
on_zero (suc _) text = []

unfoldable pub answer_text : Expansion → List ℕ
answer_text x = heading ++ numbers_line x.numbers ++ on_zero x.numbers.number (word_lines (handed_back x))

-- "It prints one word and stops for a file .., or a cue file `short` of its first word; checks in this order, book first."
-- "the cue file's first word is the allowance"; the answer and work buffers are the least that the expander takes
unfoldable pub text_of : Checked → Checked → List ℕ
text_of (stops why) cue = line why
text_of (holds book) (stops why) = line why
text_of (holds book) (holds []) = line (ascii "short")
text_of (holds book) (holds (allowance ∷ cue)) = answer_text (expansion book cue (unrecorded allowance) (zeros term_words) (zeros area_words))

abbrev pub report : File → File → List ℕ
report book cue = text_of (check book_bytes book) (check cue_bytes cue)

-- no text is longer: 19 bytes of heading, at most 43 of the three numbers, and at most 6 for each of 4,096 words
abbrev pub text_bytes : ℕ
text_bytes = 24638
