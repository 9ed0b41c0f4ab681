-- What the checks answer, in the terms of the code.
use Rattle.std.specs.Prelude.{ℕ, Result, Ok, Err, List}
use Rattle.std.specs.Borrow.{Bor}
use Rattle.printing.specs.Text.{ascii}
use Rattle.files.specs.declared.checks.Refusal.{Refusal}
use Rattle.files.specs.declared.checks.Refusal.TheVariants.{Missing, Long, Odd}
use Rattle.files.specs.Words.{words_of}
use Rattle.files.specs.Files.{Checked, stops, holds}

-- the one word that is printed
abbrev pub word_told : Refusal → List ℕ
word_told Missing = ascii "missing"
word_told Long = ascii "long"
word_told Odd = ascii "odd"

-- a refusal, or the bytes of a file that is taken
abbrev pub checked : Result (Bor (List ℕ)) Refusal → Checked
checked (Err why) = stops (word_told why)
checked (Ok bs) = holds (words_of bs.now)
