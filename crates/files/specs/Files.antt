-- A file of words as a program finds it, and its checks (01, "The program").
use Rattle.std.specs.Prelude.{ℕ, ◌%◌, cond, Option, Some, None, List, length, ltb, eqb}
use Rattle.std.specs.Borrow.{Bor}
use Rattle.printing.specs.Text.{ascii}
use Rattle.files.specs.Words.{words_of}

-- a file: it is not there, or it has these bytes
pub data File : Type 0 where
  absent : File
  bytes : List ℕ → File

-- what the code has of it: nothing, or its bytes
abbrev pub file_of : Option (Bor (List ℕ)) → File
file_of None = absent
file_of (Some bs) = bytes bs.now

-- the most bytes of a book: "`long` (over 42,502 .. bytes)"
abbrev pub book_bytes : ℕ
book_bytes = 42502

-- what the checks make of a file: the one word that is printed, or the file's words
pub data Checked : Type 0 where
  stops : List ℕ → Checked
  holds : List ℕ → Checked

-- "for a file `missing`, `long` .., `odd` in length .. checks in this order"
unfoldable pub check : ℕ → File → Checked
check most absent = stops (ascii "missing")
check most (bytes bs) =
    cond (ltb most (length bs)) (stops (ascii "long"))
    (cond (eqb (length bs % 2) 0) (holds (words_of bs)) (stops (ascii "odd")))
