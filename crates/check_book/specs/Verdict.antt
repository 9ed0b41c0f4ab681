-- What the program `check_book` prints of show.book: one line on what the reader says of it, and one on the order test.
use Rattle.std.specs.Prelude.{ℕ, zero, suc, List, ◌++◌}
use Prim.Native.String.{String}
use Rattle.system.specs.declared.Answer.{Answer}
use Rattle.system.specs.declared.numbers.Fault.{Fault}
use Rattle.system.specs.declared.numbers.Fault.TheVariants.{Missing, Range, Entry, Unknown, Unbalanced, VariableHead, Unbound, Trailing, BuiltInHead}
use Rattle.reader.specs.Parser.{ok, fault, read}
use Rattle.matching.specs.StrategyTest.{test_answer}
use Rattle.printing.specs.Text.{ascii, decimal, line}
use Rattle.files.specs.Files.{File, book_bytes, Checked, stops, holds, check}

-- a row of "The table of numbers": "Word" and "When"
pub record Row : Type 0 where
  pub word : String
  pub when : String

abbrev pub row : Fault → Row
row Missing = record { word = "short"; when = "a word the book needs is missing" }
row Range = record { word = "count"; when = "a count or length outside its range" }
row Entry = record { word = "entry"; when = "an order entry above the argument count" }
row Unknown = record { word = "stranger"; when = "a side's word is neither name nor placeholder" }
row Unbalanced = record { word = "ragged"; when = "a side is complete too early, or not at its last word" }
row VariableHead = record { word = "headless"; when = "a left side starts with a placeholder" }
row Unbound = record { word = "stray"; when = "a left placeholder is above the count of different ones before it, or a right one is not in the left" }
row Trailing = record { word = "surplus"; when = "words after the last rule" }
row BuiltInHead = record { word = "builtin"; when = "a left side starts with a level or a built-in word" }

-- 14, and in place of "the order test failed" what failed: not "its order holds a 0 and every entry after the last 0 is an idle argument"
abbrev pub unsettled_row : Row
unsettled_row = record { word = "unsettled"; when = "its order holds no 0, or an entry after the last 0 is not idle" }

-- what is wrong, where, and when that is said
unfoldable pub refusal_line : String → Row → String → ℕ → List ℕ
refusal_line what r kind place = line (ascii what ++ ascii r.word ++ ascii kind ++ decimal place ++ ascii ": " ++ ascii r.when)

-- "For 1 to 8" (and 15) "the place is the index of the word being read"
abbrev pub fault_line : Fault → ℕ → List ℕ
fault_line f i = refusal_line "show.book: " (row f) " at word " i

-- "On 0 the reader's place is the book's length"
unfoldable pub taken_line : ℕ → List ℕ
taken_line n = line (ascii "show.book: taken, " ++ decimal n ++ ascii " words")

-- "All pass: 0. Otherwise 14" (01), at "the lowest-numbered name that fails" (02, F-1)
unfoldable pub order_line : Answer → List ℕ
order_line r =
    elim r.number [
      | zero ↦ line (ascii "order test: taken, every name passes")
      | suc _ ↦ refusal_line "order test: " unsettled_row " at name " r.place
    ]

-- what is printed of a book's words
unfoldable pub book_text : List ℕ → List ℕ
book_text ws = elim (read ws) [ fault f i ↦ fault_line f i | ok s n ↦ taken_line n ++ order_line (test_answer ws) ]

-- and of a file, as the checks leave it: one word and no more for a file that is `missing`, `long` or `odd`
unfoldable pub text_of : Checked → List ℕ
text_of (stops why) = line why
text_of (holds ws) = book_text ws

abbrev pub verdict : File → List ℕ
verdict book = text_of (check book_bytes book)

-- no text is longer
abbrev pub text_bytes : ℕ
text_bytes = 256
