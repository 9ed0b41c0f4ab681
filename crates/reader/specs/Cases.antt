-- The starred cases (01: "Rehearsal cues"), as a table that the layers above carry on. What is expected is written from 01.
use Rattle.std.specs.Prelude.{ℕ, ◌≡◌, List, [], ◌∷◌, ◌++◌, map, take, set}
use Rattle.system.specs.declared.Answer.{Answer}
use Rattle.reader.specs.Parser.{read}
use Rattle.reader.specs.Answers.{answer_of, term_answer}

-- a case by its number in 01: what the definitions give and what 01 says, each the answer's three numbers (number, place, steps)
-- and, where words are handed back, those words after them. The number in 01 is for the reader only: nothing compares it
pub record Case : Type 0 where
  pub label : ℕ
  pub got : List ℕ
  pub expected : List ℕ

-- each case gives what 01 says
abbrev pub Hold : List Case → Type 0
Hold cases = map (λ c. c.got) cases ≡ map (λ c. c.expected) cases

abbrev pub numbers : Answer → List ℕ
numbers a = a.number ∷ a.place ∷ a.steps ∷ []

-- ---- the books

-- "Book B, 39 words". Symbols: 0 flash, 1 then, 2 head, 3 rest, 4 chase
unfoldable pub book_b : List ℕ
book_b =
    -- "5, 0 2 1 1 0"
    (5 ∷ 0 ∷ 2 ∷ 1 ∷ 1 ∷ 0 ∷ [])
    -- "5, 0, 1 1, 2 1 0, 2 1 0, 1 0"
    ++ (5 ∷ 0 ∷ 1 ∷ 1 ∷ 2 ∷ 1 ∷ 0 ∷ 2 ∷ 1 ∷ 0 ∷ 1 ∷ 0 ∷ [])
    -- "3, 1 4, 3 1 0 4, 4 2 1 32768 32769, 1 32768, 4 3 1 32768 32769, 1 32769"
    ++ (3 ∷ 1 ∷ 4 ∷ 3 ∷ 1 ∷ 0 ∷ 4 ∷ 4 ∷ 2 ∷ 1 ∷ 32768 ∷ 32769 ∷ 1 ∷ 32768 ∷ 4 ∷ 3 ∷ 1 ∷ 32768 ∷ 32769 ∷ 1 ∷ 32769 ∷ [])

-- "Without its last word"; "With one word more"; "Word 29 made 32768"
abbrev pub cut_b : List ℕ
cut_b = take 38 book_b

abbrev pub long_b : List ℕ
long_b = book_b ++ (0 ∷ [])

abbrev pub twice_b : List ℕ
twice_b = set book_b 29 32768

-- "Head's order 0 1", for the layers above: words 11 and 12
abbrev pub early_b : List ℕ
early_b = set (set book_b 11 0) 12 1

-- ---- the reader's cases

abbrev pub reading : List ℕ → List ℕ
reading book = numbers (answer_of (read book))

abbrev pub checking : List ℕ → List ℕ → List ℕ
checking book t = numbers (term_answer book t)

unfoldable pub reader_cases : List Case
reader_cases =
    -- "B is taken, place 39"
    record { label = 1; got = reading book_b; expected = 0 ∷ 39 ∷ 0 ∷ [] }
    -- "Without its last word: 1 at 38"
    ∷ record { label = 2; got = reading cut_b; expected = 1 ∷ 38 ∷ 0 ∷ [] }
    -- "With one word more: 8 at 39"
    ∷ record { label = 3; got = reading long_b; expected = 8 ∷ 39 ∷ 0 ∷ [] }
    -- "Word 29 made 32768", 02, F-7: "taken, place 39"
    ∷ record { label = 4; got = reading twice_b; expected = 0 ∷ 39 ∷ 0 ∷ [] }
    -- "Empty book: 1 at 0"
    ∷ record { label = 5; got = reading []; expected = 1 ∷ 0 ∷ 0 ∷ [] }
    -- "Book of one word 0: 2 at 0"
    ∷ record { label = 6; got = reading (0 ∷ []); expected = 2 ∷ 0 ∷ 0 ∷ [] }
    -- "Empty cue: 9 at 0. Cue 2: 9 at 1. Cue 0 0: 9 at 1. Cue 5: 9 at 0"
    ∷ record { label = 12; got = checking book_b []; expected = 9 ∷ 0 ∷ 0 ∷ [] }
    ∷ record { label = 12; got = checking book_b (2 ∷ []); expected = 9 ∷ 1 ∷ 0 ∷ [] }
    ∷ record { label = 12; got = checking book_b (0 ∷ 0 ∷ []); expected = 9 ∷ 1 ∷ 0 ∷ [] }
    ∷ record { label = 12; got = checking book_b (5 ∷ []); expected = 9 ∷ 0 ∷ 0 ∷ [] }
    ∷ []
