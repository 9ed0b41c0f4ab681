-- The strategies that a walk over them has left.
use Rattle.std.specs.Prelude.{ℕ, ◌-◌, List, length, drop}
use Rattle.reader.specs.Book.{system_of}
use Rattle.layout.specs.index.Accepted.{suffix_from}

-- the last n strategies of a book
abbrev pub strategies_left : List ℕ → ℕ → List (List ℕ)
strategies_left ws n = drop (length (system_of ws).strategies - n) (system_of ws).strategies

-- the words of a book from the last n strategies on
abbrev pub words_left : List ℕ → ℕ → List ℕ
words_left ws n = suffix_from (system_of ws) (length (system_of ws).strategies - n)
