-- The rules that a walk over them has left.
use Rattle.std.specs.Prelude.{ℕ, ◌+◌, ◌-◌, ◌<◌, List, length, get_or, drop}
use Rattle.system.specs.Limits.{variable, variables}
use Rattle.system.specs.System.{Rule}
use Rattle.reader.specs.Book.{system_of}

-- the last n rules of a book
abbrev pub rules_left : List ℕ → ℕ → List Rule
rules_left ws n = drop (length (system_of ws).rules - n) (system_of ws).rules

-- each word is a symbol or a variable of number 0 to 15
abbrev pub KnownWords : List ℕ → Type 0
KnownWords ws = (j : ℕ) → j < length ws → get_or ws j 0 < variable + variables
