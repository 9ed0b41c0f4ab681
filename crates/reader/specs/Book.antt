-- The system that the words of a book are, and a book that is accepted.
use Rattle.std.specs.Prelude.{ℕ, ◌≡◌, List, [], length}
use Rattle.reader.specs.declared.Shape.{Shape}
use Rattle.reader.specs.Answers.{shape_of}
use Rattle.system.specs.System.{System}
use Rattle.reader.specs.Parser.{Parsed, ok, fault, read}

-- what was read, or the system without symbols and rules
abbrev pub system_from : Parsed System → System
system_from (ok s i) = s
system_from (fault f i) = record { arities = []; strategies = []; rules = [] }

-- the system that the words of a book are; the empty one where the reader refuses them
unfoldable pub system_of : List ℕ → System
system_of ws = system_from (read ws)

-- the book is accepted, and the shape is its own
pub record Accepted (ws : List ℕ) (shape : Shape) : Type 0 where
  pub accepted : read ws ≡ ok (system_of ws) (length ws)
  pub shaped : shape ≡ shape_of (read ws)
