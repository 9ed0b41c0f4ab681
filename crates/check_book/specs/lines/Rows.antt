-- The pieces of the lines.
use Rattle.std.specs.Prelude.{ℕ, ◌≡◌, List, ◌++◌}
use Rattle.std.specs.Borrow.{Bor}
use Rattle.printing.specs.Text.{ascii, decimal, line}
use Rattle.check_book.specs.Verdict.{Row}

-- the code's two texts are those of a row
abbrev pub IsRow : Row → Bor (List ℕ) × Bor (List ℕ) → Type 0
IsRow r t = (t.0.now ≡ ascii r.word) × (t.1.now ≡ ascii r.when)

-- the place, and when that is said, behind what is counted
unfoldable pub placed : List ℕ → ℕ → List ℕ → List ℕ
placed kind place when = kind ++ decimal place ++ ascii ": " ++ line when
