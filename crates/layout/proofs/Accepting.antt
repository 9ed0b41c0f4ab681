-- What the reader accepts.
use Prim.Native.Nat.{ℕ}
use mathlib.Core.Path.{◌≡◌, sym, ap, ◌∙◌}
use mathlib.Core.List.{List}
use lib.ListN.{length}
use Rattle.system.specs.System.{System}
use Rattle.reader.specs.Parser.{ok, read}
use Rattle.reader.specs.Book.{system_from, system_of}
use Rattle.reader.proofs.Accepts.{read-sound}

-- what the reader accepts is the system of the book
pub reads-system : (b : List ℕ) {s : System} {i : ℕ} → read b ≡ ok s i → read b ≡ ok (system_of b) (length b)
unfolding system_of
reads-system b e = e ∙ (λ j. ok (ap system_from (sym e) j) ((read-sound b e).2 j))
