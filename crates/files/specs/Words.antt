-- The words of a file.
use Rattle.std.specs.Prelude.{ℕ, ◌+◌, ◌*◌, List, [], ◌∷◌}

-- "words low byte first"
abbrev pub word_of : ℕ → ℕ → ℕ
word_of low high = low + 256 * high

unfoldable pub words_of : List ℕ → List ℕ
words_of [] = []
words_of (low ∷ []) = []
words_of (low ∷ high ∷ bytes) = word_of low high ∷ words_of bytes
