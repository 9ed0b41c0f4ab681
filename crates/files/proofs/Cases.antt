-- Files that the checks stop, and the words of one that they do not, computed from the definitions: one fact.
use mathlib.Core.Path.{◌≡◌, refl}
use mathlib.Core.List.{[], ◌∷◌}
use lib.ListN.{replicate}
use Rattle.printing.specs.Text.{ascii}
use Rattle.files.specs.Words.{words_of}
use Rattle.files.specs.Files.{absent, bytes, stops, holds, book_bytes, check}

pub file-cases :
    (check book_bytes absent ≡ stops (ascii "missing"))
    × (check book_bytes (bytes (replicate 42503 0)) ≡ stops (ascii "long"))
    × (check book_bytes (bytes (replicate 42501 0)) ≡ stops (ascii "odd"))
    × (check book_bytes (bytes (10 ∷ 0 ∷ 1 ∷ 128 ∷ [])) ≡ holds (10 ∷ 32769 ∷ []))
unfolding check words_of
file-cases = (refl, refl, refl, refl)
