-- Texts that are written out here by hand, computed: one fact.
use mathlib.Core.Path.{◌≡◌, refl}
use mathlib.Core.List.{[], ◌∷◌, ◌++◌}
use Rattle.printing.specs.Text.{ascii, decimal_in, decimal, heading, numbers_line, word_lines}

pub text-cases :
    (decimal 0 ≡ 48 ∷ []) × (decimal 10 ≡ ascii "10") × (decimal 42503 ≡ 52 ∷ 50 ∷ 53 ∷ 48 ∷ 51 ∷ [])
    × (decimal 18446744073709551615 ≡ ascii "18446744073709551615")
    × (heading ≡ ascii "number place steps" ++ (10 ∷ []))
    × (numbers_line (record { number = 0; place = 3; steps = 1 }) ≡ ascii "0 3 1\n")
    × (word_lines (1 ∷ 0 ∷ 32769 ∷ []) ≡ ascii "1\n0\n32769\n")
unfolding decimal decimal_in heading numbers_line word_lines
text-cases = (refl, refl, refl, refl, refl, refl, refl)
