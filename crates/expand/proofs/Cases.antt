-- Files that stop the program and answers that it prints, computed from the definition of the report: one fact.
use mathlib.Core.Path.{◌≡◌, refl}
use mathlib.Core.List.{[], ◌∷◌}
use lib.ListN.{replicate}
use Rattle.evaluation.specs.Expansion.{answer_and_buffers}
use Rattle.printing.specs.Text.{ascii, decimal_in, decimal, heading, numbers_line, word_lines}
use Rattle.files.specs.Words.{words_of}
use Rattle.files.specs.Files.{absent, bytes, check}
use Rattle.expand.specs.Report.{on_zero, answer_text, text_of, report}

pub report-cases :
    (report absent absent ≡ ascii "missing\n")
    × (report (bytes (0 ∷ [])) absent ≡ ascii "odd\n")
    × (report (bytes (replicate 42503 0)) absent ≡ ascii "long\n")
    × (report (bytes (1 ∷ 0 ∷ [])) absent ≡ ascii "missing\n")
    × (report (bytes (1 ∷ 0 ∷ [])) (bytes (replicate 8195 0)) ≡ ascii "long\n")
    × (report (bytes (1 ∷ 0 ∷ [])) (bytes []) ≡ ascii "short\n")
    -- "The program's whole output for B and cue file 10 2 3 4", and 11 after 3 steps
    × (answer_text (answer_and_buffers (record { number = 0; place = 1; steps = 4 }) (0 ∷ 7 ∷ []) []) ≡ ascii "number place steps\n0 1 4\n0\n")
    × (answer_text (answer_and_buffers (record { number = 11; place = 0; steps = 3 }) (0 ∷ 7 ∷ []) []) ≡ ascii "number place steps\n11 0 3\n")
unfolding check on_zero answer_text text_of words_of decimal_in decimal heading numbers_line word_lines
report-cases = (refl, refl, refl, refl, refl, refl, refl, refl)
