-- What 02 (F-4) asks of the curve, said of what the evaluator answers and hands back.
use Rattle.std.specs.Prelude.{ℕ, ◌+◌, ◌≤◌, ◌≡◌, List, [], ◌∷◌, length, get_or}
use Rattle.system.specs.Limits.{area_words, term_words}
use Rattle.system.specs.BuiltIns.{literal, square, square_law}
use Rattle.reader.specs.Parser.{read}
use Rattle.reader.specs.Answers.{answer_of}
use Rattle.evaluation.specs.Expansion.{Expansion, handed_back}

-- "Word 16642 is 'curve', one argument": curve(level n)
abbrev pub square_of : ℕ → List ℕ
square_of n = square ∷ (literal + n) ∷ []

-- "level n becomes (n × n + 127) divided by 255, whole part", in one step, over every book that the reader accepts and in buffers that pass the
-- checks: x is what becomes of curve(level n)
abbrev pub IsSquared : List ℕ → ℕ → ℕ → List ℕ → List ℕ → Expansion → Type 0
IsSquared book n limit out work x =
    (answer_of (read book)).number ≡ 0 → term_words ≤ length out → area_words ≤ length work → 1 ≤ limit →
    (x.numbers ≡ record { number = 0; place = 1; steps = 1 }) × (handed_back x ≡ (literal + square_law n) ∷ [])

-- "It never falls from one level to the next", and so to no higher one: x is what becomes of curve(level m), y of curve(level n)
abbrev pub NeverFalls : ℕ → ℕ → Expansion → Expansion → Type 0
NeverFalls m n x y = m ≤ n → x.numbers.number ≡ 0 → y.numbers.number ≡ 0 → get_or (handed_back x) 0 0 ≤ get_or (handed_back y) 0 0
