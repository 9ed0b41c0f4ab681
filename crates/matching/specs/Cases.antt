-- The starred case of the strategy test (01: "Rehearsal cues"), which carries on the reader's table. What is expected is written from 01.
use Rattle.std.specs.Prelude.{ℕ, List, [], ◌∷◌}
use Rattle.reader.specs.Cases.{Case, numbers, book_b, early_b}
use Rattle.matching.specs.StrategyTest.{test_answer}

abbrev pub testing : List ℕ → List ℕ
testing book = numbers (test_answer book)

-- "Head's order 0 1: order test 14 at 2". Book B itself passes
unfoldable pub strategy_cases : List Case
strategy_cases =
    record { label = 10; got = testing early_b; expected = 14 ∷ 2 ∷ 0 ∷ [] }
    ∷ record { label = 10; got = testing book_b; expected = 0 ∷ 0 ∷ 0 ∷ [] }
    ∷ []
