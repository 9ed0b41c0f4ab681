-- The starred cases of the evaluator (01: "Rehearsal cues"), which carry on the table of the layers below. What is expected is written from 01.
use Rattle.std.specs.Prelude.{ℕ, zero, suc, ◌+◌, List, [], ◌∷◌, ◌++◌, length, take, drop, set}
use Rattle.buffers.specs.Words.{zeros}
use Rattle.reader.specs.Cases.{Case, numbers, reading, book_b, early_b, reader_cases}
use Rattle.matching.specs.Cases.{testing, strategy_cases}
use Rattle.rewriting.specs.Evaluation.{unrecorded, recorded}
use Rattle.evaluation.specs.Expansion.{Expansion, expansion, record_after, handed_back}
use Rattle.replay.specs.Replaying.{replaying}
use Rattle.system.specs.Limits.{area_words, term_words}

-- the three numbers, and on 0 the words that are handed back
abbrev pub told : Expansion → List ℕ
told x = numbers x.numbers ++ elim x.numbers.number [ zero ↦ handed_back x | suc _ ↦ [] ]

-- in buffers of just the words that the evaluator asks for
unfoldable pub expanding : List ℕ → List ℕ → ℕ → List ℕ
expanding book term limit = told (expansion book term (unrecorded limit) (zeros term_words) (zeros area_words))

unfoldable pub evaluator_cases : List Case
evaluator_cases =
    -- "Cue 4, allowance 1: answer 1 0 4, 1 step. Allowance 0: 11, 0 steps"
    record { label = 7; got = expanding book_b (4 ∷ []) 1; expected = 0 ∷ 3 ∷ 1 ∷ 1 ∷ 0 ∷ 4 ∷ [] }
    ∷ record { label = 7; got = expanding book_b (4 ∷ []) 0; expected = 11 ∷ 0 ∷ 0 ∷ [] }
    -- "Cue 2 3 4, allowance 4: answer 0, 4 steps"
    ∷ record { label = 8; got = expanding book_b (2 ∷ 3 ∷ 4 ∷ []) 4; expected = 0 ∷ 1 ∷ 4 ∷ 0 ∷ [] }
    -- "Allowance 3: 11, 3 steps"
    ∷ record { label = 9; got = expanding book_b (2 ∷ 3 ∷ 4 ∷ []) 3; expected = 11 ∷ 0 ∷ 3 ∷ [] }
    -- "There cue 2 4, allowance 9, gives 2 1 0 4 after 1 step, though a rule fits it" (in the book of case 10)
    ∷ record { label = 11; got = expanding early_b (2 ∷ 4 ∷ []) 9; expected = 0 ∷ 4 ∷ 1 ∷ 2 ∷ 1 ∷ 0 ∷ 4 ∷ [] }
    -- "Empty cue: 9 at 0. Cue 2: 9 at 1. Cue 0 0: 9 at 1. Cue 5: 9 at 0": the expander's answer too
    ∷ record { label = 12; got = expanding book_b [] 4; expected = 9 ∷ 0 ∷ 0 ∷ [] }
    ∷ record { label = 12; got = expanding book_b (2 ∷ []) 4; expected = 9 ∷ 1 ∷ 0 ∷ [] }
    ∷ record { label = 12; got = expanding book_b (0 ∷ 0 ∷ []) 4; expected = 9 ∷ 1 ∷ 0 ∷ [] }
    ∷ record { label = 12; got = expanding book_b (5 ∷ []) 4; expected = 9 ∷ 0 ∷ 0 ∷ [] }
    ∷ []

-- all starred cases, C1 to C12
unfoldable pub starred : List Case
starred = reader_cases ++ (strategy_cases ++ evaluator_cases)

-- ---- levels (02, F-2), over book B. What is expected is written from 02; the label is the request's number

-- word 20, the first left side's first word, made another; and word 26, the second one's, with placeholders in the wrong order behind it
abbrev pub starts_with : ℕ → List ℕ
starts_with w = set book_b 20 w

abbrev pub also_unbound : List ℕ
also_unbound = set (set book_b 26 16640) 28 32769

unfoldable pub literal_cases : List Case
literal_cases =
    -- "Word 16640 is 'higher of', 16641 'lower of' .. where both arguments are levels, a step puts the larger or smaller level there"
    record { label = 2; got = expanding book_b (16640 ∷ 16387 ∷ 16584 ∷ []) 1; expected = 0 ∷ 1 ∷ 1 ∷ 16584 ∷ [] }
    ∷ record { label = 2; got = expanding book_b (16641 ∷ 16387 ∷ 16584 ∷ []) 1; expected = 0 ∷ 1 ∷ 1 ∷ 16387 ∷ [] }
    -- "two arguments each, order 1 2 0"
    ∷ record { label = 2; got = expanding book_b (16640 ∷ 16641 ∷ 16387 ∷ 16584 ∷ 16394 ∷ []) 2; expected = 0 ∷ 1 ∷ 2 ∷ 16394 ∷ [] }
    ∷ record { label = 2; got = expanding book_b (16640 ∷ 16641 ∷ 16387 ∷ 16584 ∷ 16394 ∷ []) 1; expected = 11 ∷ 0 ∷ 1 ∷ [] }
    ∷ record { label = 2; got = expanding book_b (16640 ∷ 16387 ∷ 0 ∷ []) 9; expected = 0 ∷ 3 ∷ 0 ∷ 16640 ∷ 16387 ∷ 0 ∷ [] }
    -- levels as arguments of names: head(then(level 16, chase))
    ∷ record { label = 2; got = expanding book_b (2 ∷ 1 ∷ 16400 ∷ 4 ∷ []) 9; expected = 0 ∷ 1 ∷ 1 ∷ 16400 ∷ [] }
    -- what is behind the built-in words is no word of a cue, and none of a side
    ∷ record { label = 2; got = expanding book_b (16643 ∷ []) 9; expected = 9 ∷ 0 ∷ 0 ∷ [] }
    ∷ record { label = 2; got = expanding book_b (16640 ∷ 16639 ∷ []) 9; expected = 9 ∷ 2 ∷ 0 ∷ [] }
    ∷ record { label = 2; got = expanding (starts_with 16643) (0 ∷ []) 9; expected = 4 ∷ 20 ∷ 0 ∷ [] }
    -- "15, place that word's index and 0 steps, where a left side starts with a level or either of these words, checked where 6 is"
    ∷ record { label = 2; got = expanding (starts_with 16384) (0 ∷ []) 9; expected = 15 ∷ 20 ∷ 0 ∷ [] }
    ∷ record { label = 2; got = expanding (starts_with 16641) (0 ∷ []) 9; expected = 15 ∷ 20 ∷ 0 ∷ [] }
    ∷ record { label = 2; got = expanding also_unbound (0 ∷ []) 9; expected = 15 ∷ 26 ∷ 0 ∷ [] }
    ∷ []

-- ---- the step record and its replay (02, F-3), over book B. What is expected is written from 01 and 02

-- the answer of an expansion with a record of these words, and the record afterwards
unfoldable pub recording : List ℕ → List ℕ → ℕ → List ℕ → List ℕ
recording book term limit words =
    let limits = recorded limit (length words) in
    told (expansion book term limits (zeros term_words) (zeros area_words))
    ++ record_after book term limits (zeros term_words) (zeros area_words) words

unfoldable pub following : List ℕ → List ℕ → List ℕ → List ℕ
following book term words = told (replaying book term words (zeros term_words) (zeros area_words))

-- head(rest(chase)) takes four steps: chase at index 2 by rule 0, rest at 1 by rule 2, chase at 1 by rule 0, head at 0 by rule 1
abbrev pub four_steps : List ℕ
four_steps = 2 ∷ 0 ∷ 1 ∷ 2 ∷ 1 ∷ 0 ∷ 0 ∷ 1 ∷ []

unfoldable pub record_cases : List Case
record_cases =
    -- "for each step two words, the step's index in the whole cue before it and the rule's number"; "its other words unchanged"
    record { label = 3; got = recording book_b (4 ∷ []) 1 (7 ∷ 7 ∷ 7 ∷ []); expected = 0 ∷ 3 ∷ 1 ∷ 1 ∷ 0 ∷ 4 ∷ 0 ∷ 0 ∷ 7 ∷ [] }
    ∷ record { label = 3; got = recording book_b (2 ∷ 3 ∷ 4 ∷ []) 4 (zeros 8); expected = 0 ∷ 1 ∷ 4 ∷ 0 ∷ four_steps }
    ∷ record { label = 3; got = recording book_b (16640 ∷ 16387 ∷ 16584 ∷ []) 1 (zeros 2); expected = 0 ∷ 1 ∷ 1 ∷ 16584 ∷ 0 ∷ 128 ∷ [] }
    -- "16 when a step finds fewer than two words left in the record, between 11 and 12"; it reports "the steps completed"
    ∷ record { label = 3; got = recording book_b (2 ∷ 3 ∷ 4 ∷ []) 4 (9 ∷ 9 ∷ 9 ∷ []); expected = 16 ∷ 0 ∷ 1 ∷ 2 ∷ 0 ∷ 9 ∷ [] }
    ∷ record { label = 3; got = recording book_b (2 ∷ 3 ∷ 4 ∷ []) 1 (9 ∷ 9 ∷ 9 ∷ []); expected = 11 ∷ 0 ∷ 1 ∷ 2 ∷ 0 ∷ 9 ∷ [] }
    ∷ record { label = 3; got = recording book_b (0 ∷ []) 4 []; expected = 0 ∷ 1 ∷ 0 ∷ 0 ∷ [] }
    -- no step is reported where the cue is refused
    ∷ record { label = 3; got = recording book_b (2 ∷ []) 4 (9 ∷ 9 ∷ []); expected = 9 ∷ 1 ∷ 0 ∷ 9 ∷ 9 ∷ [] }
    -- "It gives the final cue, its three numbers .. as the expander's, steps being the pairs"
    ∷ record { label = 3; got = following book_b (2 ∷ 3 ∷ 4 ∷ []) four_steps; expected = 0 ∷ 1 ∷ 4 ∷ 0 ∷ [] }
    -- "an accepted record need not be in our order": head(then(chase, flash)) by rule 1 at once
    ∷ record { label = 3; got = following book_b (2 ∷ 1 ∷ 4 ∷ 0 ∷ []) (0 ∷ 1 ∷ []); expected = 0 ∷ 1 ∷ 1 ∷ 4 ∷ [] }
    -- "17, place the pair's number from 0, at the first pair that is wrong or half": another rule, half a pair, a held-back argument, no word
    ∷ record { label = 3; got = following book_b (2 ∷ 3 ∷ 4 ∷ []) (2 ∷ 0 ∷ 1 ∷ 1 ∷ []); expected = 17 ∷ 1 ∷ 1 ∷ [] }
    ∷ record { label = 3; got = following book_b (2 ∷ 3 ∷ 4 ∷ []) (2 ∷ 0 ∷ 1 ∷ []); expected = 17 ∷ 1 ∷ 1 ∷ [] }
    ∷ record { label = 3; got = following book_b (1 ∷ 0 ∷ 4 ∷ []) (2 ∷ 0 ∷ []); expected = 17 ∷ 0 ∷ 0 ∷ [] }
    ∷ record { label = 3; got = following book_b (4 ∷ []) (1 ∷ 0 ∷ []); expected = 17 ∷ 0 ∷ 0 ∷ [] }
    ∷ []

-- ---- the curve (02, F-4), over book B. What is expected is written from 02

-- curve(higher of(level 12, level 200))
abbrev pub dimmed : List ℕ
dimmed = 16642 ∷ 16640 ∷ 16396 ∷ 16584 ∷ []

-- rule 1, head(then(a, b)) to a (words 25 to 31), made head(then(a, b)) to curve(a), and made head(curve(a)) to a
abbrev pub square_right : List ℕ
square_right = take 30 book_b ++ ((2 ∷ 16642 ∷ 32768 ∷ []) ++ drop 32 book_b)

abbrev pub square_left : List ℕ
square_left = take 25 book_b ++ ((3 ∷ 2 ∷ 16642 ∷ 32768 ∷ []) ++ drop 30 book_b)

unfoldable pub square_cases : List Case
square_cases =
    -- "level n becomes (n × n + 127) divided by 255, whole part": 11 to 0 (248 / 255), 12 to 1 (271 / 255), 200 to 157 (40,127 / 255), 255 to 255
    record { label = 4; got = expanding book_b (16642 ∷ 16395 ∷ []) 1; expected = 0 ∷ 1 ∷ 1 ∷ 16384 ∷ [] }
    ∷ record { label = 4; got = expanding book_b (16642 ∷ 16396 ∷ []) 1; expected = 0 ∷ 1 ∷ 1 ∷ 16385 ∷ [] }
    ∷ record { label = 4; got = expanding book_b (16642 ∷ 16584 ∷ []) 1; expected = 0 ∷ 1 ∷ 1 ∷ 16541 ∷ [] }
    ∷ record { label = 4; got = expanding book_b (16642 ∷ 16639 ∷ []) 1; expected = 0 ∷ 1 ∷ 1 ∷ 16639 ∷ [] }
    -- "one argument, order 1 0"
    ∷ record { label = 4; got = expanding book_b dimmed 2; expected = 0 ∷ 1 ∷ 2 ∷ 16541 ∷ [] }
    ∷ record { label = 4; got = expanding book_b dimmed 1; expected = 11 ∷ 0 ∷ 1 ∷ [] }
    ∷ record { label = 4; got = expanding book_b (16642 ∷ 0 ∷ []) 9; expected = 0 ∷ 2 ∷ 0 ∷ 16642 ∷ 0 ∷ [] }
    -- "rule 130", in a record and its replay
    ∷ record { label = 4; got = recording book_b dimmed 2 (zeros 4); expected = 0 ∷ 1 ∷ 2 ∷ 16541 ∷ 1 ∷ 128 ∷ 0 ∷ 130 ∷ [] }
    ∷ record { label = 4; got = following book_b dimmed (1 ∷ 128 ∷ 0 ∷ 130 ∷ []); expected = 0 ∷ 1 ∷ 2 ∷ 16541 ∷ [] }
    ∷ record { label = 4; got = following book_b dimmed (0 ∷ 130 ∷ []); expected = 17 ∷ 0 ∷ 0 ∷ [] }
    -- "Cue reading, rule sides and 15 treat the word as they do 16640"
    ∷ record { label = 4; got = expanding book_b (16642 ∷ []) 9; expected = 9 ∷ 1 ∷ 0 ∷ [] }
    ∷ record { label = 4; got = expanding book_b (16642 ∷ 0 ∷ 0 ∷ []) 9; expected = 9 ∷ 2 ∷ 0 ∷ [] }
    ∷ record { label = 4; got = expanding (starts_with 16642) (0 ∷ []) 9; expected = 15 ∷ 20 ∷ 0 ∷ [] }
    -- on the right: head(then(level 200, chase)); on the left: of head(curve(flash)) the argument stays, of head(curve(level 200)) it does not
    ∷ record { label = 4; got = expanding square_right (2 ∷ 1 ∷ 16584 ∷ 4 ∷ []) 9; expected = 0 ∷ 1 ∷ 2 ∷ 16541 ∷ [] }
    ∷ record { label = 4; got = expanding square_left (2 ∷ 16642 ∷ 0 ∷ []) 9; expected = 0 ∷ 1 ∷ 1 ∷ 0 ∷ [] }
    ∷ record { label = 4; got = expanding square_left (2 ∷ 16642 ∷ 16584 ∷ []) 9; expected = 0 ∷ 2 ∷ 1 ∷ 2 ∷ 16541 ∷ [] }
    ∷ []

-- ---- a placeholder twice on the left (02, F-7). What is expected is written from 02

-- book B with word 29 made w: rule 1 is head(then(a, w)) to a
abbrev pub head_of : ℕ → List ℕ
head_of w = set book_b 29 w

-- names 0 on, 1 off, 2 pair, of two arguments, 3 same, of two; rule 0 is same(l, r) to on. Its left side's words start at word 13 and the
-- order's length
unfoldable pub same_book : List ℕ → List ℕ → List ℕ → List ℕ
same_book order l r =
    (4 ∷ 0 ∷ 0 ∷ 2 ∷ 2 ∷ [])
    ++ ((4 ∷ 0 ∷ 0 ∷ 2 ∷ 1 ∷ 2 ∷ length order ∷ order)
    ++ (1 ∷ (length (l ++ r) + 1) ∷ 3 ∷ (l ++ (r ++ (1 ∷ 0 ∷ [])))))

-- the placeholders a and b, and the book of same(a, a)
abbrev pub a : ℕ
a = 32768

abbrev pub b : ℕ
b = 32769

abbrev pub same_of : List ℕ → List ℕ
same_of order = same_book order (a ∷ []) (a ∷ [])

unfoldable pub repeat_cases : List Case
repeat_cases =
    -- "Number 7 in a left side is now for a placeholder above the count of different ones before it": after one, 0 and 1 may stand there
    record { label = 7; got = reading (head_of 32768); expected = 0 ∷ 39 ∷ 0 ∷ [] }
    ∷ record { label = 7; got = reading (head_of 32769); expected = 0 ∷ 39 ∷ 0 ∷ [] }
    ∷ record { label = 7; got = reading (head_of 32770); expected = 7 ∷ 29 ∷ 0 ∷ [] }
    -- a repeat is no new one: same(pair(a, a), ..) may go on with b, and not with the one after it
    ∷ record { label = 7; got = reading (same_book (0 ∷ []) (2 ∷ a ∷ a ∷ []) (b ∷ [])); expected = 0 ∷ 22 ∷ 0 ∷ [] }
    ∷ record { label = 7; got = reading (same_book (0 ∷ []) (2 ∷ a ∷ a ∷ []) (32770 ∷ [])); expected = 7 ∷ 19 ∷ 0 ∷ [] }
    -- "it fits if both arguments are equal, all their words": the same; unequal in the first word, in the last, and in length
    ∷ record { label = 7; got = expanding (same_of (1 ∷ 2 ∷ 0 ∷ [])) (3 ∷ 1 ∷ 1 ∷ []) 9; expected = 0 ∷ 1 ∷ 1 ∷ 0 ∷ [] }
    ∷ record { label = 7; got = expanding (same_of (1 ∷ 2 ∷ 0 ∷ [])) (3 ∷ 2 ∷ 0 ∷ 1 ∷ 2 ∷ 0 ∷ 1 ∷ []) 9; expected = 0 ∷ 1 ∷ 1 ∷ 0 ∷ [] }
    ∷ record { label = 7; got = expanding (same_of (1 ∷ 2 ∷ 0 ∷ [])) (3 ∷ 0 ∷ 1 ∷ []) 9; expected = 0 ∷ 3 ∷ 0 ∷ 3 ∷ 0 ∷ 1 ∷ [] }
    ∷ record {
      label = 7;
      got = expanding (same_of (1 ∷ 2 ∷ 0 ∷ [])) (3 ∷ 2 ∷ 0 ∷ 1 ∷ 2 ∷ 0 ∷ 0 ∷ []) 9;
      expected = 0 ∷ 7 ∷ 0 ∷ 3 ∷ 2 ∷ 0 ∷ 1 ∷ 2 ∷ 0 ∷ 0 ∷ [];
    }
    ∷ record { label = 7; got = expanding (same_of (1 ∷ 2 ∷ 0 ∷ [])) (3 ∷ 1 ∷ 2 ∷ 1 ∷ 1 ∷ []) 9; expected = 0 ∷ 5 ∷ 0 ∷ 3 ∷ 1 ∷ 2 ∷ 1 ∷ 1 ∷ [] }
    -- equal after evaluation: same(same(on, on), on) takes two steps, and not where the arguments are held back
    ∷ record { label = 7; got = expanding (same_of (1 ∷ 2 ∷ 0 ∷ [])) (3 ∷ 3 ∷ 0 ∷ 0 ∷ 0 ∷ []) 9; expected = 0 ∷ 1 ∷ 2 ∷ 0 ∷ [] }
    ∷ record { label = 7; got = expanding (same_of (0 ∷ [])) (3 ∷ 3 ∷ 0 ∷ 0 ∷ 0 ∷ []) 9; expected = 0 ∷ 5 ∷ 0 ∷ 3 ∷ 3 ∷ 0 ∷ 0 ∷ 0 ∷ [] }
    -- in its record and replay
    ∷ record {
      label = 7;
      got = recording (same_of (1 ∷ 2 ∷ 0 ∷ [])) (3 ∷ 3 ∷ 0 ∷ 0 ∷ 0 ∷ []) 9 (zeros 4);
      expected = 0 ∷ 1 ∷ 2 ∷ 0 ∷ 1 ∷ 0 ∷ 0 ∷ 0 ∷ [];
    }
    ∷ record { label = 7; got = following (same_of (1 ∷ 2 ∷ 0 ∷ [])) (3 ∷ 0 ∷ 1 ∷ []) (0 ∷ 0 ∷ []); expected = 17 ∷ 0 ∷ 0 ∷ [] }
    -- "An argument is idle if, and only if, it is a placeholder that its left side holds once": with the order 1 0 2 argument 2 of same(a, a) is
    -- not, of same(a, b) it is, and of same(pair(a, b), a) it is not
    ∷ record { label = 7; got = testing (same_of (1 ∷ 2 ∷ 0 ∷ [])); expected = 0 ∷ 0 ∷ 0 ∷ [] }
    ∷ record { label = 7; got = testing (same_of (1 ∷ 0 ∷ 2 ∷ [])); expected = 14 ∷ 3 ∷ 0 ∷ [] }
    ∷ record { label = 7; got = testing (same_book (1 ∷ 0 ∷ 2 ∷ []) (a ∷ []) (b ∷ [])); expected = 0 ∷ 0 ∷ 0 ∷ [] }
    ∷ record { label = 7; got = testing (same_book (1 ∷ 0 ∷ 2 ∷ []) (2 ∷ a ∷ b ∷ []) (a ∷ [])); expected = 14 ∷ 3 ∷ 0 ∷ [] }
    ∷ []

-- all cases of the requests
unfoldable pub request_cases : List Case
request_cases = literal_cases ++ (record_cases ++ (square_cases ++ repeat_cases))
