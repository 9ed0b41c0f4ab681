-- Cases of the test by weights (02, F-6, whose number is their label), over book B of 01 and books made of it. What is expected is written from
-- 02, and worked out by hand.
use Rattle.std.specs.Prelude.{ℕ, List, [], ◌∷◌, ◌++◌, take, drop}
use Rattle.reader.specs.Cases.{Case, numbers, book_b, cut_b}
use Rattle.termination.specs.WeightTest.{weights_answer, weight_limit}

-- B with other rules: its names are flash 0, then 1 (two arguments), head 2, rest 3 (one each) and chase 4
unfoldable pub with_rules : List ℕ → List ℕ
with_rules rules = take 18 book_b ++ rules

-- rules 1 and 2 of B alone: head(then(a, b)) to a, rest(then(a, b)) to b
abbrev pub parts_b : List ℕ
parts_b = with_rules (2 ∷ drop 25 book_b)

-- head(then(a, b)) to rest(then(a, b)), and the same to then(a, a)
abbrev pub turned : List ℕ
turned = 4 ∷ 2 ∷ 1 ∷ 32768 ∷ 32769 ∷ 4 ∷ 3 ∷ 1 ∷ 32768 ∷ 32769 ∷ []

abbrev pub doubled : List ℕ
doubled = 4 ∷ 2 ∷ 1 ∷ 32768 ∷ 32769 ∷ 3 ∷ 1 ∷ 32768 ∷ 32768 ∷ []

-- rest(a) to curve(a), and rest(level 0) to flash
abbrev pub curved : List ℕ
curved = 2 ∷ 3 ∷ 32768 ∷ 2 ∷ 16642 ∷ 32768 ∷ []

abbrev pub darkened : List ℕ
darkened = 2 ∷ 3 ∷ 16384 ∷ 1 ∷ 0 ∷ []

abbrev pub ones : List ℕ
ones = 1 ∷ 1 ∷ 1 ∷ 1 ∷ 1 ∷ []

-- head weighs 2, rest weighs 2
abbrev pub head_two : List ℕ
head_two = 1 ∷ 1 ∷ 2 ∷ 1 ∷ 1 ∷ []

abbrev pub rest_two : List ℕ
rest_two = 1 ∷ 1 ∷ 1 ∷ 2 ∷ 1 ∷ []

abbrev pub weighing_of : List ℕ → List ℕ → List ℕ
weighing_of book m = numbers (weights_answer book m)

unfoldable pub weight_cases : List Case
weight_cases =
    -- chase becomes then(flash, chase): whatever the list, that weighs more
    record { label = 6; got = weighing_of book_b ones; expected = 19 ∷ 0 ∷ 0 ∷ [] }
    ∷ record { label = 6; got = weighing_of book_b (1 ∷ 1 ∷ 1 ∷ 1 ∷ 1000 ∷ []); expected = 19 ∷ 0 ∷ 0 ∷ [] }
    -- "placeholders nothing": 2 against 0, for both rules; a placeholder may be dropped
    ∷ record { label = 6; got = weighing_of parts_b ones; expected = 0 ∷ 0 ∷ 0 ∷ [] }
    -- "18 if the list's length is not S or a weight is out of range", "from 1 to 1,000"
    ∷ record { label = 6; got = weighing_of parts_b (1 ∷ 1 ∷ 1 ∷ 1 ∷ []); expected = 18 ∷ 0 ∷ 0 ∷ [] }
    ∷ record { label = 6; got = weighing_of parts_b (1 ∷ 1 ∷ 1 ∷ 1 ∷ 1 ∷ 1 ∷ []); expected = 18 ∷ 0 ∷ 0 ∷ [] }
    ∷ record { label = 6; got = weighing_of parts_b (1 ∷ 1 ∷ 1 ∷ 1 ∷ 0 ∷ []); expected = 18 ∷ 0 ∷ 0 ∷ [] }
    ∷ record { label = 6; got = weighing_of parts_b (1 ∷ 1 ∷ 1 ∷ 1 ∷ 1001 ∷ []); expected = 18 ∷ 0 ∷ 0 ∷ [] }
    ∷ record { label = 6; got = weighing_of parts_b (1 ∷ 1 ∷ 1 ∷ 1 ∷ 1000 ∷ []); expected = 0 ∷ 0 ∷ 0 ∷ [] }
    -- "after the book"; and before 19
    ∷ record { label = 6; got = weighing_of cut_b (0 ∷ []); expected = 1 ∷ 38 ∷ 0 ∷ [] }
    ∷ record { label = 6; got = weighing_of book_b (0 ∷ []); expected = 18 ∷ 0 ∷ 0 ∷ [] }
    -- "weigh more in all": not as much
    ∷ record { label = 6; got = weighing_of (with_rules (1 ∷ turned)) ones; expected = 19 ∷ 0 ∷ 0 ∷ [] }
    ∷ record { label = 6; got = weighing_of (with_rules (1 ∷ turned)) head_two; expected = 0 ∷ 0 ∷ 0 ∷ [] }
    -- "no placeholder is on the right twice", however light the right side is
    ∷ record { label = 6; got = weighing_of (with_rules (1 ∷ doubled)) head_two; expected = 19 ∷ 0 ∷ 0 ∷ [] }
    -- "the lowest rule that doesn't fall": the second of two, the first of two
    ∷ record { label = 6; got = weighing_of (with_rules (2 ∷ (turned ++ doubled))) head_two; expected = 19 ∷ 1 ∷ 0 ∷ [] }
    ∷ record { label = 6; got = weighing_of (with_rules (2 ∷ (turned ++ doubled))) ones; expected = 19 ∷ 0 ∷ 0 ∷ [] }
    -- "levels weigh 0, the built-in words 1": rest(a) against curve(a), rest(level 0) against flash
    ∷ record { label = 6; got = weighing_of (with_rules (1 ∷ curved)) ones; expected = 19 ∷ 0 ∷ 0 ∷ [] }
    ∷ record { label = 6; got = weighing_of (with_rules (1 ∷ curved)) rest_two; expected = 0 ∷ 0 ∷ 0 ∷ [] }
    ∷ record { label = 6; got = weighing_of (with_rules (1 ∷ darkened)) ones; expected = 19 ∷ 0 ∷ 0 ∷ [] }
    ∷ record { label = 6; got = weighing_of (with_rules (1 ∷ darkened)) rest_two; expected = 0 ∷ 0 ∷ 0 ∷ [] }
    -- no rule, and so none that does not fall
    ∷ record { label = 6; got = weighing_of (with_rules (0 ∷ [])) ones; expected = 0 ∷ 0 ∷ 0 ∷ [] }
    -- "the first cue's total weight": head(rest(chase)); higher of(level 3, level 200); what is no symbol
    ∷ record { label = 6; got = weight_limit head_two (2 ∷ 3 ∷ 4 ∷ []) ∷ []; expected = 4 ∷ [] }
    ∷ record { label = 6; got = weight_limit head_two (16640 ∷ 16387 ∷ 16584 ∷ []) ∷ []; expected = 1 ∷ [] }
    ∷ record { label = 6; got = weight_limit head_two (5 ∷ 16643 ∷ 32768 ∷ []) ∷ []; expected = 0 ∷ [] }
    ∷ []
