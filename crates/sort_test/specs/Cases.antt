-- Cases of the sort test (02, F-8, whose number is their label), over book B of 01 and books made of it. What is expected is written from 02,
-- and worked out by hand.
use Rattle.std.specs.Prelude.{ℕ, List, [], ◌∷◌, ◌++◌, take}
use Rattle.reader.specs.Cases.{Case, numbers, book_b, cut_b}
use Rattle.sorts.specs.Sorts.{Sorts}
use Rattle.sort_test.specs.SortTest.{sorts_answer}

-- B's names are flash 0, then 1 (two arguments), head 2, rest 3 (one each) and chase 4: flash is a 1, then(1, 2) a 2, head(2) a 1, rest(2) a 2,
-- chase a 2
abbrev pub sorts_b : Sorts
sorts_b = 1 ∷ 2 ∷ 1 ∷ 2 ∷ 1 ∷ 2 ∷ 2 ∷ 2 ∷ 2 ∷ []

-- all kinds 0
abbrev pub plain_b : Sorts
plain_b = 0 ∷ 0 ∷ 0 ∷ 0 ∷ 0 ∷ 0 ∷ 0 ∷ 0 ∷ 0 ∷ []

-- B with other rules
unfoldable pub with_rules : List ℕ → List ℕ
with_rules rules = take 18 book_b ++ rules

-- then(a, a) to chase; head(a) to rest(a); head(a) to a; rest(a) to curve(a)
abbrev pub repeated : List ℕ
repeated = 3 ∷ 1 ∷ 32768 ∷ 32768 ∷ 1 ∷ 4 ∷ []

abbrev pub turned : List ℕ
turned = 2 ∷ 2 ∷ 32768 ∷ 2 ∷ 3 ∷ 32768 ∷ []

abbrev pub bare : List ℕ
bare = 2 ∷ 2 ∷ 32768 ∷ 1 ∷ 32768 ∷ []

abbrev pub curved : List ℕ
curved = 2 ∷ 3 ∷ 32768 ∷ 2 ∷ 16642 ∷ 32768 ∷ []

-- the term head(rest(chase))
abbrev pub nested : List ℕ
nested = 2 ∷ 3 ∷ 4 ∷ []

abbrev pub testing : List ℕ → List ℕ → Sorts → List ℕ
testing book t ks = numbers (sorts_answer book t ks)

unfoldable pub sort_cases : List Case
sort_cases =
    record { label = 8; got = testing book_b nested sorts_b; expected = 0 ∷ 0 ∷ 0 ∷ [] }
    -- "20 for a list of wrong length or a kind above 63": one too few, one too many, 64; 63 is a kind
    ∷ record { label = 8; got = testing book_b nested (1 ∷ 2 ∷ 1 ∷ 2 ∷ 1 ∷ 2 ∷ 2 ∷ 2 ∷ []); expected = 20 ∷ 0 ∷ 0 ∷ [] }
    ∷ record { label = 8; got = testing book_b nested (1 ∷ 2 ∷ 1 ∷ 2 ∷ 1 ∷ 2 ∷ 2 ∷ 2 ∷ 2 ∷ 2 ∷ []); expected = 20 ∷ 0 ∷ 0 ∷ [] }
    ∷ record { label = 8; got = testing book_b nested (1 ∷ 2 ∷ 1 ∷ 2 ∷ 1 ∷ 2 ∷ 2 ∷ 2 ∷ 64 ∷ []); expected = 20 ∷ 0 ∷ 0 ∷ [] }
    ∷ record { label = 8; got = testing (with_rules (0 ∷ [])) nested (1 ∷ 2 ∷ 1 ∷ 2 ∷ 63 ∷ 2 ∷ 2 ∷ 2 ∷ 2 ∷ []); expected = 0 ∷ 0 ∷ 0 ∷ [] }
    -- "after the book"; "then 21", before 9 and 22
    ∷ record { label = 8; got = testing cut_b [] []; expected = 1 ∷ 38 ∷ 0 ∷ [] }
    -- "both sides are well-kinded with equal kind": head makes a 2, rule 1 fails; chase makes a 1, rule 0 fails; both, the lowest
    ∷ record { label = 8; got = testing book_b nested (1 ∷ 2 ∷ 1 ∷ 2 ∷ 2 ∷ 2 ∷ 2 ∷ 2 ∷ 2 ∷ []); expected = 21 ∷ 1 ∷ 0 ∷ [] }
    ∷ record { label = 8; got = testing book_b [] (1 ∷ 2 ∷ 1 ∷ 2 ∷ 1 ∷ 2 ∷ 2 ∷ 2 ∷ 1 ∷ []); expected = 21 ∷ 0 ∷ 0 ∷ [] }
    ∷ record { label = 8; got = testing book_b (2 ∷ 0 ∷ []) (1 ∷ 2 ∷ 1 ∷ 2 ∷ 2 ∷ 2 ∷ 2 ∷ 2 ∷ 1 ∷ []); expected = 21 ∷ 0 ∷ 0 ∷ [] }
    -- "each placeholder has one kind": then(a, a) with kinds 1 and 2, and with 2 and 2
    ∷ record { label = 8; got = testing (with_rules (1 ∷ repeated)) nested sorts_b; expected = 21 ∷ 0 ∷ 0 ∷ [] }
    ∷ record { label = 8; got = testing (with_rules (1 ∷ repeated)) nested (1 ∷ 2 ∷ 2 ∷ 2 ∷ 1 ∷ 2 ∷ 2 ∷ 2 ∷ 2 ∷ []); expected = 0 ∷ 0 ∷ 0 ∷ [] }
    -- the kind of the right side's place against that of the left: head takes a 2, rest a 1, and makes a 1
    ∷ record { label = 8; got = testing (with_rules (1 ∷ turned)) (4 ∷ []) (1 ∷ 2 ∷ 1 ∷ 2 ∷ 1 ∷ 2 ∷ 1 ∷ 1 ∷ 2 ∷ []); expected = 21 ∷ 0 ∷ 0 ∷ [] }
    ∷ record { label = 8; got = testing (with_rules (1 ∷ turned)) (4 ∷ []) (1 ∷ 2 ∷ 1 ∷ 2 ∷ 1 ∷ 2 ∷ 1 ∷ 2 ∷ 2 ∷ []); expected = 0 ∷ 0 ∷ 0 ∷ [] }
    -- a right side that is a placeholder has that placeholder's kind: head(2) a 1, head(2) a 2
    ∷ record { label = 8; got = testing (with_rules (1 ∷ bare)) (4 ∷ []) sorts_b; expected = 21 ∷ 0 ∷ 0 ∷ [] }
    ∷ record { label = 8; got = testing (with_rules (1 ∷ bare)) (4 ∷ []) (1 ∷ 2 ∷ 1 ∷ 2 ∷ 2 ∷ 2 ∷ 2 ∷ 2 ∷ 2 ∷ []); expected = 0 ∷ 0 ∷ 0 ∷ [] }
    -- "levels and the built-in words are kind 0 throughout": rest(2) a 2 to curve(a), rest(0) a 0 to curve(a)
    ∷ record { label = 8; got = testing (with_rules (1 ∷ curved)) (4 ∷ []) sorts_b; expected = 21 ∷ 0 ∷ 0 ∷ [] }
    ∷ record { label = 8; got = testing (with_rules (1 ∷ curved)) (4 ∷ []) (1 ∷ 2 ∷ 1 ∷ 2 ∷ 1 ∷ 2 ∷ 0 ∷ 0 ∷ 2 ∷ []); expected = 0 ∷ 0 ∷ 0 ∷ [] }
    -- higher of(level 3, flash): flash is a 1, and a 0
    ∷ record { label = 8; got = testing book_b (16640 ∷ 16387 ∷ 0 ∷ []) sorts_b; expected = 22 ∷ 0 ∷ 0 ∷ [] }
    ∷ record { label = 8; got = testing book_b (16640 ∷ 16387 ∷ 0 ∷ []) plain_b; expected = 0 ∷ 0 ∷ 0 ∷ [] }
    -- "after 9": not whole, and not well-kinded before; then "22 for a cue that isn't well-kinded": head(flash), then(flash, flash)
    ∷ record { label = 8; got = testing book_b (2 ∷ []) sorts_b; expected = 9 ∷ 1 ∷ 0 ∷ [] }
    ∷ record { label = 8; got = testing book_b (2 ∷ 0 ∷ 0 ∷ []) sorts_b; expected = 9 ∷ 2 ∷ 0 ∷ [] }
    ∷ record { label = 8; got = testing book_b (2 ∷ 0 ∷ []) sorts_b; expected = 22 ∷ 0 ∷ 0 ∷ [] }
    ∷ record { label = 8; got = testing book_b (1 ∷ 0 ∷ 0 ∷ []) sorts_b; expected = 22 ∷ 0 ∷ 0 ∷ [] }
    ∷ record { label = 8; got = testing book_b (1 ∷ 0 ∷ 4 ∷ []) sorts_b; expected = 0 ∷ 0 ∷ 0 ∷ [] }
    ∷ []
