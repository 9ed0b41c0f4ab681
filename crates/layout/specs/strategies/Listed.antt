-- The strategies of a book, one after the other.
use Rattle.std.specs.Prelude.{ℕ, ◌≡◌, List, [], ◌∷◌, Option, MatchOption}
use Rattle.layout.specs.declared.strategies.Strategy.{Strategy}
use Rattle.layout.specs.declared.strategies.Strategies.{Strategies}
use Rattle.layout.specs.strategies.Walked.{strategies_left}

-- the strategies that are still to come
abbrev pub rest_of : Strategies → List (List ℕ)
rest_of s = strategies_left s.book.words.now s.left

-- a call gave the next strategy, which stands where the walk was, and the walk goes on in the same book; or there was none
abbrev pub YieldsStrategy : Strategies → Option Strategy → Strategies → Type 0
YieldsStrategy s r t =
    MatchOption r ((rest_of s ≡ []) × (rest_of t ≡ []))
    (λ x. (rest_of s ≡ x.entries.now ∷ rest_of t) × (x.at ≡ s.at) × (t.book.words.now ≡ s.book.words.now))
