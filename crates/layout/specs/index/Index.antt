-- The index of a book: where each strategy and each rule stands, so that none is walked over; and for each first word of a term the rules whose left
-- sides may start with it, so that the others are not looked at.
use Rattle.std.specs.Prelude.{ℕ, suc, ◌+◌, ◌%◌, ◌≤◌, ◌<◌, ◌≡◌, Bool, cond, List, [], ◌∷◌, length, get_or, drop, eqb, Option, MatchOption}
use Rattle.system.specs.Limits.{max_symbols, max_rules}
use Rattle.reader.specs.declared.Shape.{Shape}
use Rattle.layout.specs.declared.index.Places.{Places}
use Rattle.system.specs.System.{System, Rule, rule, head}
use Rattle.reader.specs.Book.{system_of}
use Rattle.layout.specs.index.Accepted.{StrategyAt, RulesAt}

-- ---- the lists of rules

-- left sides are told apart by their first words: a word falls in one of so many buckets
abbrev pub buckets : ℕ
buckets = 64

abbrev pub bucket : ℕ → ℕ
bucket w = w % buckets

-- how many rules stand before the first whose left side starts with a word that passes; all of them where there is none
unfoldable pub seek : (ℕ → Bool) → List Rule → ℕ
seek p [] = 0
seek p (r ∷ rs) = cond (p (head r.lhs)) 0 (suc (seek p rs))

-- the lowest number, from k on, of a rule whose left side starts with a word of the bucket b; the number of rules where there is none
unfoldable pub rule_from : System → ℕ → ℕ → ℕ
rule_from s k b = k + seek (λ w. eqb (bucket w) b) (drop k s.rules)

-- the rule that follows rule k in its bucket
abbrev pub rule_after : System → ℕ → ℕ
rule_after s k = rule_from s (k + 1) (bucket (head (rule s k).lhs))

-- the rule of a number below the number of rules; that number itself, which ends a list, is none
abbrev pub RuleNumber : ℕ → ℕ → Option ℕ → Type 0
RuleNumber rules n r = MatchOption r (n ≡ rules) (λ k. (k ≡ n) × (k < rules))

-- ---- the words of an index: one for each symbol that a book may have, for each rule, for each bucket, and for each rule again

-- where the strategies of the first n symbols stand
pub record StrategiesNoted (ws : List ℕ) (n : ℕ) (strategies : List ℕ) : Type 0 where
  pub slots : length strategies ≡ max_symbols
  pub stands : (f : ℕ) → f < n → StrategyAt ws f (get_or strategies f 0)

-- where the first n rules stand
pub record RulesNoted (ws : List ℕ) (n : ℕ) (rules : List ℕ) : Type 0 where
  pub slots : length rules ≡ max_rules
  pub stands : (k : ℕ) → k < n → RulesAt ws k (get_or rules k 0)

-- of the rules from number j on the first of each bucket, and the one that follows each in its bucket. The number of rules ends a bucket's list
pub record Linked (ws : List ℕ) (j : ℕ) (firsts nexts : List ℕ) : Type 0 where
  pub first_slots : length firsts ≡ buckets
  pub next_slots : length nexts ≡ max_rules
  pub heads : (b : ℕ) → b < buckets → get_or firsts b 0 ≡ rule_from (system_of ws) j b
  pub follows : (k : ℕ) → j ≤ k → k < length (system_of ws).rules → get_or nexts k 0 ≡ rule_after (system_of ws) k

pub record Indexed (ws : List ℕ) (shape : Shape) (p : Places) : Type 0 where
  pub strategies : StrategiesNoted ws shape.symbols p.strategies
  pub rules : RulesNoted ws shape.rules p.rules
  pub linked : Linked ws 0 p.firsts p.nexts
