-- Where the strategies and the rules of an accepted book stand.
use Rattle.std.specs.Prelude.{ℕ, ◌+◌, ◌<◌, ◌≡◌, List, ◌∷◌, ◌++◌, length, get_or, take, drop}
use Rattle.system.specs.System.{System, strategy}
use Rattle.reader.specs.Format.{encode_strategies, encode_rules}
use Rattle.reader.specs.Book.{system_of}

-- the strategy of f stands at the index `at`: its length, and its entries after it
pub record StrategyAt (ws : List ℕ) (f at : ℕ) : Type 0 where
  pub fits : at + get_or ws at 0 < length ws
  pub entries : take (get_or ws at 0) (drop (at + 1) ws) ≡ strategy (system_of ws) f

-- the last words of a book: the strategies of symbol k and of those after it, then the rules
abbrev pub suffix_from : System → ℕ → List ℕ
suffix_from s k = encode_strategies (drop k s.strategies) ++ (length s.rules ∷ encode_rules s.rules)

-- the strategy of symbol k stands at the index `at`, and what has to follow it does. (That its own words stand there would not do:
-- other places in the book may hold the same words, and the next strategy would not be found from there.)
pub record SuffixAt (ws : List ℕ) (k at : ℕ) : Type 0 where
  pub words : drop at ws ≡ suffix_from (system_of ws) k

-- rule k stands at the index `at`, and those after it follow
pub record RulesAt (ws : List ℕ) (k at : ℕ) : Type 0 where
  pub words : drop at ws ≡ encode_rules (drop k (system_of ws).rules)
