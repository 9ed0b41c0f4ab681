-- A term rewriting system with local strategies (01: a show book).
use Rattle.std.specs.Prelude.{ℕ, ◌-◌, List, [], ◌∷◌, ◌++◌, cond, get_or, ltb}
use Rattle.system.specs.Limits.{variable}
use Rattle.system.specs.BuiltIns.{built_in_strategy}
use Rattle.system.specs.Signature.{Signature}

-- a rewrite rule: its left and its right side
pub record Rule : Type 0 where
  pub lhs : List ℕ
  pub rhs : List ℕ

-- the symbols' arities, their strategies (01: orders), and the rules in book order
pub record System : Type 0 where
  pub arities : Signature
  pub strategies : List (List ℕ)
  pub rules : List Rule

-- the strategy of a symbol: of a word that is not listed the built-in one, and what is no symbol has none
unfoldable pub strategy : System → ℕ → List ℕ
strategy s w = get_or s.strategies w (built_in_strategy w)

abbrev pub no_rule : Rule
no_rule = record { lhs = []; rhs = [] }

-- rule number k of those that the book lists
abbrev pub rule : System → ℕ → Rule
rule s k = get_or s.rules k no_rule

-- the first word
abbrev pub head : List ℕ → ℕ
head ws = get_or ws 0 0

-- a side with each variable filled (01: an instance)
unfoldable pub instance : (ℕ → List ℕ) → List ℕ → List ℕ
instance σ [] = []
instance σ (w ∷ ws) = cond (ltb w variable) (w ∷ []) (σ (w - variable)) ++ instance σ ws
