-- The words of a system (01: "The show book"): three sections, each after its count.
use Rattle.std.specs.Prelude.{ℕ, List, [], ◌∷◌, ◌++◌, length}
use Rattle.system.specs.System.{System, Rule}

-- a list after its length
unfoldable pub encode_list : List ℕ → List ℕ
encode_list ws = length ws ∷ ws

unfoldable pub encode_strategies : List (List ℕ) → List ℕ
encode_strategies [] = []
encode_strategies (es ∷ ess) = encode_list es ++ encode_strategies ess

unfoldable pub encode_rules : List Rule → List ℕ
encode_rules [] = []
encode_rules (r ∷ rs) = encode_list r.lhs ++ (encode_list r.rhs ++ encode_rules rs)

-- names, orders, rules
unfoldable pub encode : System → List ℕ
encode s = encode_list s.arities ++ (length s.strategies ∷ encode_strategies s.strategies ++ (length s.rules ∷ encode_rules s.rules))
