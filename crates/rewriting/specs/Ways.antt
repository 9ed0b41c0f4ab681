-- The way to a position, and what a rewrite there does to the lengths that are kept beside the words of a term (02, F-5): "beside each word stands
-- the length of the part that starts there, read from there and true after every step and every opened argument". Opening an argument leaves the
-- term, so the lengths stay. After a step those before its position stay, but for the symbols on the way to it, which grow by the difference.
use Rattle.std.specs.Prelude.{ℕ, zero, suc, ◌+◌, ◌-◌, List, [], ◌∷◌, ◌++◌, map, get_or, set}
use Rattle.system.specs.Signature.{argument}
use Rattle.system.specs.System.{System, strategy}
use Rattle.system.specs.Terms.{Member}

-- the numbers at these indices, by d less and e more
unfoldable pub raise : List ℕ → ℕ → ℕ → List ℕ → List ℕ
raise [] d e ls = ls
raise (q ∷ qs) d e ls = raise qs d e (set ls q (get_or ls q 0 - d + e))

-- `Way s t ps p`: the symbols on the way from the root to p, outermost first; each argument on it stands in the strategy of the symbol that
-- holds it ("every argument on the way to it stands in the order of the name holding it")
pub data Way (s : System) (t : List ℕ) : List ℕ → ℕ → Type 0 where
  top : Way s t [] 0
  down : {ps : List ℕ} {p : ℕ} (i : ℕ) → Way s t ps p → Member (suc i) (strategy s (get_or t p 0)) →
      Way s t (ps ++ p ∷ []) (argument s.arities t p i)

-- the numbers 1 to n
unfoldable pub up_to : ℕ → List ℕ
up_to zero = []
up_to (suc n) = up_to n ++ suc n ∷ []

-- the same symbols, each of which follows all of its arguments, without a rule: its ways lead to every index of a term, active or not. (The way to
-- the base of a machine is one of these.)
abbrev pub every_argument : System → System
every_argument s = record { arities = s.arities; strategies = map up_to s.arities; rules = [] }
