-- Active positions, found by computing: one pass over the words.
use Rattle.std.specs.Prelude.{ℕ, zero, suc, Bool, true, false, ◌&&◌, List, [], ◌∷◌, ◌++◌}
use Rattle.system.specs.Signature.{arity}
use Rattle.system.specs.System.{System, strategy}
use Rattle.system.specs.Terms.{among}

-- for each of k arguments, the first of which has i others before it, whether it is active, where b says whether its symbol is:
-- "every argument on the way to it stands in the order of the name holding it"
unfoldable pub flags : Bool → List ℕ → ℕ → ℕ → List Bool
flags b es i zero = []
flags b es i (suc k) = (b && among (suc i) es) ∷ flags b es (suc i) k

-- after q words of t: for each subterm that is still to come, in reading order, whether it is active
unfoldable pub pending : System → List ℕ → List Bool → ℕ → List Bool
pending s t bs zero = bs
pending s [] bs (suc q) = []
pending s (w ∷ ws) [] (suc q) = []
pending s (w ∷ ws) (b ∷ bs) (suc q) = pending s ws (flags b (strategy s w) 0 (arity s.arities w) ++ bs) q

-- whether the next of them is
abbrev pub front : List Bool → Bool
front [] = false
front (b ∷ bs) = b

-- whether the position q of t is active; "index 0 always is"
unfoldable pub active_at : System → List ℕ → ℕ → Bool
active_at s t q = front (pending s t (true ∷ []) q)
