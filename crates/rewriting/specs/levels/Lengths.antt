-- Where the levels of a state stand in the term.
use Rattle.std.specs.Prelude.{ℕ, List, [], ◌∷◌}
use Rattle.system.specs.System.{System}
use Rattle.rewriting.specs.Machine.{down}

-- where the levels cs start, outermost first, from p on, without the innermost one: the symbols on the way to it
unfoldable pub above : System → List ℕ → List ℕ → ℕ → List ℕ
above s t [] p = []
above s t (c ∷ cs) p = p ∷ above s t cs (down s t p c)
