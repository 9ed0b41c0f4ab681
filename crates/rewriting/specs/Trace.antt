-- The step record (02, F-3): "for each step two words, the step's index in the whole cue before it and the rule's number".
use Rattle.std.specs.Prelude.{ℕ, List, [], ◌∷◌}
use Rattle.buffers.specs.Words.{over}

-- a step as the record tells it: its position in the whole term before it, and its rule
pub record Pair : Type 0 where
  pub at : ℕ
  pub number : ℕ

-- the steps taken so far, the last one first
abbrev pub Trace : Type 0
Trace = List Pair

-- the words of a record: the pairs of a trace, the first step first, and ws behind them
unfoldable pub in_order : Trace → List ℕ → List ℕ
in_order [] ws = ws
in_order (d ∷ h) ws = in_order h (d.at ∷ d.number ∷ ws)

-- "the record holds the pairs of the steps reported, its other words unchanged"
unfoldable pub keep : List ℕ → Trace → List ℕ
keep words h = over words 0 (in_order h [])
