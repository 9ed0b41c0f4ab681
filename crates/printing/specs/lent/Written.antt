-- How a text stands in a lent slice. Assumes nothing.
use Rattle.std.specs.Prelude.{ℕ, ◌+◌, ◌≤◌, ◌≡◌, List, length}
use Rattle.buffers.specs.Words.{over}

-- after a call: the bytes stand in the text from index `at` on, with room for all of them, everything else is as it was, and `end` is
-- the index just behind them
pub record Written (text : List ℕ) (at : ℕ) (bytes : List ℕ) (end : ℕ) (text' : List ℕ) : Type 0 where
  pub ends : end ≡ at + length bytes
  pub fits : end ≤ length text
  pub becomes : text' ≡ over text at bytes
