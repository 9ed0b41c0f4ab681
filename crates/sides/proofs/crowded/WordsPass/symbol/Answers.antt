-- A symbol's word is written.
use native.Mathlib.Omega.{arith}
use Rattle.sides.proofs.crowded.FirstPass.{wording-high, words-room, words-symbol}
use Rattle.sides.proofs.crowded.WordsPass.symbol.Goals as goal

pub overflow_sub-at : goal.overflow_sub-at
overflow_sub-at c = let q = c.requires in let r = words-room q.4 q.3 in omega arith

pub bounds-area-at : goal.bounds-area-at
bounds-area-at c = let q = c.requires in let r = words-room q.4 q.3 in let h = wording-high q.4 in omega arith

pub returns : goal.returns
returns c t rest rest' k v = words-symbol v k
