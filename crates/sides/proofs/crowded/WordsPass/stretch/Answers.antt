-- The words of a variable's stretch are copied.
use native.Mathlib.Omega.{arith}
use Rattle.sides.proofs.crowded.FirstPass.{wording-high, words-fit, words-within, words-variable}
use Rattle.sides.proofs.crowded.WordsPass.stretch.Goals as goal

pub overflow_sub-at : goal.overflow_sub-at
overflow_sub-at c = let q = c.requires in words-fit q.4 q.3

pub move_words-requires : goal.move_words-requires
move_words-requires c =
    let q = c.requires in
    let f = words-fit q.4 q.3 in
    let h = wording-high q.4 in
    (words-within q.4 q.3, omega arith)

pub returns : goal.returns
returns c t rest rest' k v = words-variable v k c.move_words.ensures
