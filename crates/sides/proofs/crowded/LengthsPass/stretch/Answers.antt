-- The lengths of a variable's stretch are copied.
use native.Mathlib.Omega.{arith}
use Rattle.sides.proofs.crowded.SecondPass.{lengthening-total, lengths-fit, lengths-within, lengths-variable}
use Rattle.sides.proofs.crowded.LengthsPass.stretch.Goals as goal

pub overflow_sub-at : goal.overflow_sub-at
overflow_sub-at c = let q = c.requires in lengths-fit q.4 q.3

pub move_words-requires : goal.move_words-requires
move_words-requires c =
    let q = c.requires in
    let f = lengths-fit q.4 q.3 in
    let e = lengthening-total q.4 in
    let l = q.4.left.written in
    let h = q.4.asked.passable.high in
    let r = q.4.asked.passable.area in
    (lengths-within q.4 q.3, omega arith)

pub returns : goal.returns
returns c t rest rest' k v = lengths-variable v k c.move_words.ensures
