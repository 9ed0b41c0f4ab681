-- A symbol's length is put beside it.
use Rattle.sides.proofs.crowded.SecondPass.{lengthening-measured, lengths-room, lengths-symbol}
use Rattle.sides.proofs.crowded.LengthsPass.symbol.Goals as goal

pub push_length-requires : goal.push_length-requires
push_length-requires c = let q = c.requires in (lengthening-measured q.4, lengths-room q.4 q.3)

pub returns : goal.returns
returns c t rest rest' k v = lengths-symbol v k c.push_length.ensures.0 c.push_length.ensures.1
