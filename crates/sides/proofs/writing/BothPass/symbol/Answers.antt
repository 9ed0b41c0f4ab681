-- A symbol and its length are put before the others.
use Rattle.sides.proofs.writing.Turns.{writes-room, writes-symbol}
use Rattle.sides.proofs.writing.BothPass.symbol.Goals as goal

pub push-requires : goal.push-requires
push-requires c = let q = c.requires in (q.4.written.onward, writes-room q.4 q.3)

pub returns : goal.returns
returns c t rest rest' k v = writes-symbol v k c.push.ensures
