-- `recording::limit_met` meets its contract.
use native.Mathlib.Omega.{arith}
use Rattle.records.proofs.Limiting.{limit-spent, limit-full, limit-room, limit-none}
use Rattle.records.proofs.recording.limit_met.Goals as goal
use Rattle.records.proofs.recording.limit_met.Goals.{else-bounds-via-then-bounds+else-words-k, else-bounds-via-else-bounds}

pub returns-then-bounds-k : goal.returns-then-bounds-k
returns-then-bounds-k c = let a = c.args in record {
  limit = limit-spent a.bounds a.words a.k c.if-bounds-k.true;
  counted = tt;
}

pub returns-then-words-k : goal.returns-then-words-k
returns-then-words-k c =
    let a = c.args in
    record {
      limit = limit-full a.bounds a.words a.k (omega (arith, c.if-bounds-k.false)) c.if-bounds.true c.if-words-k.true;
      counted = tt;
    }

pub returns-clause-limit : goal.returns-clause-limit
returns-clause-limit c =
    let a = c.args in
    elim c.else-bounds.branch [
      | else-bounds-via-then-bounds+else-words-k w ↦ limit-room a.bounds a.words a.k c.if-bounds-k.false w.if-bounds.true w.if-words-k.false
      | else-bounds-via-else-bounds w ↦ limit-none a.bounds a.words a.k c.if-bounds-k.false w.if-bounds.false
    ]
