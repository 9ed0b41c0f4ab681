-- `cue_replay` meets its contract.
use Rattle.cue_replay.proofs.cue_replay.Goals as goal

pub returns : goal.returns
returns c =
    let e = c.into.ensures in
    let t = c.replay.ensures in
    record { replayed = rw e t.replayed; exact = rw e t.exact; mistold = rw e t.mistold }
