-- `lengths::copy` meets its contract: two moves, and what follows a whole subterm does not count in its lengths.
use Rattle.rows.proofs.lengths.Writes.{written-copy}
use Rattle.rows.proofs.lengths.copy.Goals as goal

-- ---- the goals

pub returns : goal.returns
returns c g gap h =
    let a = c.args in
    written-copy c.requires.2 c.requires.3 h c.move_words.ensures c.move_words-2.ensures
