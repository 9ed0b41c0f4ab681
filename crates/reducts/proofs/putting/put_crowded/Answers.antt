-- `putting::put_crowded` meets its contract: the words of u set aside, the words of the reduct; the lengths of u set aside, their lengths.
use Rattle.reducts.proofs.putting.Crowds.{first-passable, second-lengthable, crowded-written}
use Rattle.reducts.proofs.putting.put_crowded.Goals as goal

-- ---- the goals

pub write_words-requires : goal.write_words-requires
write_words-requires c = first-passable c.requires c.move_words.ensures

pub write_lengths-requires : goal.write_lengths-requires
write_lengths-requires c =
    second-lengthable c.requires c.move_words.ensures c.write_words.ensures c.move_words-2.ensures

pub returns : goal.returns
returns c =
    let l = c.write_lengths.ensures in
    crowded-written c.requires c.move_words.ensures c.write_words.ensures c.move_words-2.ensures l.0 l.1
