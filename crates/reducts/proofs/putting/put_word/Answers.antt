-- `putting::put_word` meets its contract: the gap is behind the words of u, and the word stands where their first did.
use mathlib.Core.Path.{refl}
use Rattle.reducts.proofs.putting.Puts.{put_one}
use Rattle.reducts.proofs.putting.put_word.Goals as goal

pub returns : goal.returns
returns c g k q none =
    put_one q c.move_gap-g.ensures refl c.requires.1 none c.requires.2
