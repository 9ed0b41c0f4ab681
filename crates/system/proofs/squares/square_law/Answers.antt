-- The table is the square law: the two lists of 256 are computed and compared, once, and an entry of the one is a value of the other.
use Rattle.system.specs.BuiltIns.{literals, square_law}
use Rattle.system.proofs.SquareLaw.{values, value-at}
use borrow.Author.Rules.{rules}
use Rattle.system.proofs.squares.square_law.Goals as goal

pub returns : goal.returns
unfolding values square_law
returns c = rw c.from.ensures (value-at square_law literals c.args.n (search rules))
