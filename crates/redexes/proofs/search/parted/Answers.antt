-- `redexes::parted` meets its contract.
use mathlib.Core.Path.{sym, ◌∙◌}
use borrow.Author.Tests.{le-ltb}
use Rattle.redexes.proofs.search.Unparted.{parted-behind, parted-before}
use Rattle.redexes.proofs.search.parted.Goals as goal

pub returns-then-p-gap : goal.returns-then-p-gap
returns-then-p-gap c = let a = c.args in sym (parted-before a.gap a.p a.n c.if-p-gap.true)

pub returns-else-p-gap : goal.returns-else-p-gap
returns-else-p-gap c = let a = c.args in le-ltb a.p a.gap.front c.if-p-gap.false ∙ sym (parted-behind a.gap a.p a.n c.if-p-gap.false)
