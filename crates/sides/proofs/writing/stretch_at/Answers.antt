-- `writing::stretch_at` meets its contract.
use mathlib.Core.Path.{sym}
use Rattle.sides.proofs.writing.Places.{stretch-before, stretch-later}
use Rattle.sides.proofs.writing.stretch_at.Goals as goal

pub returns-then-i-source : goal.returns-then-i-source
returns-then-i-source c = let a = c.args in sym (stretch-before a.source a.i c.if-i-source.true)

pub returns-else-i-source : goal.returns-else-i-source
returns-else-i-source c = let a = c.args in sym (stretch-later a.source a.i c.if-i-source.false)
