use mathlib.Core.Path.{refl}
use Rattle.steps.proofs.steps.Raising.{raising-start, raising-end, raising-asks, raising-next}
use Rattle.steps.proofs.steps.raise.Goals as goal

pub loop-q-init : goal.loop-q-init
loop-q-init c = let a = c.args in raising-start a.area.now a.way.now a.width a.size

pub raise_at-requires : goal.raise_at-requires
raise_at-requires c = raising-asks c.requires c.loop-q.invariant c.loop-q-test.true _ refl

pub loop-q-preserved : goal.loop-q-preserved
loop-q-preserved c = raising-next c.requires c.loop-q.invariant c.loop-q-test.true _ refl c.raise_at.ensures

pub returns : goal.returns
returns c = raising-end c.requires c.loop-q.invariant c.loop-q-test.false
