-- `machine::at_level` meets its contract.
use borrow.Author.Tests.{lt-ltb, le-ltb}
use native.Mathlib.Omega.{arith}
use Rattle.machine.specs.advance.Transition.{since_at}
use Rattle.machine.proofs.advance.at_level.Goals as goal

pub returns-then-floor-level : goal.returns-then-floor-level
returns-then-floor-level c = let a = c.args in rw (lt-ltb a.floor a.level (omega arith), since_at)

pub returns-else-floor-level : goal.returns-else-floor-level
returns-else-floor-level c = let a = c.args in rw (le-ltb a.floor a.level (omega arith), since_at)
