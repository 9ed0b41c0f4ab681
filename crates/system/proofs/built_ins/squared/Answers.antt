-- The level of the word, what it becomes, and the word of that.
use Prim.Native.Nat.{◌+◌}
use native.Mathlib.Omega.{arith}
use mathlib.Core.Path.{ap, ◌∙◌}
use borrow.Author.Rules.{rules}
use Rattle.system.specs.BuiltIns.{literal}
use Rattle.system.proofs.BuiltIns.{is-literal}
use Rattle.system.proofs.built_ins.squared.Goals as goal

pub overflow_sub-level : goal.overflow_sub-level
overflow_sub-level c = let low = (is-literal c.args.w c.requires).0 in omega arith

pub overflow_cast-level : goal.overflow_cast-level
overflow_cast-level c = let below = (is-literal c.args.w c.requires).1 in search (rules, below)

pub returns : goal.returns
returns c = ap (λ n. literal + n) (c.from-2.ensures ∙ rw (← c.from.ensures) c.square_law.ensures)
