-- `expand_squares` meets its contract.
use Prim.Native.Nat.{◌<◌}
use native.Mathlib.Omega.{arith}
use Rattle.system.specs.BuiltIns.{literals}
use Rattle.demands.proofs.Square.{never-falls}
use Rattle.demands.proofs.expand_squares.Goals as goal

pub returns-clause-rises : goal.returns-clause-rises
returns-clause-rises c =
    let a = c.args in
    let e = c.expand_square-first.ensures.expanded in
    let f = c.expand_square-second.ensures.expanded in
    let low : a.m < literals = omega arith in
    let high : a.n < literals = omega arith in
    never-falls a.book.now 1 (omega arith) low high a.out.now a.work.now a.again.now a.spare.now _ _ e f
