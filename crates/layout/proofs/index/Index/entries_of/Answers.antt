-- `Index::entries_of` meets its contract.
use Prim.Native.Nat.{◌+◌, ◌-◌, ◌≤◌}
use native.Mathlib.Omega.{arith}
use mathlib.Core.Path.{◌≡◌}
use lib.ListN.{get_or}
use Rattle.system.specs.Limits.{max_symbols}
use Rattle.layout.specs.index.Accepted.{StrategyAt}
use Rattle.layout.proofs.Suffixes.{symbols-few}
use Rattle.layout.proofs.index.Index.entries_of.Goals as goal
use Rattle.layout.proofs.index.Index.entries_of.Goals.{Start}

few : (c : Start) → c.args.self.now.book.shape.symbols ≤ max_symbols
few c = symbols-few c.args.self.now.book.words.now c.args.self.now.book.shape c.args.self.now.book.accepted

pub offset_bounds-self-f : goal.offset_bounds-self-f
offset_bounds-self-f c = let n = few (goal.at.offset_bounds-self-f c).Start in omega arith

pub bounds-self-f : goal.bounds-self-f
bounds-self-f c = let n = few (goal.at.bounds-self-f c).Start in let slots = c.args.self.now.indexed.strategies.slots in omega arith

pub returns : goal.returns
returns c =
    let at = c.wide-at.result in
    let n = c.wide.result in
    let s : StrategyAt c.args.self.now.book.words.now c.args.f at = rw c.wide-at.ensures.0 (c.args.self.now.indexed.strategies.stands c.args.f c.requires) in
    let z : at + 1 + n - (at + 1) ≡ get_or c.args.self.now.book.words.now at 0 = omega arith in
    rw z s.entries
