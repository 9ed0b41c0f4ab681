-- `gap::move_back` meets its contract.
use mathlib.Core.Path.{◌≡◌}
use Prim.Native.Nat.{◌+◌, ◌-◌}
use native.Mathlib.Omega.{arith}
use Rattle.rows.proofs.gap.Moves.{moved_back}
use Rattle.rows.proofs.gap.move_back.Goals as goal

pub returns : goal.returns
returns c =
    let a = c.args in
    let p = c.requires in
    let low = p.0.lies.low in
    let n = a.gap.front - a.to in
    let b = a.gap.back - n in
    let ef : a.to + n ≡ a.gap.front = omega (arith, p.1) in
    let eb : b + n ≡ a.gap.back = omega (arith, low) in
    moved_back a.area.now _ _ a.gap (record { front = a.to; back = b }) n p.0 ef eb c.move_words.ensures c.move_words-2.ensures
