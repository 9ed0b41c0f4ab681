-- `gap::move_on` meets its contract.
use mathlib.Core.Path.{◌≡◌, refl}
use Prim.Native.Nat.{◌+◌, ◌-◌, ◌≤◌}
use native.Mathlib.Omega.{arith}
use Rattle.system.specs.Limits.{term_words}
use Rattle.rows.specs.declared.gap.Gap.{Gap}
use Rattle.rows.proofs.gap.Moves.{moved_on}
use Rattle.rows.proofs.gap.move_on.Goals as goal

pub returns : goal.returns
returns c =
    let a = c.args in
    let p = c.requires in
    let high = p.0.lies.high in
    let n = a.to - a.gap.front in
    let g' : Gap = record { front = a.to; back = a.gap.back + n } in
    let ef : a.gap.front + n ≡ a.to = omega (arith, p.1) in
    let high' : a.gap.back + n ≤ term_words = omega (arith, p.1, p.2, high) in
    moved_on a.area.now _ _ a.gap g' n p.0 ef refl high' c.move_words.ensures c.move_words-2.ensures
