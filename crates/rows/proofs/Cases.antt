-- The definitions on a case by hand: with z 0, s(x) 1 and add(x, y) 2, the lengths of add(s(z), z), and the same words with a gap of two before the third.
use mathlib.Core.Path.{◌≡◌, refl}
use mathlib.Core.List.{[], ◌∷◌}
use Rattle.system.specs.Signature.{arity, span}
use Rattle.rows.specs.Rows.{closed}
use Rattle.rows.specs.gap.Gaps.{slot_of}
use Rattle.system.specs.Spans.{spans}

pub lengths-case : spans (0 ∷ 1 ∷ 2 ∷ []) (2 ∷ 1 ∷ 0 ∷ 0 ∷ []) ≡ 4 ∷ 2 ∷ 1 ∷ 1 ∷ []
unfolding spans span arity
lengths-case = refl

pub gap-case : closed (record { front = 2; back = 4 }) (2 ∷ 1 ∷ 7 ∷ 7 ∷ 0 ∷ 0 ∷ []) ≡ 2 ∷ 1 ∷ 0 ∷ 0 ∷ []
unfolding closed
gap-case = refl

-- word 1 stands before the gap, word 2 behind it
pub slot-case : (slot_of (record { front = 2; back = 4 }) 1 ≡ 1) × (slot_of (record { front = 2; back = 4 }) 2 ≡ 4)
unfolding slot_of
slot-case = (refl, refl)
