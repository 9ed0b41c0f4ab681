-- The limits that a step meets before the term's length is looked at, in the terms of the code.
use Prim.Native.Nat.{ℕ, ◌+◌, ◌*◌, ◌≤◌, ◌<◌}
use native.Mathlib.Omega.{arith}
use native.Mathlib.Decide.{dec_lt}
use mathlib.Core.Path.{◌≡◌, refl, sym, subst}
use mathlib.Core.Bool.{Bool, true, false}
use borrow.Author.Tests.{lt-ltb, le-ltb, le-leb, lt-leb}
use Rattle.rewriting.specs.Evaluation.{Limits, has_room}
use Rattle.rewriting.proofs.Walks.{roomy}
use Rattle.std.specs.Prelude.{Option, Some, None}
use Rattle.system.specs.declared.numbers.Limit.{Limit}
use Rattle.system.specs.declared.numbers.Limit.TheVariants.{Spent, Full}
use Rattle.records.specs.declared.recording.Bounds.{Bounds}
use Rattle.records.specs.recording.Kept.{limits_of, met}

module _ (limits : Limits) (k : ℕ) where
  met-spent : limits.steps ≤ k → met limits k ≡ Some Spent
  unfolding met
  met-spent h = rw (le-ltb k limits.steps h, met)

  met-full : k < limits.steps → has_room limits.room k ≡ false → met limits k ≡ Some Full
  unfolding met
  met-full h f = rw (lt-ltb k limits.steps h, met) (rw f)

  met-none : k < limits.steps → has_room limits.room k ≡ true → met limits k ≡ None
  unfolding met
  met-none h f = rw (lt-ltb k limits.steps h, met) (rw f)

  -- which limit it is, and why
  pub data Meets : Option Limit → Type 0 where
    spends : limits.steps ≤ k → Meets (Some Spent)
    fills : k < limits.steps → has_room limits.room k ≡ false → Meets (Some Full)
    leaves : k < limits.steps → has_room limits.room k ≡ true → Meets None

  pub meets : Meets (met limits k)
  meets = elim (dec_lt k limits.steps) [
    | no h ↦ subst Meets (sym (met-spent (omega arith))) (spends (omega arith))
    | yes h ↦ room h (has_room limits.room k) refl
  ]
    where
      room : k < limits.steps → (b : Bool) → has_room limits.room k ≡ b → Meets (met limits k)
      room h false f = subst Meets (sym (met-full h f)) (fills h f)
      room h true f = subst Meets (sym (met-none h f)) (leaves h f)

-- ---- by the code's tests

module _ (b : Bounds) (words k : ℕ) where
  pub limit-spent : b.limit ≤ k → Some Spent ≡ met (limits_of b words) k
  limit-spent h = sym (met-spent (limits_of b words) k h)

  module _ (l : k < b.limit) where
    pub limit-full : b.recorded ≡ true → words < 2 * k + 2 → Some Full ≡ met (limits_of b words) k
    unfolding has_room
    limit-full e h = sym (met-full (limits_of b words) k l (rw e (lt-leb (2 * k + 2) words h)))

    pub limit-room : b.recorded ≡ true → 2 * k + 2 ≤ words → None ≡ met (limits_of b words) k
    unfolding has_room
    limit-room e h = sym (met-none (limits_of b words) k l (rw e (le-leb (2 * k + 2) words h)))

    pub limit-none : b.recorded ≡ false → None ≡ met (limits_of b words) k
    unfolding has_room
    limit-none e = sym (met-none (limits_of b words) k l (rw e))

  -- where no limit is met, one more pair fits
  pub pair_fits : has_room (limits_of b words).room k ≡ true → b.recorded ≡ true → 2 * k + 2 ≤ words
  pair_fits f e = roomy (limits_of b words).room k words (rw e) f
