-- Where a stretch of the redex stands in the area.
use Prim.Native.Nat.{ℕ, ◌+◌, ◌≤◌, ◌<◌}
use mathlib.Core.Path.{◌≡◌, ap}
use mathlib.Core.Bool.{cond}
use borrow.Author.Tests.{lt-ltb, le-ltb}
use Rattle.sides.specs.declared.writing.Source.{Source}
use Rattle.sides.specs.writing.Reduct.{stretch_at}

pub stretch-before : (source : Source) (i : ℕ) → i < source.end → stretch_at source i ≡ source.base + i
unfolding stretch_at
stretch-before source i h = ap (λ b. cond b (source.base + i) (source.later + i)) (lt-ltb i source.end h)

pub stretch-later : (source : Source) (i : ℕ) → source.end ≤ i → stretch_at source i ≡ source.later + i
unfolding stretch_at
stretch-later source i h = ap (λ b. cond b (source.base + i) (source.later + i)) (le-ltb i source.end h)
