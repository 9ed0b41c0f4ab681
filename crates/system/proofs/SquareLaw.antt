-- The square law (02, F-4): a table of a function's values, that what a level becomes is a level, and that it never falls.
use Prim.Native.Nat.{ℕ, zero, suc, ◌+◌, ◌*◌, ◌/◌, ◌≤◌, ◌<◌}
use native.Mathlib.Nat.{zero-add, add-zero, add-suc, suc-add, mul-le-mul}
use native.Mathlib.Omega.{arith}
use mathlib.Core.Path.{◌≡◌, sym, ap, ◌∙◌}
use mathlib.Core.List.{List, [], ◌∷◌}
use lib.ListN.{get_or}
use Rattle.system.specs.BuiltIns.{literals, square_law}

-- ---- a table

-- the k values of f from i on
unfoldable pub values : (ℕ → ℕ) → ℕ → ℕ → List ℕ
values f i zero = []
values f i (suc k) = f i ∷ values f (suc i) k

value-from : (f : ℕ → ℕ) (i k n : ℕ) → n < k → get_or (values f i k) n 0 ≡ f (i + n)
unfolding values
value-from f i zero n h = absurd (omega arith)
value-from f i (suc k) zero h = ap f (sym (add-zero i))
value-from f i (suc k) (suc n) h = value-from f (suc i) k n (omega arith) ∙ ap f (suc-add i n ∙ sym (add-suc i n))

-- entry n of a table of k values is the value at n
pub value-at : (f : ℕ → ℕ) (k n : ℕ) → n < k → get_or (values f 0 k) n 0 ≡ f n
value-at f k n h = value-from f 0 k n h ∙ ap f (zero-add n)

-- ---- the square law

square-bound : (n : ℕ) → n < literals → n * n ≤ 65025
square-bound n h = mul-le-mul {n₁ = n} {m₁ = n} {n₂ = 255} {m₂ = 255} (omega arith) (omega arith)

-- what a level becomes is a level
pub square-below : (n : ℕ) → n < literals → square_law n < literals
unfolding square_law
square-below n h = let b = square-bound n h in omega arith

-- 128 for 127 is the same law: no square leaves 127 by 255 (by 5 it would leave 2), so that no level lies between the two
pub square-128 : (n : ℕ) → n < literals → (n * n + 128) / 255 ≡ square_law n
unfolding values square_law
square-128 n h = sym (value-at (λ n. (n * n + 128) / 255) literals n h) ∙ value-at square_law literals n h

-- "It never falls from one level to the next", and so from no level to a higher one
pub square-rises : {m n : ℕ} → m ≤ n → square_law m ≤ square_law n
unfolding square_law
square-rises {m} {n} h = let b : m * m ≤ n * n = mul-le-mul {n₁ = m} {m₁ = m} {n₂ = n} {m₂ = n} h h in omega arith
