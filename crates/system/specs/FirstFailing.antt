-- What a test of a book's names or rules looks for: the lowest-numbered one that fails.
use Rattle.std.specs.Prelude.{ℕ, zero, suc, Bool, cond}
use Rattle.std.proofs.Math.Option.{Option, none, some}

-- the lowest of the n numbers from k on that fails a test; none where all pass
unfoldable pub first_failing : (ℕ → Bool) → ℕ → ℕ → Option ℕ
first_failing test k zero = none
first_failing test k (suc n) = cond (test k) (first_failing test (suc k) n) (some k)
