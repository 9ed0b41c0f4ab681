-- The lowest rule of a book that fails a test: that at which `position` over the rules stops.
use Prim.Native.Nat.{ℕ, ◌<◌}
use native.Mathlib.Omega.{arith}
use mathlib.Core.Path.{◌≡◌}
use mathlib.Core.Bool.{Bool, true, false}
use mathlib.Core.Option.{none, some}
use lib.ListN.{length}
use Rattle.std.specs.Prelude.{Option, Some, None, MatchOption}
use Rattle.std.specs.List.{AllWithin, HoldsAt}
use Rattle.system.specs.FirstFailing.{first_failing}
use Rattle.system.specs.System.{System, Rule, rule, no_rule}
use Rattle.system.proofs.FirstFailing.{all_none, lowest-some}

module _ (test : Rule → Bool) (s : System) where
  abbrev fails : ℕ → Bool
  fails k = test (rule s k)

  abbrev Passes : Rule → Type 0
  Passes r = test r ≡ true

  pub first-position : (o : Option ℕ) →
      MatchOption o (AllWithin Passes s.rules 0 (length s.rules)) (λ k. (k < length s.rules) × HoldsAt (λ r. test r ≡ false) s.rules k × AllWithin Passes s.rules 0 k) →
      MatchOption o (first_failing fails 0 (length s.rules) ≡ none) (λ k. first_failing fails 0 (length s.rules) ≡ some k)
  first-position None h = all_none fails 0 (length s.rules) (λ j a b. h j no_rule a (omega arith))
  first-position (Some k) h = lowest-some fails 0 (length s.rules) (record {
    least = omega arith;
    inside = (let z = h.0 in omega arith);
    fails = h.1 no_rule;
    lower = λ j a b. h.2 j no_rule a b;
  })
