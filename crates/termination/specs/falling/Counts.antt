-- How often each variable stands in a side of a rule.
use Rattle.std.specs.Prelude.{ℕ, ◌+◌, ◌<◌, ◌≡◌, List, length, get_or}
use Rattle.system.specs.Limits.{variable, variables}
use Rattle.system.specs.Terms.{occurs}

-- for each variable, at its number, how often it stands in the words
pub record Counts (ws counts : List ℕ) : Type 0 where
  pub total : length counts ≡ variables
  pub each : (v : ℕ) → v < variables → get_or counts v 0 ≡ occurs (variable + v) ws
