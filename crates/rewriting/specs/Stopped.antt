-- What is promised of an evaluation that a limit stops (11, 12, 13, and 16 where a record is lent): the steps that it reports lead from the first
-- term to one of at most 4,096 words, and that limit is the one it meets there.
use Rattle.std.specs.Prelude.{ℕ, suc, ◌*◌, ◌≤◌, ◌<◌, ◌≡◌, true, false, List, ◌∷◌, length, get_or}
use Rattle.std.proofs.Math.Option.{some}
use Rattle.system.specs.Limits.{term_words, levels}
use Rattle.system.specs.declared.numbers.Limit.{Limit}
use Rattle.system.specs.declared.numbers.Limit.TheVariants.{Spent, Overlong, Nested, Full}
use Rattle.system.specs.System.{System, Rule, strategy}
use Rattle.system.specs.Rules.{RuleOf}
use Rattle.system.specs.Terms.{Whole}
use Rattle.matching.specs.Matching.{Matches}
use Rattle.rewriting.specs.Trace.{Trace}
use Rattle.rewriting.specs.Evaluation.{Limits, has_room}
use Rattle.rewriting.specs.Rewriting.{Active, root, below, Step, Path}

-- at which level an active position is evaluated: "The whole cue starts at level 1", "Entry i evaluates argument i at level L + 1"
unfoldable pub level_of : {s : System} {t : List ℕ} {p : ℕ} → Active s t p → ℕ
level_of root = 1
level_of (below i a st) = suc (level_of a)

-- `Opens s t p es i`: of the entries es, followed at p, the next thing to do is to evaluate the argument with i others before it. Each entry before
-- it is a 0, and no rule matches at p ("If none fits, go on")
pub data Opens (s : System) (t : List ℕ) (p : ℕ) : List ℕ → ℕ → Type 0 where
  first : {i : ℕ} {es : List ℕ} → Opens s t p (suc i ∷ es) i
  past : {i : ℕ} {es : List ℕ} → ((k : ℕ) (r : Rule) → RuleOf s k r → Matches s.arities t p r → ⊥) → Opens s t p es i →
      Opens s t p (0 ∷ es) i

-- which limit is met at the term t, after the steps of the trace h, and why
pub data Halts (s : System) (limits : Limits) (t : List ℕ) (h : Trace) : Limit → Type 0 where
  -- 11, "one more step would pass the allowance": a rule matches at an active position, and as many steps are taken as the limit allows
  no_steps : {t' : List ℕ} → Step s t t' → length h ≡ limits.steps → Halts s limits t h Spent
  -- 16, "when a step finds fewer than two words left in the record, between 11 and 12"
  no_room : {t' : List ℕ} → Step s t t' → length h < limits.steps → has_room limits.room (length h) ≡ false → Halts s limits t h Full
  -- 12, "the step would leave the whole cue above 4,096 words"
  too_long : {t' : List ℕ} → Step s t t' → length h < limits.steps → has_room limits.room (length h) ≡ true → term_words < length t' →
      Halts s limits t h Overlong
  -- 13, "an argument would be opened from level 64": at an active position of that level the strategy has an argument next
  too_deep : {p i : ℕ} (a : Active s t p) → level_of a ≡ levels → Opens s t p (strategy s (get_or t p 0)) i → Halts s limits t h Nested

-- an evaluation of t₀ that limit l stopped after the steps of the trace h. "No cue past 4,096 words": none in that list has more; the step limit
-- allows these steps, and a record has room for their pairs
pub record Stopped (s : System) (limits : Limits) (t₀ : List ℕ) (l : Limit) (h : Trace) : Type 0 where
  pub last : List ℕ
  pub path : Path s term_words t₀ h last
  pub whole : Whole s.arities last
  pub afford : length h ≤ limits.steps
  pub roomy : (m : ℕ) → limits.room ≡ some m → 2 * length h ≤ m
  pub why : Halts s limits last h l
