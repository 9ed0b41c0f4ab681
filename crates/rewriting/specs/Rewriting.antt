-- The words of demand 3: active positions and steps (with `Matches` and `subterm` of the layers below).
-- "Place, part, active, fits and step are settled by book and cue alone, never by what the expander keeps": no evaluation is named here.
use Rattle.std.specs.Prelude.{ℕ, suc, ◌≤◌, ◌<◌, ◌≡◌, List, [], ◌∷◌, length, get_or}
use Rattle.system.specs.Signature.{argument, replace}
use Rattle.system.specs.System.{System, Rule, instance, strategy}
use Rattle.system.specs.Rules.{RuleOf}
use Rattle.system.specs.Terms.{Whole, Member}
use Rattle.matching.specs.Matching.{Matches}
use Rattle.rewriting.specs.Trace.{Trace}

-- "A place is active if every argument on the way to it stands in the order of the name holding it; index 0 always is"
pub data Active (s : System) (t : List ℕ) : ℕ → Type 0 where
  root : Active s t 0
  below : {p : ℕ} (i : ℕ) → Active s t p → Member (suc i) (strategy s (get_or t p 0)) → Active s t (argument s.arities t p i)

-- one step from t to t'
pub record Step (s : System) (t t' : List ℕ) : Type 0 where
  -- "A place in a cue is the index of one of its words", here an active one; a rule and its number
  pub at : ℕ
  pub number : ℕ
  pub chosen : Rule
  pub within : at < length t
  pub known : RuleOf s number chosen
  pub active : Active s t at
  -- "The first rule that fits is the lowest-numbered"
  pub match : Matches s.arities t at chosen
  pub lowest : (k : ℕ) (r : Rule) → RuleOf s k r → k < number → Matches s.arities t at r → ⊥
  -- "A step with it puts the same filling's instance of its right side for that part, keeps all other words, and leaves a whole cue"
  pub next : t' ≡ replace s.arities t at (instance match.σ chosen.rhs)
  pub left : Whole s.arities t'

-- `Steps s size n t t'`: a list of exactly n steps that leads from t to t', in which no term has more than `size` words
pub data Steps (s : System) (size : ℕ) : ℕ → List ℕ → List ℕ → Type 0 where
  done : {t : List ℕ} → length t ≤ size → Steps s size 0 t t
  step : {n : ℕ} {t t' t'' : List ℕ} → length t ≤ size → Step s t t' → Steps s size n t' t'' → Steps s size (suc n) t t''

-- `Path s size t₀ h t`: the steps that lead from t₀ to t are those that the trace h tells of, each by its position and its rule; no term in
-- that list has more than `size` words
pub data Path (s : System) (size : ℕ) (t₀ : List ℕ) : Trace → List ℕ → Type 0 where
  begin : length t₀ ≤ size → Path s size t₀ [] t₀
  then : {h : Trace} {t t' : List ℕ} → Path s size t₀ h t → (d : Step s t t') → length t' ≤ size →
      Path s size t₀ (record { at = d.at; number = d.number } ∷ h) t'
