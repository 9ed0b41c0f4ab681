-- Rule steps anywhere in a term (02, F-8: "at every step"): what a step is without strategies and without the choice of a rule.
use Rattle.std.specs.Prelude.{ℕ, suc, ◌<◌, ◌≡◌, List, length}
use Rattle.system.specs.Signature.{replace}
use Rattle.system.specs.System.{System, Rule, instance}
use Rattle.system.specs.Rules.{RuleOf}
use Rattle.matching.specs.Matching.{Matches}

-- one step from t to t' with any rule that matches, at any position, active or not
pub record AnyStep (s : System) (t t' : List ℕ) : Type 0 where
  pub at : ℕ
  pub number : ℕ
  pub chosen : Rule
  pub within : at < length t
  pub known : RuleOf s number chosen
  pub match : Matches s.arities t at chosen
  pub next : t' ≡ replace s.arities t at (instance match.σ chosen.rhs)

-- `AnySteps s n t t'`: n such steps lead from t to t', with no bound on the terms' lengths
pub data AnySteps (s : System) : ℕ → List ℕ → List ℕ → Type 0 where
  done : {t : List ℕ} → AnySteps s 0 t t
  step : {n : ℕ} {t t' t'' : List ℕ} → AnyStep s t t' → AnySteps s n t' t'' → AnySteps s (suc n) t t''
