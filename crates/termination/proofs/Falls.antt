-- A rule that falls makes every instance of it lighter, and the built-in rules fall.
use Prim.Native.Nat.{ℕ, ◌+◌, ◌≤◌, ◌<◌}
use native.Mathlib.Omega.{arith}
use mathlib.Core.Path.{◌≡◌, refl, ◌∙◌}
use mathlib.Core.List.{List, [], ◌∷◌}
use lib.ListN.{length}
use Rattle.system.specs.Limits.{variable, variables}
use Rattle.system.specs.BuiltIns.{literal, literals, maximum, minimum, square, is_literal, is_built_in, larger, smaller, square_law}
use Rattle.system.specs.System.{System, Rule, rule, instance}
use Rattle.system.specs.Rules.{BuiltIn, max, min, sqr, RuleOf, listed, built_in}
use Rattle.system.specs.Terms.{Member, WellFormed}
use Rattle.system.proofs.BuiltIns.{literal-is, larger-below, smaller-below}
use Rattle.system.proofs.SquareLaw.{square-below}
use Rattle.system.proofs.Members.{numbered_below}
use Rattle.system.proofs.Rules.{built-plain, rule-formed}
use Rattle.termination.specs.Weights.{Weights, built_in_weight, word_weight, weight, Falls, Falling}
use Rattle.termination.proofs.Words.{weight-builtin, builtin-literal, weight-cons, weight-nil}
use Rattle.termination.proofs.Instances.{shared-le, weight-instance}
use Rattle.system.proofs.Occurrences.{occurs-none}

-- ---- an instance of the right side is lighter than that of the left side

-- of sides whose variables are numbered below n: no more is asked of the left side, which may hold a variable twice (F-7)
sides-fall : (m : Weights) (n : ℕ) → n ≤ variables → (r : Rule) →
    ((w : ℕ) → Member w r.lhs → w < variable + n) → ((w : ℕ) → Member w r.rhs → w < variable + n) → Falls m r → (σ : ℕ → List ℕ) →
    weight m (instance σ r.rhs) < weight m (instance σ r.lhs)
sides-fall m n few r left right f σ =
    let a = weight-instance m σ n r.lhs left in
    let b = weight-instance m σ n r.rhs right in
    let c = shared-le m σ n r.rhs r.lhs (λ v k. f.kept v (omega arith)) in
    let d = f.lighter in
    omega arith

module _ (m : Weights) (s : System) (wf : WellFormed s) where
  pub instance-falls : {k : ℕ} {r : Rule} → RuleOf s k r → Falls m r → (σ : ℕ → List ℕ) → weight m (instance σ r.rhs) < weight m (instance σ r.lhs)
  instance-falls {k} {r} d f σ =
      let law = rule-formed s wf d in
      sides-fall m law.count law.variable_bound r (λ w st. numbered_below law.numbered st) law.known f σ

-- ---- the built-in rules

module _ (m : Weights) where
  -- an operator weighs one, literals nothing
  literal-light : (n : ℕ) → n < literals → word_weight m (literal + n) ≡ 0
  literal-light n h = weight-builtin m (literal + n) (omega arith) ∙ builtin-literal (literal + n) (literal-is n h)

  two-literals : (f a b : ℕ) → literal ≤ f → built_in_weight f ≡ 1 → a < literals → b < literals → weight m (f ∷ (literal + a) ∷ (literal + b) ∷ []) ≡ 1
  two-literals f a b l e h k =
      rw (weight-cons m f ((literal + a) ∷ (literal + b) ∷ []), weight-cons m (literal + a) ((literal + b) ∷ []), weight-cons m (literal + b) [], weight-nil m)
      (let z = weight-builtin m f l ∙ e in let y = literal-light a h in let x = literal-light b k in omega arith)

  one-literal : (f a : ℕ) → literal ≤ f → built_in_weight f ≡ 1 → a < literals → weight m (f ∷ (literal + a) ∷ []) ≡ 1
  one-literal f a l e h =
      rw (weight-cons m f ((literal + a) ∷ []), weight-cons m (literal + a) [], weight-nil m)
      (let z = weight-builtin m f l ∙ e in let y = literal-light a h in omega arith)

  literal-alone : (n : ℕ) → n < literals → weight m ((literal + n) ∷ []) ≡ 0
  literal-alone n h = rw (weight-cons m (literal + n) [], weight-nil m) (let z = literal-light n h in omega arith)

  operator-weights : (built_in_weight maximum ≡ 1) × (built_in_weight minimum ≡ 1) × (built_in_weight square ≡ 1)
  unfolding built_in_weight is_literal is_built_in
  operator-weights = (refl, refl, refl)

  built-lighter : {k : ℕ} {r : Rule} → BuiltIn k r → weight m r.rhs < weight m r.lhs
  built-lighter (max {m = a} {n = b} h k) =
      let l = two-literals maximum a b (omega arith) operator-weights.0 h k in
      let r = literal-alone (larger a b) (larger-below a b literals h k) in
      omega arith
  built-lighter (min {m = a} {n = b} h k) =
      let l = two-literals minimum a b (omega arith) operator-weights.1 h k in
      let r = literal-alone (smaller a b) (smaller-below a b literals h k) in
      omega arith
  built-lighter (sqr {n} h) =
      let l = one-literal square n (omega arith) operator-weights.2 h in
      let r = literal-alone (square_law n) (square-below n h) in
      omega arith

  -- BUILT-IN RULES FALL, whatever the list
  pub builtin-falls : {k : ℕ} {r : Rule} → BuiltIn k r → Falls m r
  builtin-falls {k} {r} d = record {
    lighter = built-lighter d;
    kept = λ v l. let z = occurs-none (variable + v) r.rhs (λ st. let y = built-plain d (variable + v) st in omega arith) in omega arith;
  }

-- so all rules fall where the listed ones do
pub all-fall : (m : Weights) (s : System) → ((k : ℕ) → k < length s.rules → Falls m (rule s k)) → Falling m s
all-fall m s h k r (listed l) = h k l
all-fall m s h k r (built_in d) = builtin-falls m d
