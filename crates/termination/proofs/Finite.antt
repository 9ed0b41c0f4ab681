-- Where all rules fall, every rewrite makes a term lighter: the steps of an evaluation are at most what the term loses, and a step limit of the first
-- term's weight is never used up.
use Prim.Native.Nat.{ℕ, ◌+◌, ◌≤◌, ◌<◌}
use native.Mathlib.Omega.{arith}
use mathlib.Core.Path.{◌≡◌}
use mathlib.Core.List.{List}
use lib.ListN.{length}
use Rattle.system.specs.Limits.{term_words}
use Rattle.system.specs.declared.numbers.Limit.{Limit}
use Rattle.system.specs.declared.numbers.Limit.TheVariants.{Spent}
use Rattle.system.specs.System.{System, instance}
use Rattle.system.specs.Terms.{Whole, WellFormed}
use Rattle.rewriting.specs.Trace.{Trace}
use Rattle.rewriting.specs.Evaluation.{Limits, Config, steps, finished, stopped, evaluation}
use Rattle.rewriting.specs.Rewriting.{Step, Steps, done, step}
use Rattle.rewriting.specs.Stopped.{Halts, no_steps, Stopped}
use Rattle.rewriting.proofs.Done.{path-steps, theorem-path}
use Rattle.rewriting.proofs.Contexts.{Rewrites, step-rewrites}
use Rattle.rewriting.proofs.Stopped.{stopped-path}
use Rattle.termination.specs.Weights.{Weights, weight, Falling}
use Rattle.termination.proofs.Instances.{weight-patch}
use Rattle.termination.proofs.Falls.{instance-falls}

module _ (s : System) (wf : WellFormed s) (m : Weights) (falling : Falling m s) where
  -- any rewrite, anywhere, by any rule
  pub rewrite-falls : {t t' : List ℕ} → Rewrites s t t' → weight m t' < weight m t
  rewrite-falls x =
      let f = instance-falls m s wf x.known (falling x.number x.chosen x.known) x.σ in
      rw (x.here, x.there) (weight-patch m x.before x.behind (instance x.σ x.chosen.lhs) (instance x.σ x.chosen.rhs) f)

  pub step_falls : {t t' : List ℕ} → Whole s.arities t → Step s t t' → weight m t' < weight m t
  step_falls h d = rewrite-falls (step-rewrites s wf h d)

  -- "the steps reported are at most the first cue's total weight less the answer's"
  pub steps-fall : {size n : ℕ} {t t' : List ℕ} → Whole s.arities t → Steps s size n t t' → n + weight m t' ≤ weight m t
  steps-fall h (done l) = omega arith
  steps-fall h (step l d p) = let z = step_falls h d in let z' = steps-fall d.left p in omega arith

  module _ (limits : Limits) (t : List ℕ) (h : Whole s.arities t) (l : length t ≤ term_words) where
    pub finished-falls : (r : Config) → evaluation s limits t ≡ finished r → steps r + weight m r.term ≤ weight m t
    finished-falls r e = steps-fall h (path-steps s (theorem-path s wf limits t r h l e))

    -- stopped by whatever limit: the steps are at most the first term's weight
    pub stopped-falls : (n : Limit) (k : Trace) → evaluation s limits t ≡ stopped n k → length k ≤ weight m t
    stopped-falls n k e = let z = steps-fall h (path-steps s (stopped-path s wf limits t n k h l e).path) in omega arith

    -- "an allowance of the first cue's weight is never answered with 11"
    pub never-spent : weight m t ≤ limits.steps → (k : Trace) → evaluation s limits t ≡ stopped Spent k → ⊥
    never-spent b k e = go (stopped-path s wf limits t Spent k h l e)
      where
        go : Stopped s limits t Spent k → ⊥
        go c = by c.why
          where
            by : Halts s limits c.last k Spent → ⊥
            by (no_steps d q) = let z = steps-fall h (path-steps s c.path) in let z' = step_falls c.whole d in omega arith
