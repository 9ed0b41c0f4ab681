-- Where all rules pass, every rewrite keeps a well-sorted term well-sorted, and its sort: of rewrites anywhere, and of lists of steps.
use Prim.Native.Nat.{ℕ}
use mathlib.Core.Path.{subst}
use mathlib.Core.List.{List}
use Rattle.system.specs.System.{System}
use Rattle.system.specs.Terms.{Whole, WellFormed}
use Rattle.system.proofs.Signatures.{few-symbols}
use Rattle.system.proofs.Rules.{rule-formed}
use Rattle.rewriting.specs.Rewriting.{Steps, done, step}
use Rattle.rewriting.specs.Anywhere.{AnyStep, AnySteps}
use Rattle.rewriting.specs.Anywhere.AnySteps.{done as no_more, step as one_more}
use Rattle.rewriting.proofs.Contexts.{Rewrites, step-rewrites, any-rewrites}
use Rattle.sorts.specs.Sorts.{Sorts, Sorted, SortedTerm, WellSorted}
use Rattle.sorts.proofs.Subjects.{subject}

module _ (s : System) (wf : WellFormed s) (ks : Sorts) (sorted : WellSorted ks s) where
  -- SUBJECT REDUCTION: any rewrite, by any rule that matches, anywhere in a term
  pub rewrite-keeps : {t t' es : List ℕ} (τ : ℕ → ℕ) → Rewrites s t t' → Sorted s.arities ks τ es t → Sorted s.arities ks τ es t'
  rewrite-keeps {es} τ x h =
      rw x.there (subject s.arities (few-symbols s wf) ks τ x.chosen (rule-formed s wf x.known) (sorted x.number x.chosen x.known) x.σ x.whole
      x.before x.behind (subst (Sorted s.arities ks τ es) x.here h))

  module _ (e : ℕ) where
    -- with any rule that matches, at any position, the built-in rules too
    pub any-keeps : {t t' : List ℕ} → AnyStep s t t' → SortedTerm s.arities ks e t → SortedTerm s.arities ks e t'
    any-keeps d = rewrite-keeps (λ _. 0) (any-rewrites s d)

    -- "a well-kinded cue stays so, and keeps its kind, at every step"
    pub anywhere-keeps : {n : ℕ} {t t' : List ℕ} → AnySteps s n t t' → SortedTerm s.arities ks e t → SortedTerm s.arities ks e t'
    anywhere-keeps no_more k = k
    anywhere-keeps (one_more d p) k = anywhere-keeps p (any-keeps d k)

    -- of the steps that the evaluator takes
    pub steps-keep : {size n : ℕ} {t t' : List ℕ} → Whole s.arities t → Steps s size n t t' → SortedTerm s.arities ks e t → SortedTerm s.arities ks e t'
    steps-keep h (done l) k = k
    steps-keep h (step l d p) k = steps-keep d.left p (rewrite-keeps (λ _. 0) (step-rewrites s wf h d) k)
