-- A step, and a step anywhere, is a rewrite of an instance of a left side in its context.
use Prim.Native.Nat.{ℕ, ◌+◌}
use mathlib.Core.Path.{◌≡◌, sym, ap, ◌∙◌, subst}
use mathlib.Core.List.{List, ◌++◌}
use lib.ListN.{take, drop, take-append-drop}
use lib.Seq.{drop-drop}
use Rattle.system.specs.Signature.{Symbol, span, subterm, replace}
use Rattle.system.specs.System.{System, Rule, instance}
use Rattle.system.specs.Rules.{RuleOf}
use Rattle.system.specs.Terms.{Whole, WellFormed}
use Rattle.system.proofs.Places.{patch}
use Rattle.system.proofs.Rules.{rule-formed}
use Rattle.system.proofs.Signatures.{few-symbols}
use Rattle.matching.proofs.Matched.{instance-forest}
use Rattle.rewriting.specs.Rewriting.{Step}
use Rattle.rewriting.specs.Anywhere.{AnyStep, AnySteps, done, step}
use Rattle.rewriting.proofs.Contractions.{there, subterm-there, replace-there}

-- a rewrite anywhere in a term, by any rule that matches there: what a step is without its strategy. t is an instance of a left side between
-- `before` and `behind`, and t' has the same substitution's instance of the right side in its place
pub record Rewrites (s : System) (t t' : List ℕ) : Type 0 where
  pub number : ℕ
  pub chosen : Rule
  pub known : RuleOf s number chosen
  pub before : List ℕ
  pub behind : List ℕ
  pub σ : ℕ → List ℕ
  pub whole : (v : ℕ) → Whole s.arities (σ v)
  pub here : t ≡ before ++ (instance σ chosen.lhs ++ behind)
  pub there : t' ≡ before ++ (instance σ chosen.rhs ++ behind)

pub step-rewrites : (s : System) (wf : WellFormed s) {t t' : List ℕ} → Whole s.arities t → Step s t t' → Rewrites s t t'
step-rewrites s wf h d =
    let x = there s wf h d.active in
    record {
      number = d.number;
      chosen = d.chosen;
      known = d.known;
      before = x.before;
      behind = x.behind;
      σ = d.match.σ;
      whole = d.match.whole;
      here = x.equal ∙ ap (λ u. x.before ++ (u ++ x.behind)) (sym (d.match.equal ∙ subterm-there s wf h d.active));
      there = d.next ∙ replace-there s wf h d.active (instance d.match.σ d.chosen.rhs);
    }

-- without strategies the two lists are the words before the position, and those behind the subterm there
pub any-rewrites : (s : System) {t t' : List ℕ} → AnyStep s t t' → Rewrites s t t'
unfolding subterm replace
any-rewrites s {t} d =
    let p = d.at in
    let n = span s.arities (drop p t) 1 in
    record {
      number = d.number;
      chosen = d.chosen;
      known = d.known;
      before = take p t;
      behind = drop (p + n) t;
      σ = d.match.σ;
      whole = d.match.whole;
      here = sym (take-append-drop p t)
          ∙ ap (λ u. take p t ++ u) (sym (take-append-drop n (drop p t)) ∙ ap (λ u. u ++ drop n (drop p t)) (sym d.match.equal)
          ∙ ap (λ u. instance d.match.σ d.chosen.lhs ++ u) (drop-drop n p t));
      there = d.next;
    }

-- what is left is whole: after a rewrite, and after any number of steps anywhere
module _ (s : System) (wf : WellFormed s) where
  pub rewrite-whole : {t t' : List ℕ} → Whole s.arities t → Rewrites s t t' → Whole s.arities t'
  rewrite-whole h x =
      let g = s.arities in
      let law = rule-formed s wf x.known in
      subst (Whole g) (sym x.there) (patch g (Symbol g) x.before x.behind (subst (Whole g) x.here h)
      (instance-forest g (few-symbols s wf) x.σ x.whole law.left) (instance-forest g (few-symbols s wf) x.σ x.whole law.right))

  pub anywhere-whole : {n : ℕ} {t t' : List ℕ} → Whole s.arities t → AnySteps s n t t' → Whole s.arities t'
  anywhere-whole h done = h
  anywhere-whole h (step d p) = anywhere-whole (rewrite-whole h (any-rewrites s d)) p
