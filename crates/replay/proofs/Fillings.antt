-- A rule matches in one way only: two substitutions that fill its left side alike fill its right side alike. So a position and a rule's number
-- settle a step.
use Prim.Native.Nat.{ℕ, ◌≤◌, ◌<◌}
use native.Mathlib.Omega.{arith}
use native.Mathlib.Decide.{ℕ_discrete}
use mathlib.Core.Path.{◌≡◌, refl, sym, ap, ◌∙◌, subst}
use mathlib.Core.Option.{Option, none, some}
use mathlib.Core.List.{List}
use lib.ListN.{drop}
use Rattle.system.specs.Signature.{Signature, Symbol}
use Rattle.system.specs.System.{System, Rule, instance}
use Rattle.system.specs.Rules.{BuiltIn, RuleOf, listed, built_in}
use Rattle.system.specs.Terms.{Whole, Numbered, end, symbol, next, again, WellFormedRule, WellFormed}
use Rattle.system.proofs.Rules.{built-number, built-ground, built-plain}
use Rattle.matching.specs.Matching.{Matches, Computation, computed}
use Rattle.matching.proofs.Matched.{instance-symbol, instance-variable, instance-cong, instance-ground}
use Rattle.matching.proofs.Computed.{computed-left, left-computed}
use Rattle.matching.proofs.Idle.{same-front}

-- the left side of a built-in rule tells the right side
built-right : {k k' : ℕ} {r r' : Rule} → BuiltIn k r → BuiltIn k' r' → r.lhs ≡ r'.lhs → r.rhs ≡ r'.rhs
built-right {r} {r'} d d' e = go (computed r.lhs) refl
  where
    go : (o : Option Computation) → computed r.lhs ≡ o → r.rhs ≡ r'.rhs
    go none q = absurd (left-computed d q)
    go (some c) q = sym (computed-left d c q).1 ∙ (computed-left d' c (sym (ap computed e) ∙ q)).1

module _ (g : Signature) where
  -- what a side is filled to settles what its variables stand for
  module _ (σ τ : ℕ → List ℕ) (hσ : (v : ℕ) → Whole g (σ v)) (hτ : (v : ℕ) → Whole g (τ v)) where
    instance-values : {n m : ℕ} {ls : List ℕ} → Numbered n m ls → instance σ ls ≡ instance τ ls → (v : ℕ) → n ≤ v → v < m → σ v ≡ τ v
    instance-values end e v l h = absurd (omega arith)
    instance-values (symbol {w} {ws} k nb) e v l h =
        instance-values nb (ap (drop 1) (sym (instance-symbol σ w ws k) ∙ e ∙ instance-symbol τ w ws k)) v l h
    instance-values (next {n} {w} {ws} q nb) e v l h =
        let c = same-front g (Symbol g) (instance σ ws) (instance τ ws) (hσ n) (hτ n) (sym (instance-variable σ w n ws q) ∙ e ∙ instance-variable τ w n ws q) in
        elim (ℕ_discrete v n) [
          | yes z ↦ subst (λ k. σ k ≡ τ k) (sym z) c.0
          | no z ↦ instance-values nb c.1 v (omega arith) h
        ]
    instance-values (again {v = u} {w} {ws} q b nb) e v l h =
        let c = same-front g (Symbol g) (instance σ ws) (instance τ ws) (hσ u) (hτ u) (sym (instance-variable σ w u ws q) ∙ e ∙ instance-variable τ w u ws q) in
        instance-values nb c.1 v l h

  module _ {t : List ℕ} {p : ℕ} where
    one-rule : {r : Rule} → WellFormedRule g r → (m m' : Matches g t p r) → instance m.σ r.rhs ≡ instance m'.σ r.rhs
    one-rule {r} law m m' = instance-cong m.σ m'.σ r.rhs (λ w n st e.
        instance-values m.σ m'.σ m.whole m'.whole law.numbered (m.equal ∙ sym m'.equal) n (omega arith) (let z = law.known w st in omega arith))

    -- the left side of a built-in rule that matches is the subterm itself
    built-left : {k : ℕ} {r : Rule} → BuiltIn k r → (m : Matches g t p r) → r.lhs ≡ instance m.σ r.lhs
    built-left {r} d m = sym (instance-ground m.σ r.lhs (built-ground d))

    two-built : {k k' : ℕ} {r r' : Rule} → BuiltIn k r → BuiltIn k' r' → (m : Matches g t p r) (m' : Matches g t p r') →
        instance m.σ r.rhs ≡ instance m'.σ r'.rhs
    two-built {r} {r'} d d' m m' =
        instance-ground m.σ r.rhs (built-plain d) ∙ built-right d d' (built-left d m ∙ m.equal ∙ sym m'.equal ∙ sym (built-left d' m'))
        ∙ sym (instance-ground m'.σ r'.rhs (built-plain d'))

-- two rules of one number that match at one position leave the same there: one rule of the book, or instances of one built-in rule
pub match-once : (s : System) → WellFormed s → {t : List ℕ} {p k : ℕ} {r r' : Rule} → RuleOf s k r → RuleOf s k r' →
    (m : Matches s.arities t p r) (m' : Matches s.arities t p r') → instance m.σ r.rhs ≡ instance m'.σ r'.rhs
match-once s wf {k} (listed l) (listed l') m m' = one-rule s.arities (wf.well_formed_rules k l) m m'
match-once s wf (listed l) (built_in d) m m' = absurd (let few = wf.rule_bound in omega (arith, (built-number d).0))
match-once s wf (built_in d) (listed l) m m' = absurd (let few = wf.rule_bound in omega (arith, (built-number d).0))
match-once s wf (built_in d) (built_in d') m m' = two-built s.arities d d' m m'
