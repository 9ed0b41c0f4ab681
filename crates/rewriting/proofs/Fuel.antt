-- The bound on the rewrites at one root does not matter: `evaluate` satisfies its own equation.
use Prim.Native.Nat.{ℕ, zero, suc, ◌+◌, ◌≤◌, ◌<◌}
use native.Mathlib.Omega.{arith}
use mathlib.Core.Path.{◌≡◌, refl, sym, ap, ◌∙◌}
use mathlib.Core.Option.{Option, none, some}
use mathlib.Core.List.{List, [], ◌∷◌}
use lib.ListN.{get_or, drop}
use Rattle.system.specs.Signature.{argument}
use Rattle.system.specs.System.{System, strategy}
use Rattle.matching.specs.Matching.{Contraction, contraction}
use Rattle.rewriting.specs.Evaluation.{Limits, Config, steps, Outcome, finished, stopped, and_then, follow, at_root, evaluate}
use Rattle.system.specs.declared.numbers.Limit.TheVariants.{Spent, Nested}
use Rattle.rewriting.proofs.Walks.{never, after-finished, rewrite-finished, rewrite-same, follow-end, follow-pass, follow-fire, follow-open}

module _ (s : System) (limits : Limits) where
  -- the count of steps never falls
  abbrev pub Mono : (ℕ → Config → Outcome) → Type 0
  Mono ev = (p : ℕ) (r r' : Config) → ev p r ≡ finished r' → steps r ≤ steps r'

  follow-mono : (inner again : ℕ → Config → Outcome) → Mono inner → Mono again → (es : List ℕ) → Mono (follow s limits inner again es)
  follow-mono inner again hi ha [] p r r' e =
      let q : r ≡ r' = cc (follow-end s limits inner again p r) in let z = ap steps q in omega arith
  follow-mono inner again hi ha (zero ∷ es) p r r' e = go (contraction s (drop p r.term)) refl (follow-mono inner again hi ha es p r r')
    where
      go : (o : Option Contraction) → contraction s (drop p r.term) ≡ o → (follow s limits inner again es p r ≡ finished r' → steps r ≤ steps r') → steps r ≤ steps r'
      go none q ih = ih (sym (follow-pass s limits inner again es p r q) ∙ e)
      go (some x) q ih =
          let c = rewrite-finished s limits p r x (again p) r' (sym (follow-fire s limits inner again es p r x q) ∙ e) in
          let z = ha p _ r' c.3 in omega arith
  follow-mono inner again hi ha (suc i ∷ es) p r r' e =
      let c = after-finished (inner (argument s.arities r.term p i) r) _ r' (sym (follow-open s limits inner again i es p r) ∙ e) in
      let z = hi _ r c.0 c.1 in
      let z' = follow-mono inner again hi ha es p c.0 r' c.2 in omega arith

  at_root-mono : (inner : ℕ → Config → Outcome) → Mono inner → (left : ℕ) → Mono (at_root s limits inner left)
  unfolding at_root
  at_root-mono inner hi zero p r = follow-mono inner (λ p r. stopped Spent r.trace) hi (λ p r r' e. never Spent r.trace r' e) _ p r
  at_root-mono inner hi (suc left) p r = follow-mono inner (at_root s limits inner left) hi (at_root-mono inner hi left) _ p r

  pub evaluate-mono : (l : ℕ) → Mono (evaluate s limits l)
  unfolding evaluate
  evaluate-mono zero p r r' e = never Nested r.trace r' e
  evaluate-mono (suc l) p r r' e = at_root-mono (evaluate s limits l) (evaluate-mono l) limits.steps p r r' e

  -- two ways to start anew that agree on later runs within the limit
  abbrev Agree : ℕ → (ℕ → Config → Outcome) → (ℕ → Config → Outcome) → Type 0
  Agree n f g = (p : ℕ) (r : Config) → n < steps r → steps r ≤ limits.steps → f p r ≡ g p r

  follow-same : (n : ℕ) (inner again again' : ℕ → Config → Outcome) → Mono inner → Agree n again again' → (es : List ℕ) (p : ℕ) (r : Config) → n ≤ steps r →
      follow s limits inner again es p r ≡ follow s limits inner again' es p r
  follow-same n inner again again' hi ha [] p r l = follow-end s limits inner again p r ∙ sym (follow-end s limits inner again' p r)
  follow-same n inner again again' hi ha (zero ∷ es) p r l = go (contraction s (drop p r.term)) refl (follow-same n inner again again' hi ha es p r l)
    where
      go : (o : Option Contraction) → contraction s (drop p r.term) ≡ o → follow s limits inner again es p r ≡ follow s limits inner again' es p r →
          follow s limits inner again (0 ∷ es) p r ≡ follow s limits inner again' (0 ∷ es) p r
      go none q ih = follow-pass s limits inner again es p r q ∙ ih ∙ sym (follow-pass s limits inner again' es p r q)
      go (some x) q ih = follow-fire s limits inner again es p r x q
          ∙ rewrite-same s limits p r x (again p) (again' p) (λ m. ha p _ (omega arith) m)
          ∙ sym (follow-fire s limits inner again' es p r x q)
  follow-same n inner again again' hi ha (suc i ∷ es) p r l =
      follow-open s limits inner again i es p r
      ∙ go (inner (argument s.arities r.term p i) r) refl (λ r' m. follow-same n inner again again' hi ha es p r' m)
      ∙ sym (follow-open s limits inner again' i es p r)
    where
      go : (o : Outcome) → inner (argument s.arities r.term p i) r ≡ o →
          ((r' : Config) → n ≤ steps r' → follow s limits inner again es p r' ≡ follow s limits inner again' es p r') →
          and_then (inner (argument s.arities r.term p i) r) (λ r'. follow s limits inner again es p r')
          ≡ and_then (inner (argument s.arities r.term p i) r) (λ r'. follow s limits inner again' es p r')
      go (finished r') q ih = rw q (ih r' (let z = hi _ r r' q in omega arith))
      go (stopped k m) q ih = rw q

  module _ (inner : ℕ → Config → Outcome) (hi : Mono inner) where
    -- the bound does not count once it reaches what the limit leaves
    pub at_root-left : (left left' p : ℕ) (r : Config) → limits.steps ≤ left + steps r → limits.steps ≤ left' + steps r →
        at_root s limits inner left p r ≡ at_root s limits inner left' p r
    unfolding at_root
    at_root-left zero zero p r h h' = refl
    at_root-left zero (suc left') p r h h' = follow-same (steps r) inner _ _ hi (λ p' r' l m. absurd (omega arith)) _ p r (omega arith)
    at_root-left (suc left) zero p r h h' = follow-same (steps r) inner _ _ hi (λ p' r' l m. absurd (omega arith)) _ p r (omega arith)
    at_root-left (suc left) (suc left') p r h h' =
        follow-same (steps r) inner _ _ hi (λ p' r' l m. at_root-left left left' p' r' (omega arith) (omega arith)) _ p r (omega arith)

    pub at_root-again : (left p : ℕ) (r : Config) → limits.steps ≤ left →
        at_root s limits inner left p r ≡ follow s limits inner (at_root s limits inner left) (strategy s (get_or r.term p 0)) p r
    unfolding at_root
    at_root-again zero p r h = follow-same (steps r) inner _ _ hi (λ p' r' l m. absurd (omega arith)) _ p r (omega arith)
    at_root-again (suc left) p r h =
        follow-same (steps r) inner _ _ hi (λ p' r' l m. at_root-left left (suc left) p' r' (omega arith) (omega arith)) _ p r (omega arith)

  -- evaluating is following the strategy, and starting anew is evaluating
  pub evaluate-again : (l p : ℕ) (r : Config) →
      evaluate s limits (suc l) p r ≡ follow s limits (evaluate s limits l) (evaluate s limits (suc l)) (strategy s (get_or r.term p 0)) p r
  unfolding evaluate
  evaluate-again l p r = at_root-again (evaluate s limits l) (evaluate-mono l) limits.steps p r (omega arith)
