-- The transition laws of the machine: each keeps `resume` the same.
use Prim.Native.Nat.{ℕ, zero, suc, ◌≤◌, ◌<◌}
use native.Mathlib.Omega.{arith}
use mathlib.Core.Path.{◌≡◌, refl, sym, ap, ◌∙◌}
use mathlib.Core.Option.{none, some}
use mathlib.Core.List.{List, [], ◌∷◌, ◌++◌}
use lib.ListN.{length, get_or, drop}
use lib.Seq.{drop-cons}
use Rattle.system.specs.Signature.{argument, replace}
use Rattle.system.specs.System.{System, strategy}
use Rattle.matching.specs.Matching.{Contraction, contraction}
use Rattle.rewriting.specs.Evaluation.{Limits, Config, stepped, Outcome, finished, stopped, and_then, rewrite, follow, evaluate}
use Rattle.system.specs.declared.numbers.Limit.TheVariants.{Nested}
use Rattle.rewriting.specs.Machine.{others, last, strategy_at, down, position}
use Rattle.system.proofs.Places.{replace-word, replace-argument}
use Rattle.rewriting.proofs.Walks.{rewrite-same, after-rewrite, follow-pass, follow-fire, follow-open}
use Rattle.rewriting.proofs.Fuel.{evaluate-again}

-- the next entry, where c are begun
pub next-entry : (es : List ℕ) (c e : ℕ) (es' : List ℕ) → drop c es ≡ e ∷ es' → (get_or es c 0 ≡ e) × (drop (suc c) es ≡ es')
next-entry [] zero e es' q = absurd (let z : ◌≡◌ {A = ℕ} 0 1 = cc in omega arith)
next-entry [] (suc c) e es' q = absurd (let z : ◌≡◌ {A = ℕ} 0 1 = cc in omega arith)
next-entry (x ∷ es) zero e es' q = ((cc), (cc))
next-entry (x ∷ es) (suc c) e es' q = next-entry es c e es' q

-- the same, by the entry's index
pub entry_at : (es : List ℕ) (c e : ℕ) → c < length es → get_or es c 0 ≡ e → drop c es ≡ e ∷ drop (suc c) es
entry_at es c e h q = drop-cons es c 0 h ∙ ap (λ z. z ∷ drop (suc c) es) q

module _ (s : System) where
  pub down_lt : (t : List ℕ) (p c : ℕ) → p < down s t p c
  unfolding down argument
  down_lt t p c = omega arith

  pub position-le : (t cs : List ℕ) (p : ℕ) → p ≤ position s t cs p
  unfolding position
  position-le t [] p = omega arith
  position-le t (c ∷ cs) p = let z = position-le t cs (down s t p c) in omega (arith, down_lt t p c)

  -- one level further down
  pub position-snoc : (t cs : List ℕ) (c p : ℕ) → position s t (cs ++ c ∷ []) p ≡ down s t (position s t cs p) c
  unfolding position
  position-snoc t [] c p = refl
  position-snoc t (d ∷ cs) c p = position-snoc t cs c (down s t p d)

  -- the levels above a rewrite stay as they are
  module _ (t u : List ℕ) (p q c : ℕ) (h : q < length t) (m : down s t p c ≤ q) where
    pub replace-strategy : strategy_at s (replace s.arities t q u) p ≡ strategy_at s t p
    replace-strategy = ap (strategy s) (replace-word s.arities t u p q (omega arith) (omega (arith, down_lt t p c)))

    pub replace-down : down s (replace s.arities t q u) p c ≡ down s t p c
    unfolding down
    replace-down = rw replace-strategy (replace-argument s.arities t u p q (others (last (strategy_at s t p) c)) h m)

-- what is left to do from a state: at the innermost level, then at each level around it
unfoldable pub resume : System → Limits → ℕ → List ℕ → ℕ → Config → Outcome
resume s limits l [] p r = finished r
resume s limits zero (c ∷ cs) p r = stopped Nested r.trace
resume s limits (suc l) (c ∷ cs) p r =
    and_then (resume s limits l cs (down s r.term p c) r)
    (λ r'. follow s limits (evaluate s limits l) (evaluate s limits (suc l)) (drop c (strategy_at s r.term p)) p r')

module _ (s : System) (limits : Limits) where
  -- the clauses of resume
  abbrev pub rest : ℕ → List ℕ → ℕ → Config → Outcome
  rest l es p r = follow s limits (evaluate s limits l) (evaluate s limits (suc l)) es p r

  pub resume-top : (l c p : ℕ) (r : Config) → resume s limits (suc l) (c ∷ []) p r ≡ rest l (drop c (strategy_at s r.term p)) p r
  unfolding resume
  resume-top l c p r = refl

  pub resume-under : (l c : ℕ) (cs : List ℕ) (p : ℕ) (r : Config) →
      resume s limits (suc l) (c ∷ cs) p r ≡ and_then (resume s limits l cs (down s r.term p c) r) (λ r'. rest l (drop c (strategy_at s r.term p)) p r')
  unfolding resume
  resume-under l c cs p r = refl

  pub resume-end : (l p : ℕ) (r : Config) → resume s limits l [] p r ≡ finished r
  unfolding resume
  resume-end l p r = refl

  pub resume-deep : (c : ℕ) (cs : List ℕ) (p : ℕ) (r : Config) → resume s limits zero (c ∷ cs) p r ≡ stopped Nested r.trace
  unfolding resume
  resume-deep c cs p r = refl

  -- the initial state
  pub resume-start : (l p : ℕ) (r : Config) → resume s limits l (0 ∷ []) p r ≡ evaluate s limits l p r
  unfolding evaluate
  resume-start zero p r = resume-deep 0 [] p r
  resume-start (suc l) p r = resume-top l 0 p r ∙ sym (evaluate-again s limits l p r)

  -- the laws at the innermost level
  module _ (l c p : ℕ) (r : Config) where
    module _ (es : List ℕ) where
      pub top-pass : drop c (strategy_at s r.term p) ≡ 0 ∷ es → contraction s (drop p r.term) ≡ none →
          resume s limits (suc l) (c ∷ []) p r ≡ resume s limits (suc l) (suc c ∷ []) p r
      top-pass q f =
          resume-top l c p r ∙ ap (λ e. rest l e p r) q ∙ follow-pass s limits (evaluate s limits l) (evaluate s limits (suc l)) es p r f
          ∙ ap (λ e. rest l e p r) (sym (next-entry _ c 0 es q).1) ∙ sym (resume-top l (suc c) p r)

      pub top-open : (i : ℕ) → drop c (strategy_at s r.term p) ≡ suc i ∷ es → resume s limits (suc l) (c ∷ []) p r ≡ resume s limits (suc l) (suc c ∷ 0 ∷ []) p r
      unfolding down
      top-open i q =
          let n = next-entry _ c (suc i) es q in
          resume-top l c p r ∙ ap (λ e. rest l e p r) q ∙ follow-open s limits (evaluate s limits l) (evaluate s limits (suc l)) i es p r
          ∙ sym (rw (n.0, n.1, resume-start l (argument s.arities r.term p i) r) at (resume-under l (suc c) (0 ∷ []) p r))

      pub top-fire : (x : Contraction) → drop c (strategy_at s r.term p) ≡ 0 ∷ es → contraction s (drop p r.term) ≡ some x →
          resume s limits (suc l) (c ∷ []) p r ≡ rewrite s limits p r x (λ r'. resume s limits (suc l) (0 ∷ []) p r')
      top-fire x q f =
          resume-top l c p r ∙ ap (λ e. rest l e p r) q ∙ follow-fire s limits (evaluate s limits l) (evaluate s limits (suc l)) es p r x f
          ∙ rewrite-same s limits p r x (evaluate s limits (suc l) p) (λ r'. resume s limits (suc l) (0 ∷ []) p r') (λ _. sym (resume-start (suc l) p _))

  -- a rewrite further down, seen from one level above it
  pub level-rewrite : (l c p : ℕ) (r : Config) (x : Contraction) (q : ℕ) (xs ys : List ℕ) → q < length r.term → down s r.term p c ≤ q →
      resume s limits l xs (down s r.term p c) r ≡ rewrite s limits q r x (λ r'. resume s limits l ys (down s r.term p c) r') →
      resume s limits (suc l) (c ∷ xs) p r ≡ rewrite s limits q r x (λ r'. resume s limits (suc l) (c ∷ ys) p r')
  level-rewrite l c p r x q xs ys h m e =
      let t = r.term in
      let t' = replace s.arities t q x.reduct in
      let k : Config → Outcome = λ r'. rest l (drop c (strategy_at s t p)) p r' in
      resume-under l c xs p r ∙ ap (λ o. and_then o k) e ∙ after-rewrite s limits q r x (λ r'. resume s limits l ys (down s t p c) r') k
      ∙ rewrite-same s limits q r x (λ r'. and_then (resume s limits l ys (down s t p c) r') k) (λ r'. resume s limits (suc l) (c ∷ ys) p r')
      (λ _. sym (rw (replace-down s t x.reduct p q c h m, replace-strategy s t x.reduct p q c h m) at (resume-under l c ys p (stepped s q r x))))
