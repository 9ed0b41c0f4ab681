-- Where the machine comes to tells what is left to do: the induction on which its theorem (`run-evaluates`, Runs.antt) rests.
use Prim.Native.Nat.{ℕ, zero, suc, ◌<◌}
use native.Mathlib.Omega.{arith}
use native.Mathlib.Decide.{dec_lt}
use mathlib.Core.Path.{◌≡◌, refl, sym, ap, ◌∙◌, subst}
use mathlib.Core.Option.{Option, none, some}
use mathlib.Core.List.{List, [], ◌∷◌, ◌++◌}
use lib.ListN.{length, drop, drop_of_length-le}
use Rattle.system.specs.Signature.{argument}
use Rattle.system.specs.System.{System}
use Rattle.system.specs.Terms.{WellFormed}
use Rattle.matching.specs.Matching.{Contraction, contraction}
use Rattle.rewriting.specs.Evaluation.{Limits, Config, finished, stopped, and_then, rewrite}
use Rattle.system.specs.declared.numbers.Limit.TheVariants.{Nested}
use Rattle.rewriting.specs.Machine.{strategy_at, down, position, Next, final, deep, ready, around, scan, enter, advance}
use Rattle.matching.proofs.Firsts.{contraction-empty}
use Rattle.rewriting.proofs.Walks.{follow-end}
use Rattle.rewriting.proofs.Laws.{resume, next-entry, position-le, rest, resume-top, resume-under, resume-end, resume-deep, top-pass, top-open, top-fire, level-rewrite}

module _ (s : System) where
  -- a rule that matches somewhere matches within the term
  pub fires-within : WellFormed s → (t : List ℕ) (q : ℕ) (x : Contraction) → contraction s (drop q t) ≡ some x → q < length t
  fires-within wf t q x e = elim (dec_lt q (length t)) [
    | yes h ↦ h
    | no h ↦
        let z : ◌≡◌ {A = ℕ} 0 1 = cc (contraction-empty s wf, drop_of_length-le t {i = q} (omega arith)) in
        absurd (omega arith)
  ]

  pub scan-pass : (inner : ℕ → Next) (t es : List ℕ) (c p : ℕ) → contraction s (drop p t) ≡ none → scan s inner t (0 ∷ es) c p ≡ scan s inner t es (suc c) p
  unfolding scan
  scan-pass inner t es c p e = rw (e, scan)

  pub scan-fire : (inner : ℕ → Next) (t es : List ℕ) (c p : ℕ) (x : Contraction) → contraction s (drop p t) ≡ some x → scan s inner t (0 ∷ es) c p ≡ ready [] (suc c) x
  unfolding scan
  scan-fire inner t es c p x e = rw (e, scan)

  module _ (wf : WellFormed s) (limits : Limits) (r : Config) where
    abbrev t : List ℕ
    t = r.term

    -- what is left to do from the state xs, told by where the machine comes to
    abbrev pub Reached : ℕ → List ℕ → ℕ → Next → Type 0
    Reached l xs p final = resume s limits l xs p r ≡ finished r
    Reached l xs p deep = resume s limits l xs p r ≡ stopped Nested r.trace
    Reached l xs p (ready cs c x) = (contraction s (drop (position s t cs p) t) ≡ some x) ×
        (resume s limits l xs p r ≡ rewrite s limits (position s t cs p) r x (λ r'. resume s limits l (cs ++ 0 ∷ []) p r'))

    reached-same : (l : ℕ) (xs ys : List ℕ) (p : ℕ) (n : Next) → resume s limits l xs p r ≡ resume s limits l ys p r → Reached l ys p n → Reached l xs p n
    reached-same l xs ys p final e h = e ∙ h
    reached-same l xs ys p deep e h = e ∙ h
    reached-same l xs ys p (ready cs c x) e h = (h.0, e ∙ h.1)

    reached-around : (l c p : ℕ) (xs : List ℕ) (n on : Next) → Reached l xs (down s t p c) n → Reached (suc l) (c ∷ []) p on → Reached (suc l) (c ∷ xs) p (around c n on)
    unfolding position
    reached-around l c p xs final on h k = reached-same (suc l) (c ∷ xs) (c ∷ []) p on
        (resume-under s limits l c xs p r ∙ ap (λ o. and_then o (λ r'. rest s limits l (drop c (strategy_at s t p)) p r')) h ∙ sym (resume-top s limits l c p r)) k
    reached-around l c p xs deep on h k =
        resume-under s limits l c xs p r ∙ ap (λ o. and_then o (λ r'. rest s limits l (drop c (strategy_at s t p)) p r')) h
    reached-around l c p xs (ready cs d x) on h k =
        (h.0, level-rewrite s limits l c p r x (position s t cs (down s t p c)) xs (cs ++ 0 ∷ []) (fires-within wf t _ x h.0) (position-le s t cs (down s t p c)) h.1)

    reached-scan : (l : ℕ) → ((q : ℕ) → Reached l (0 ∷ []) q (enter s l t q)) → (p : ℕ) (es : List ℕ) (c : ℕ) → drop c (strategy_at s t p) ≡ es →
        Reached (suc l) (c ∷ []) p (scan s (λ q. enter s l t q) t es c p)
    unfolding scan down position
    reached-scan l h p [] c q = resume-top s limits l c p r ∙ ap (λ e. rest s limits l e p r) q ∙ follow-end s limits _ _ p r
    reached-scan l h p (zero ∷ es) c q = go (contraction s (drop p t)) refl (reached-scan l h p es (suc c) (next-entry _ c 0 es q).1)
      where
        inner : ℕ → Next
        inner = λ q. enter s l t q

        go : (o : Option Contraction) → contraction s (drop p t) ≡ o → Reached (suc l) (suc c ∷ []) p (scan s inner t es (suc c) p) →
            Reached (suc l) (c ∷ []) p (scan s inner t (0 ∷ es) c p)
        go none f ih = subst (Reached (suc l) (c ∷ []) p) (sym (scan-pass inner t es c p f))
            (reached-same (suc l) (c ∷ []) (suc c ∷ []) p (scan s inner t es (suc c) p) (top-pass s limits l c p r es q f) ih)
        go (some x) f ih = subst (Reached (suc l) (c ∷ []) p) (sym (scan-fire inner t es c p x f)) (f, top-fire s limits l c p r es x q f)
    reached-scan l h p (suc i ∷ es) c q =
        let n = next-entry _ c (suc i) es q in
        let on = scan s (λ q. enter s l t q) t es (suc c) p in
        reached-same (suc l) (c ∷ []) (suc c ∷ 0 ∷ []) p (around (suc c) (enter s l t (argument s.arities t p i)) on) (top-open s limits l c p r es i q)
        (reached-around l (suc c) p (0 ∷ []) (enter s l t (argument s.arities t p i)) on (rw n.0 (h (argument s.arities t p i))) (reached-scan l h p es (suc c) n.1))

    pub reached-enter : (l q : ℕ) → Reached l (0 ∷ []) q (enter s l t q)
    unfolding enter
    reached-enter zero q = resume-deep s limits 0 [] q r
    reached-enter (suc l) q = reached-scan l (reached-enter l) q (strategy_at s t q) 0 refl

    -- advancing keeps what is left to do
    pub reached : (l : ℕ) (cs : List ℕ) (p : ℕ) → Reached l cs p (advance s l cs t p)
    unfolding advance
    reached l [] p = resume-end s limits l p r
    reached zero (c ∷ cs) p = resume-deep s limits c cs p r
    reached (suc l) (c ∷ cs) p = reached-around l c p cs (advance s l cs t (down s t p c)) (scan s (enter s l t) t (drop c (strategy_at s t p)) c p)
        (reached l cs (down s t p c)) (reached-scan l (reached-enter l) p (drop c (strategy_at s t p)) c refl)
