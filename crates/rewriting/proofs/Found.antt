-- Theorem "found": over a safe system, what an evaluation hands back is stable.
use Prim.Native.Nat.{ℕ, zero, suc, ◌<◌}
use native.Mathlib.Nat.{suc_inj}
use native.Mathlib.Omega.{arith}
use native.Mathlib.Decide.{ℕ_discrete}
use mathlib.Core.Path.{◌≡◌, sym, ap, ◌∙◌, subst}
use mathlib.Core.Logic.{◌⊎◌, inl, inr}
use mathlib.Core.Option.{none}
use mathlib.Core.List.{List, [], ◌∷◌, ◌++◌, append-nil, flatten}
use lib.ListN.{length, get_or, set, length-set}
use lib.Seq.{get_or-set_same, get_or-set_other}
use Rattle.system.specs.Limits.{levels}
use Rattle.system.specs.Signature.{Signature, Symbol}
use Rattle.system.specs.System.{System, strategy, head}
use Rattle.system.specs.Terms.{more, Whole, Member, first, later, WellFormed}
use Rattle.matching.specs.Matching.{contraction}
use Rattle.rewriting.specs.Evaluation.{Limits, Config, finished, evaluation}
use Rattle.rewriting.specs.Outcomes.{Stable}
use Rattle.matching.specs.Safety.{IdleEntry, idle, Guarded, Constructor, Safe}
use Rattle.matching.proofs.Firsts.{fired, unfired}
use Rattle.rewriting.proofs.Walks.{Walk, end, pass, fire, open', evaluate-local}
use Rattle.rewriting.proofs.Done.{walk-whole}
use Rattle.rewriting.proofs.Actives.{argument_of, argument_of-at, Inherited, active-at}
use Rattle.system.proofs.Members.{member-nil}
use Rattle.rewriting.proofs.Inert.{Inert, member-cases, inert-rests}
use Rattle.matching.proofs.Idle.{constructor-contraction, idle-contraction}
use Rattle.system.proofs.Forests.{Node, node-whole, node-set}

-- a 0 is still to come, and only idle arguments after the last one
data Closing (s : System) (f : ℕ) : List ℕ → Type 0 where
  here : {es : List ℕ} → ((e : ℕ) → Member e es → IdleEntry s f e) → Closing s f (0 ∷ es)
  there : {e : ℕ} {es : List ℕ} → Closing s f es → Closing s f (e ∷ es)

-- at the root of u, with the entries es to come: the rules will be tried; none matches and that stays so; or no rule begins with its symbol
data Guard (s : System) (u : List ℕ) (es : List ℕ) : Type 0 where
  ahead : Closing s (head u) es → Guard s u es
  clear : ((e : ℕ) → Member e es → IdleEntry s (head u) e) → contraction s u ≡ none → Guard s u es
  free : Constructor s (head u) → Guard s u es

-- still, one level further down
abbrev Lower : System → ℕ → List ℕ → Type 0
Lower s zero u = ⊥
Lower s (suc l) u = Inert s l u

-- each argument in the strategy is still to come, or still
abbrev Evaluated : System → ℕ → List ℕ → List ℕ → Type 0
Evaluated s l u es = (i : ℕ) → Member (suc i) (strategy s (head u)) → Member (suc i) es ⊎ Lower s l (argument_of s.arities u i)

module _ (s : System) where
  abbrev g : Signature
  g = s.arities

  closing-append : (f : ℕ) (b a : List ℕ) → ((e : ℕ) → Member e a → IdleEntry s f e) → Closing s f (b ++ 0 ∷ a)
  closing-append f [] a h = here h
  closing-append f (x ∷ b) a h = there (closing-append f b a h)

  closing : (f : ℕ) → Guarded s f → Closing s f (strategy s f)
  closing f gd = subst (Closing s f) (sym gd.split) (closing-append f gd.before gd.after gd.last)

  closing-zero : {f : ℕ} {es : List ℕ} → Closing s f es → Member 0 es
  closing-zero (here h) = first
  closing-zero (there c) = later (closing-zero c)

  -- no rule matched
  guard-pass : (u es : List ℕ) → contraction s u ≡ none → Guard s u (0 ∷ es) → Guard s u es
  guard-pass u es b (ahead (here h)) = clear h b
  guard-pass u es b (ahead (there c)) = ahead c
  guard-pass u es b (clear h b') = clear (λ e st. h e (later st)) b
  guard-pass u es b (free c) = free c

  head-symbol : {u : List ℕ} → Whole g u → Symbol g (head u)
  head-symbol (more h f) = h

  module _ (wf : WellFormed s) (safe : Safe s) where
    start : {u : List ℕ} → Whole g u → Guard s u (strategy s (head u))
    start {u} h = elim (safe (head u) (head-symbol h)) [ inl c ↦ free c | inr gd ↦ ahead (closing (head u) gd) ]

    -- no entry is left: no rule matches
    expansion_of : {u : List ℕ} → Whole g u → Guard s u [] → contraction s u ≡ none
    expansion_of {u = u} h (ahead x') = elim x' [ ]
    expansion_of h (clear q b) = b
    expansion_of h (free c) = constructor-contraction s wf h c

    -- an argument was evaluated
    guard-open : (w : ℕ) (us : List (List ℕ)) (i : ℕ) (v es : List ℕ) → Node g w us → i < length us → Whole g v →
        Guard s (w ∷ flatten us) (suc i ∷ es) → Guard s (w ∷ flatten (set us i v)) es
    guard-open w us i v es d l h (ahead (there c)) = ahead c
    guard-open w us i v es d l h (free c) = free c
    guard-open w us i v es d l h (clear q b) = clear (λ e st. q e (later st)) (go (q (suc i) first))
      where
        go : IdleEntry s w (suc i) → contraction s (w ∷ flatten (set us i v)) ≡ none
        go (idle z) = idle-contraction s wf w us i v d l h z b

    evaluated-open : (l : ℕ) (w : ℕ) (us : List (List ℕ)) (i : ℕ) (v es : List ℕ) → Node g w us → i < length us → Whole g v → Inert s l v →
        Evaluated s (suc l) (w ∷ flatten us) (suc i ∷ es) → Evaluated s (suc l) (w ∷ flatten (set us i v)) es
    evaluated-open l w us i v es d m h c x j st =
        let us' = set us i v in
        let n : j < length us = (let z = wf.entry_bound w (suc j) st in let z' = d.count in omega arith) in
        let p : argument_of g (w ∷ flatten us') j ≡ get_or us' j [] = argument_of-at g w us' j (rw (length-set us i v) n) (node-set g w us i v d h).wholes in
        elim (ℕ_discrete j i) [
          | yes e ↦ inr (subst (Inert s l) (sym (p ∙ ap (λ k. get_or us' k []) e ∙ get_or-set_same us i v [] m)) c)
          | no e ↦ go (p ∙ get_or-set_other us i j v [] e ∙ sym (argument_of-at g w us j n d.wholes)) e (x j st)
        ]
      where
        go : argument_of g (w ∷ flatten (set us i v)) j ≡ argument_of g (w ∷ flatten us) j → (j ≡ i → ⊥) → Member (suc j) (suc i ∷ es) ⊎ Inert s l (argument_of g (w ∷ flatten us) j) →
            Member (suc j) es ⊎ Inert s l (argument_of g (w ∷ flatten (set us i v)) j)
        go q e (inl z) = elim (member-cases z) [ inl y ↦ absurd (e (suc_inj y)) | inr st ↦ inl st ]
        go q e (inr c) = inr (subst (Inert s l) (sym q) c)

    walk-found : {l n : ℕ} {es u v : List ℕ} → Walk s l es u v n → Whole g u → Guard s u es → Evaluated s l u es → Inert s l v
    walk-found (end {l} {u}) h gd x = (λ _. expansion_of h gd, λ i st. elim (x i st) [ inl z ↦ member-nil z | inr c ↦ c ])
    walk-found (pass {l} {es} {u} q k) h gd x = walk-found k h (guard-pass u es q gd) (λ i st. go i (x i st))
      where
        go : (i : ℕ) → Member (suc i) (0 ∷ es) ⊎ Lower s (suc l) (argument_of g u i) → Member (suc i) es ⊎ Lower s (suc l) (argument_of g u i)
        go i (inl (later st)) = inl st
        go i (inr c) = inr c
    walk-found (fire {x} q k) h gd y = let h' = (fired s wf h [] [] x q).left in walk-found k h' (start h') (λ i st. inl st)
    walk-found (open' {l} {w} {i} {us} {es} {v} d m k f) h gd x =
        let hv = walk-whole s wf k (d.wholes i m) in
        let c = walk-found k (d.wholes i m) (start (d.wholes i m)) (λ i st. inl st) in
        walk-found f (node-whole g w (set us i v) (node-set g w us i v d hv)) (guard-open w us i v es d m hv gd) (evaluated-open l w us i v es d m hv c x)

    -- a still term has no active position at which a rule matches
    inert-inherited : Inherited s (λ u. (l : ℕ) × Inert s l u)
    inert-inherited u i h c st = go c.0 c.1
      where
        go : (l : ℕ) → Inert s l u → (l : ℕ) × Inert s l (argument_of g u i)
        go zero c = absurd c
        go (suc l) c = (l, c.1 i st)

    inert-contraction : {u : List ℕ} (l : ℕ) → Whole g u → Inert s l u → contraction s u ≡ none
    inert-contraction zero h c = absurd c
    inert-contraction {u} (suc l) h c = elim (safe (head u) (head-symbol h)) [
      | inl z ↦ constructor-contraction s wf h z
      | inr gd ↦ c.0 (closing-zero (closing (head u) gd))
    ]

    -- whatever the limits: what an evaluation hands back over a safe system
    pub theorem-found : (limits : Limits) (t : List ℕ) (r : Config) → Whole g t → evaluation s limits t ≡ finished r → Stable s r.term
    unfolding evaluation
    theorem-found limits t r h e =
        let c = evaluate-local s limits wf levels [] [] t [] r h (rw (append-nil t) e) in
        let k : Inert s levels c.outcome = walk-found c.walk h (start h) (λ i st. inl st) in
        subst (Stable s) (sym (c.term ∙ append-nil c.outcome)) (go c.outcome c.whole k)
      where
        go : (v : List ℕ) → Whole g v → Inert s levels v → Stable s v
        go v h c = record {
          whole = h;
          normal = λ p act k o m x. let y = active-at s wf (λ u. (l : ℕ) × Inert s l u) inert-inherited h (levels, c) act in
              unfired s wf y.whole y.before y.behind (inert-contraction y.has.0 y.whole y.has.1) k o m (rw (← y.equal, ← y.position) x);
          again = λ limits. rw (append-nil v) at (inert-rests s wf limits levels [] [] v [] h c);
        }
