-- Terms on which an evaluation takes no step: `Inert`. An evaluation without a step shows that its subterm is still,
-- and a still subterm is evaluated without a step wherever it stands.
use Prim.Native.Nat.{ℕ, zero, suc, ◌≤◌, ◌<◌}
use native.Mathlib.Nat.{suc_inj}
use native.Mathlib.Omega.{arith}
use mathlib.Core.Path.{◌≡◌, refl, ap, ◌∙◌, subst}
use mathlib.Core.Logic.{◌⊎◌, inl, inr}
use mathlib.Core.Option.{none}
use mathlib.Core.List.{List, [], ◌∷◌, ◌++◌, flatten}
use lib.ListN.{length, get_or, set, take, drop}
use lib.Seq.{set-get_or}
use Rattle.system.specs.Signature.{Signature, Symbol, arity, argument}
use Rattle.system.specs.System.{System, strategy, head}
use Rattle.system.specs.Terms.{Whole, Member, first, later, WellFormed}
use Rattle.matching.specs.Matching.{contraction}
use Rattle.rewriting.specs.Evaluation.{Limits, Config, steps, Outcome, finished, stopped, and_then, follow, at_root, evaluate}
use Rattle.rewriting.specs.Trace.{Trace}
use Rattle.system.specs.declared.numbers.Limit.TheVariants.{Spent}
use Rattle.system.proofs.Members.{member-nil}
use Rattle.system.proofs.Forests.{focus-here, Node, node-whole, as-node}
use Rattle.system.proofs.Places.{at-word, at-argument}
use Rattle.matching.proofs.Firsts.{contraction-at}
use Rattle.rewriting.proofs.Actives.{argument_of, argument_of-at}
use Rattle.rewriting.proofs.Walks.{Walk, end, pass, fire, open', traced-length, evaluate-local, follow-end, follow-pass, follow-open}

-- with `levels` levels left, no entry of es leads to a step on u, nor too deep
abbrev pub InertOn : System → ℕ → List ℕ → List ℕ → Type 0
InertOn s zero es u = ⊥
InertOn s (suc l) es u =
    (Member 0 es → contraction s u ≡ none)
    × ((i : ℕ) → Member (suc i) es → InertOn s l (strategy s (head (argument_of s.arities u i))) (argument_of s.arities u i))

abbrev pub Inert : System → ℕ → List ℕ → Type 0
Inert s l u = InertOn s l (strategy s (head u)) u

pub member-cases : {e d : ℕ} {es : List ℕ} → Member e (d ∷ es) → (e ≡ d) ⊎ Member e es
member-cases first = inl refl
member-cases (later h) = inr h

module _ (s : System) where
  abbrev g : Signature
  g = s.arities

  -- an evaluation without a step shows that the subterm is still, and leaves it
  pub walk-inert : {l n : ℕ} {es u v : List ℕ} → Walk s l es u v n → n ≡ 0 → (v ≡ u) × InertOn s l es u
  walk-inert end e = (refl, (λ st. member-nil st, λ i st. member-nil st))
  walk-inert (pass {l} {es} {u} q k) e = let c = walk-inert k e in (c.0, (λ _. q, λ i st. go c.1 i (member-cases st)))
    where
      go : InertOn s (suc l) es u → (i : ℕ) → (suc i ≡ 0) ⊎ Member (suc i) es → InertOn s l (strategy s (head (argument_of g u i))) (argument_of g u i)
      go c i (inl z) = absurd (omega arith)
      go c i (inr st) = c.1 i st
  walk-inert (fire q k) e = absurd (omega arith)
  walk-inert (open' {l} {m} {n} {w} {i} {us} {es} {v} {v'} d h k f) e = go (walk-inert k (omega arith)) (walk-inert f (omega arith))
    where
      u : List ℕ
      u = w ∷ flatten us

      go : (v ≡ get_or us i []) × Inert s l (get_or us i []) → (v' ≡ w ∷ flatten (set us i v)) × InertOn s (suc l) es (w ∷ flatten (set us i v)) →
          (v' ≡ u) × InertOn s (suc l) (suc i ∷ es) u
      go p c = (c.0 ∙ same, (λ st. st0 (member-cases st), λ j st. argument-inert j (member-cases st)))
        where
          same : w ∷ flatten (set us i v) ≡ u
          same = rw (p.0, set-get_or us i [])

          rest : InertOn s (suc l) es u
          rest = subst (InertOn s (suc l) es) same c.1

          st0 : (0 ≡ suc i) ⊎ Member 0 es → contraction s u ≡ none
          st0 (inl z) = absurd (omega arith)
          st0 (inr st) = rest.0 st

          argument-inert : (j : ℕ) → (suc j ≡ suc i) ⊎ Member (suc j) es → Inert s l (argument_of g u j)
          argument-inert j (inl z) = rw (suc_inj z, argument_of-at g w us i h d.wholes) p.1
          argument-inert j (inr st) = rest.1 j st

  module _ (wf : WellFormed s) (limits : Limits) where
    at_root-start : (inner : ℕ → Config → Outcome) (left p : ℕ) (r : Config) →
        (again : ℕ → Config → Outcome) × (at_root s limits inner left p r ≡ follow s limits inner again (strategy s (get_or r.term p 0)) p r)
    unfolding at_root
    at_root-start inner zero p r = (λ p' r'. stopped Spent r'.trace, refl)
    at_root-start inner (suc left) p r = (at_root s limits inner left, refl)

    abbrev Rests : ℕ → Type 0
    Rests l = (a b u : List ℕ) (n : Trace) → Whole g u → Inert s l u →
        evaluate s limits l (length a) (record { term = a ++ (u ++ b); trace = n }) ≡ finished (record { term = a ++ (u ++ b); trace = n })

    follow-inert : (l : ℕ) → Rests l → (again : ℕ → Config → Outcome) (es : List ℕ) (w : ℕ) (us : List (List ℕ)) (a b : List ℕ) (n : Trace) → Node g w us →
        ((e : ℕ) → Member e es → e ≤ arity g w) → InertOn s (suc l) es (w ∷ flatten us) →
        follow s limits (evaluate s limits l) again es (length a) (record { term = a ++ ((w ∷ flatten us) ++ b); trace = n })
        ≡ finished (record { term = a ++ ((w ∷ flatten us) ++ b); trace = n })
    follow-inert l h again [] w us a b n d st c = follow-end s limits (evaluate s limits l) again (length a) _
    follow-inert l h again (zero ∷ es) w us a b n d st c =
        follow-pass s limits (evaluate s limits l) again es (length a) _ (contraction-at s wf (node-whole g w us d) a b ∙ c.0 first)
        ∙ follow-inert l h again es w us a b n d (λ e z. st e (later z)) (λ z. c.0 (later z), λ i z. c.1 i (later z))
    follow-inert l h again (suc i ∷ es) w us a b n d st c =
        let m : i < length us = (let z = st (suc i) first in let z' = d.count in omega arith) in
        let t = a ++ ((w ∷ flatten us) ++ b) in
        let q : evaluate s limits l (argument g t (length a) i) (record { term = t; trace = n }) ≡ finished (record { term = t; trace = n }) =
        rw (at-argument g (Symbol g) a b w us i m d.wholes, focus-here a b w us i m)
        (h (a ++ w ∷ flatten (take i us)) (flatten (drop (suc i) us) ++ b) (get_or us i []) n (d.wholes i m)
        (rw (argument_of-at g w us i m d.wholes) at (c.1 i first))) in
        follow-open s limits (evaluate s limits l) again i es (length a) _
        ∙ ap (λ o. and_then o (λ r'. follow s limits (evaluate s limits l) again es (length a) r')) q
        ∙ follow-inert l h again es w us a b n d (λ e z. st e (later z)) (λ z. c.0 (later z), λ i z. c.1 i (later z))

    start-inert : (l : ℕ) → Rests l → (again : ℕ → Config → Outcome) (a b u : List ℕ) (n : Trace) → Whole g u → Inert s (suc l) u →
        follow s limits (evaluate s limits l) again (strategy s (get_or (a ++ (u ++ b)) (length a) 0)) (length a) (record { term = a ++ (u ++ b); trace = n })
        ≡ finished (record { term = a ++ (u ++ b); trace = n })
    start-inert l h again a b u n f c =
        let k = as-node g f in
        let w = k.symbol in
        rw (k.equal, at-word g a b w (flatten k.parts))
        (follow-inert l h again (strategy s w) w k.parts a b n k.node (wf.entry_bound w) (rw k.equal at c))

    -- a still subterm is evaluated without a step, wherever it stands and whatever the limits
    pub inert-rests : (l : ℕ) → Rests l
    unfolding evaluate
    inert-rests zero a b u n h c = absurd c
    inert-rests (suc l) a b u n h c =
        let x = at_root-start (evaluate s limits l) limits.steps (length a) (record { term = a ++ (u ++ b); trace = n }) in
        x.1 ∙ start-inert l (inert-rests l) x.0 a b u n h c

  -- the quiet lemma: an evaluation that took no step takes none again, wherever its subterm stands
  pub inert : (wf : WellFormed s) (limits : Limits) (l : ℕ) (a b u : List ℕ) (n : Trace) (r : Config) → Whole g u →
      evaluate s limits l (length a) (record { term = a ++ (u ++ b); trace = n }) ≡ finished r → steps r ≡ length n →
      (r.term ≡ a ++ (u ++ b)) × ((limits' : Limits) (a' b' : List ℕ) (n' : Trace) →
      evaluate s limits' l (length a') (record { term = a' ++ (u ++ b'); trace = n' }) ≡ finished (record { term = a' ++ (u ++ b'); trace = n' }))
  inert wf limits l a b u n r h e q =
      let c = evaluate-local s limits wf l a b u n r h e in
      let k = walk-inert c.walk (let z = ap length c.trace in let z' = traced-length s c.walk a n in omega arith) in
      (c.term ∙ ap (λ v. a ++ (v ++ b)) k.0, λ limits' a' b' n'. inert-rests wf limits' l a' b' u n' h k.1)
