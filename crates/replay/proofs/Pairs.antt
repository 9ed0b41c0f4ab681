-- One pair of a record: what the replay does with it, and that it is right exactly if it tells of a step.
use Prim.Native.Nat.{ℕ, ◌≤◌, ◌<◌}
use native.Mathlib.Omega.{arith}
use native.Mathlib.Decide.{dec_lt, ℕ_discrete}
use mathlib.Core.Path.{◌≡◌, refl, sym, ap, ◌∙◌, subst}
use mathlib.Core.Bool.{Bool, true, false}
use mathlib.Core.Option.{Option, none, some}
use mathlib.Core.List.{List, [], ◌∷◌}
use lib.ListN.{length, drop}
use borrow.Author.Tests.{eq-eqb, ne_eqb, le-leb, lt-leb}
use Rattle.system.specs.Limits.{term_words}
use Rattle.system.specs.Signature.{Signature, replace}
use Rattle.system.specs.System.{System}
use Rattle.system.specs.Rules.{RuleOf}
use Rattle.system.specs.Terms.{Whole, WellFormed}
use Rattle.matching.specs.Matching.{Contraction, contraction, FirstMatch}
use Rattle.rewriting.specs.Evaluation.{Config, stepped}
use Rattle.rewriting.specs.Rewriting.{Step}
use Rattle.rewriting.proofs.Contractions.{first-there, none-there, step-there}
use Rattle.walks.specs.Activity.{active_at}
use Rattle.replay.specs.Replay.{followed, mistold, exceeded, told_by, judge, replay}
use Rattle.walks.proofs.Activities.{active_at-sound, active_at-complete}
use Rattle.replay.proofs.Fillings.{match-once}

module _ (s : System) where
  abbrev g : Signature
  g = s.arities

  -- ---- the contraction that a pair tells of

  module _ (t : List ℕ) (p k : ℕ) where
    pub told-inactive : active_at s t p ≡ false → told_by s t p k ≡ none
    unfolding told_by
    told-inactive a = rw (a, told_by)

    module _ (a : active_at s t p ≡ true) where
      pub told-nothing : contraction s (drop p t) ≡ none → told_by s t p k ≡ none
      unfolding told_by
      told-nothing f = rw (a, told_by) (rw f)

      pub told-other : {x : Contraction} → contraction s (drop p t) ≡ some x → (x.number ≡ k → ⊥) → told_by s t p k ≡ none
      unfolding told_by
      told-other {x} f d = rw (a, told_by) (rw f (rw (ne_eqb x.number k d)))

    -- the pair is right
    pub record Right (x : Contraction) : Type 0 where
      pub active : active_at s t p ≡ true
      pub found : contraction s (drop p t) ≡ some x
      pub number : x.number ≡ k

    pub right-told : {x : Contraction} → Right x → told_by s t p k ≡ some x
    unfolding told_by
    right-told {x} r = rw (r.active, told_by) (rw r.found (rw (eq-eqb x.number k r.number)))

    pub data Paired : Type 0 where
      right : (x : Contraction) → told_by s t p k ≡ some x → Right x → Paired
      wrong : told_by s t p k ≡ none → ((x : Contraction) → Right x → ⊥) → Paired

    pub paired : Paired
    paired = go (active_at s t p) refl (contraction s (drop p t)) refl
      where
        not_right : told_by s t p k ≡ none → Paired
        not_right e = wrong e (λ x r. let q = right-told r in let z : ◌≡◌ {A = ℕ} 0 1 = cc in omega arith)

        go : (b : Bool) → active_at s t p ≡ b → (o : Option Contraction) → contraction s (drop p t) ≡ o → Paired
        go false a o f = not_right (told-inactive a)
        go true a none f = not_right (told-nothing a f)
        go true a (some x) f = elim (ℕ_discrete x.number k) [
          | yes e ↦ let r : Right x = record { active = a; found = f; number = e } in right x (right-told r) r
          | no d ↦ not_right (told-other a f d)
        ]

  -- ---- what the replay does with it

  pub replay-end : (r : Config) → replay s [] r ≡ followed r
  unfolding replay
  replay-end r = refl

  pub replay-half : (p : ℕ) (r : Config) → replay s (p ∷ []) r ≡ mistold r.trace
  unfolding replay
  replay-half p r = refl

  module _ (p k : ℕ) (ws : List ℕ) (r : Config) where
    replay-pair : (o : Option Contraction) → told_by s r.term p k ≡ o → replay s (p ∷ k ∷ ws) r ≡ judge s p r o (λ r'. replay s ws r')
    unfolding replay
    replay-pair o e = ap (λ o. judge s p r o (λ r'. replay s ws r')) e

    pub replay-wrong : told_by s r.term p k ≡ none → replay s (p ∷ k ∷ ws) r ≡ mistold r.trace
    replay-wrong e = replay-pair none e

    module _ (x : Contraction) (e : told_by s r.term p k ≡ some x) where
      pub replay-long : term_words < length (stepped s p r x).term → replay s (p ∷ k ∷ ws) r ≡ exceeded r.trace
      replay-long m = replay-pair (some x) e ∙ rw (lt-leb (length (stepped s p r x).term) term_words m, judge)

      pub replay-goes : length (stepped s p r x).term ≤ term_words → replay s (p ∷ k ∷ ws) r ≡ replay s ws (stepped s p r x)
      replay-goes m = replay-pair (some x) e ∙ rw (le-leb (length (stepped s p r x).term) term_words m, judge)

  -- ---- a pair is right exactly if it tells of a step

  module _ (t : List ℕ) where
    -- a step to the term with this reduct, at this position and by this rule
    abbrev pub Stepping : ℕ → Contraction → Type 0
    Stepping p x = (d : Step s t (replace g t p x.reduct)) × (d.at ≡ p) × (d.number ≡ x.number)

    -- the pair of p and k is right, and leads to t'
    pub record Told (p k : ℕ) (t' : List ℕ) : Type 0 where
      pub x : Contraction
      pub right : Right t p k x
      pub next : t' ≡ replace g t p x.reduct

  module _ (wf : WellFormed s) {t : List ℕ} (h : Whole g t) where
    -- what stands and what is found at an active position
    pub right-step : {p k : ℕ} {x : Contraction} → Right t p k x → Stepping t p x
    right-step {p} {x} r = (step-there s wf h (active_at-sound s t p r.active) x r.found, refl, refl)

    -- the rule of a step and its reduct are those that are found
    pub step_right : {t' : List ℕ} (d : Step s t t') → Told t d.at d.number t'
    step_right {t'} d = go (contraction s (drop d.at t)) refl
      where
        go : (o : Option Contraction) → contraction s (drop d.at t) ≡ o → Told t d.at d.number t'
        go none e = absurd (none-there s wf h d.active e d.number d.chosen d.known d.match)
        go (some x) e = elim (dec_lt x.number d.number) [
          | yes l ↦ absurd (d.lowest x.number f.chosen f.known l f.match)
          | no l ↦ elim (dec_lt d.number x.number) [
            | yes l' ↦ absurd (f.lowest d.number d.chosen d.known l' d.match)
            | no l' ↦ told (omega arith)
          ]
        ]
          where
            f : FirstMatch s t d.at x
            f = first-there s wf h d.active x e

            told : x.number ≡ d.number → Told t d.at d.number t'
            told q = record {
              x = x;
              right = record { active = active_at-complete s wf h d.at d.active; found = e; number = q };
              next = d.next ∙ ap (replace g t d.at) (sym (f.reduct ∙ match-once s wf (subst (λ n. RuleOf s n f.chosen) q f.known) d.known f.match d.match));
            }
