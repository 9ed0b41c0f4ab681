-- The replay accepts a record exactly if it tells of a list of steps, and ends in the term that they lead to.
use Prim.Native.Nat.{ℕ, ◌≤◌}
use native.Mathlib.Omega.{arith}
use native.Mathlib.Decide.{dec_le}
use mathlib.Core.Path.{◌≡◌, refl, sym, ap, ◌∙◌, subst, subst₂}
use mathlib.Core.Logic.{◌↔◌}
use mathlib.Core.List.{List, [], ◌∷◌}
use lib.ListN.{length}
use Rattle.system.specs.Limits.{term_words}
use Rattle.system.specs.Signature.{Signature, replace}
use Rattle.system.specs.System.{System}
use Rattle.system.specs.Terms.{Whole, WellFormed}
use Rattle.rewriting.specs.Trace.{Trace, in_order}
use Rattle.rewriting.specs.Evaluation.{Limits, Config, finished, start, evaluation}
use Rattle.rewriting.specs.Rewriting.{Path, begin, then}
use Rattle.rewriting.proofs.Done.{theorem-path}
use Rattle.replay.specs.Replay.{Replay, followed, mistold, exceeded, replay, Verdict, accepted, half, wrong, long}
use Rattle.replay.proofs.Pairs.{Right, Paired, right-told, paired, replay-end, replay-half, replay-wrong, replay-long, replay-goes, right-step, step_right}

module _ (s : System) (wf : WellFormed s) where
  abbrev g : Signature
  g = s.arities

  pub path-whole : {size : ℕ} {t₀ t : List ℕ} {h : Trace} → Whole g t₀ → Path s size t₀ h t → Whole g t
  path-whole w (begin l) = w
  path-whole w (then p d l) = d.left

  -- complete: a record that tells of a list of steps is followed to its end
  pub replay-follows : {t₀ t : List ℕ} {h : Trace} → Whole g t₀ → Path s term_words t₀ h t → (ws : List ℕ) →
      replay s (in_order h ws) (start t₀) ≡ replay s ws (record { term = t; trace = h })
  unfolding in_order
  replay-follows w (begin l) ws = refl
  replay-follows w (then {h} {t} {t'} p d l) ws =
      let c = step_right s wf (path-whole w p) d in
      let r : Config = record { term = t; trace = h } in
      replay-follows w p (d.at ∷ d.number ∷ ws)
      ∙ replay-goes s d.at d.number ws r c.x (right-told s t d.at d.number c.right) (subst (λ z. length z ≤ term_words) c.next l)
      ∙ (λ i. replay s ws (record { term = sym c.next i; trace = record { at = d.at; number = c.right.number i } ∷ h }))

  -- sound: what the replay answers, for every record
  module _ (t₀ : List ℕ) (w : Whole g t₀) (all : List ℕ) where
    -- from t on, where the pairs of h are passed and ws are left
    abbrev Answers : List ℕ → Trace → List ℕ → Type 0
    Answers ws h t = Path s term_words t₀ h t → all ≡ in_order h ws → Verdict s t₀ all (replay s ws (record { term = t; trace = h }))

    pair-verdict : (i k : ℕ) (ws : List ℕ) (h : Trace) (t : List ℕ) → Paired s t i k → ((h : Trace) (t : List ℕ) → Answers ws h t) → Answers (i ∷ k ∷ ws) h t
    unfolding in_order
    pair-verdict i k ws h t (Paired.wrong q none_right) ih p e =
        subst (Verdict s t₀ all) (sym (replay-wrong s i k ws (record { term = t; trace = h }) q))
        (wrong i k ws p e (λ t' d a n. let c = step_right s wf (path-whole w p) d in none_right c.x (subst₂ (λ a n. Right s t a n c.x) a n c.right)))
    pair-verdict i k ws h t (Paired.right x q y) ih p e =
        let r : Config = record { term = t; trace = h } in
        let c = right-step s wf (path-whole w p) y in
        let t' = replace g t i x.reduct in
        elim (dec_le (length t') term_words) [
          | no m ↦ subst (Verdict s t₀ all) (sym (replay-long s i k ws r x q (omega arith))) (long i k ws p e c.0 c.1 (c.2 ∙ y.number) (omega arith))
          | yes m ↦
              subst (Verdict s t₀ all) (sym (replay-goes s i k ws r x q m))
              (ih (record { at = i; number = x.number } ∷ h) t'
              (subst₂ (λ a n. Path s term_words t₀ (record { at = a; number = n } ∷ h) t') c.1 c.2 (then p c.0 m))
              (e ∙ ap (λ n. in_order h (i ∷ n ∷ ws)) (sym y.number)))
        ]

    verdict : (ws : List ℕ) (h : Trace) (t : List ℕ) → Answers ws h t
    verdict [] h t p e = subst (Verdict s t₀ all) (sym (replay-end s (record { term = t; trace = h }))) (accepted p e)
    verdict (i ∷ []) h t p e = subst (Verdict s t₀ all) (sym (replay-half s i (record { term = t; trace = h }))) (half i p e)
    verdict (i ∷ k ∷ ws) h t p e = pair-verdict i k ws h t (paired s t i k) (verdict ws) p e

  pub replay-verdict : (t₀ ws : List ℕ) → Whole g t₀ → length t₀ ≤ term_words → Verdict s t₀ ws (replay s ws (start t₀))
  unfolding in_order
  replay-verdict t₀ ws w l = verdict t₀ w ws ws [] t₀ (begin l) refl

  -- accepted exactly if the record tells of a list of steps to that term
  pub replay-accepts : (t₀ ws : List ℕ) (r : Config) → Whole g t₀ → length t₀ ≤ term_words →
      (replay s ws (start t₀) ≡ followed r) ↔ (Path s term_words t₀ r.trace r.term × (ws ≡ in_order r.trace []))
  replay-accepts t₀ ws r w l =
      (tells (replay s ws (start t₀)) (replay-verdict t₀ ws w l), λ c. ap (λ z. replay s z (start t₀)) c.1 ∙ replay-follows w c.0 [] ∙ replay-end s r)
    where
      tells : (o : Replay) → Verdict s t₀ ws o → o ≡ followed r → Path s term_words t₀ r.trace r.term × (ws ≡ in_order r.trace [])
      tells (followed r') (accepted p e) q = let z : r' ≡ r = cc in subst (λ y. Path s term_words t₀ y.trace y.term × (ws ≡ in_order y.trace [])) z (p, e)
      tells (mistold h) v q = absurd (let z : ◌≡◌ {A = ℕ} 0 1 = cc in omega arith)
      tells (exceeded h) v q = absurd (let z : ◌≡◌ {A = ℕ} 0 1 = cc in omega arith)

  -- "Every record that our expander wrote for a finished cue, cut to its pairs, is accepted and ends in that cue"
  pub recorded-accepted : (limits : Limits) (t : List ℕ) (r : Config) → Whole g t → length t ≤ term_words → evaluation s limits t ≡ finished r →
      replay s (in_order r.trace []) (start t) ≡ followed r
  recorded-accepted limits t r h l e = replay-follows h (theorem-path s wf limits t r h l e) [] ∙ replay-end s r
