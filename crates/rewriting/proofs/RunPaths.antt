-- The steps of a run at an active position are steps of demand 3, from the term it began with to the one it came to; and so is the one before which
-- it stands.
use Prim.Native.Nat.{ℕ, zero, suc}
use native.Mathlib.Omega.{arith}
use mathlib.Core.Path.{sym, subst}
use mathlib.Core.List.{List, [], ◌∷◌, ◌++◌}
use Rattle.system.specs.Limits.{levels, term_words}
use Rattle.system.specs.System.{System}
use Rattle.system.specs.Terms.{Whole, WellFormed}
use Rattle.matching.specs.Matching.{Contraction}
use Rattle.rewriting.specs.Rewriting.{Step, Path, then}
use Rattle.rewriting.specs.Evaluation.{Limits, Config, stepped}
use Rattle.rewriting.specs.Machine.{position, Next, final, deep, ready, advance}
use Rattle.rewriting.specs.Opened.{Opened}
use Rattle.rewriting.specs.Ways.{Way}
use Rattle.rewriting.specs.Runs.{Came, ended, sunk, barred, waits, come, run}
use Rattle.rewriting.proofs.Contractions.{step-there}
use Rattle.rewriting.proofs.Laws.{position-le}
use Rattle.rewriting.proofs.OpenLevels.{opened-active, opened-replace}
use Rattle.rewriting.proofs.Ways.{way-active, way-kept}
use Rattle.rewriting.proofs.Runs.{Free, tests-cases, come-final, come-deep, come-waits, come-steps, run_is}
use Rattle.rewriting.proofs.Comings.{Stood, stood, open-state}

module _ (s : System) (wf : WellFormed s) (limits : Limits) (t₀ : List ℕ) (p : ℕ) where
  -- the steps so far lead from t₀ to the term, which is whole, and p is active in it: this is the way to it
  pub record Along (r : Config) : Type 0 where
    pub path : Path s term_words t₀ r.trace r.term
    pub whole : Whole s.arities r.term
    pub symbols : List ℕ
    pub way : Way s r.term symbols p

  -- where a run came to; and the step before which it stands
  abbrev pub Led : Came → Type 0
  Led (ended r) = Along r
  Led (sunk r) = Along r
  Led (barred l outer c x r) = Along r × Step s r.term (stepped s (position s r.term outer p) r x).term
  Led (waits outer c x r) = Along r × Step s r.term (stepped s (position s r.term outer p) r x).term

  module _ (outer : List ℕ) (c : ℕ) (x : Contraction) (r : Config) (h : Along r) (k : Stood s r.term levels p (ready outer c x)) where
    abbrev t : List ℕ
    t = r.term

    abbrev q : ℕ
    q = position s t outer p

    abbrev after : Config
    after = stepped s q r x

    abbrev next : Step s t after.term
    next = step-there s wf h.whole (opened-active s t (way-active h.way) k.0) x k.1

    after-along : Free s limits q x r → Along after
    after-along f = record {
      path = then h.path next f.2;
      whole = next.left;
      symbols = h.symbols;
      way = way-kept q x.reduct next.within (position-le s t outer p) h.way;
    }

    after-stood : Stood s after.term levels p (advance s levels (outer ++ 0 ∷ []) after.term p)
    after-stood =
        stood s after.term levels (outer ++ 0 ∷ []) p (open-state s after.term (opened-replace s t x.reduct q k.0 (omega arith) next.within).0 0)

  come-led : (k : ℕ) (n : Next) (r : Config) → Along r → Stood s r.term levels p n → Led (come s limits p k n r)
  come-led zero n r h m = go n m
    where
      go : (n : Next) → Stood s r.term levels p n → Led (come s limits p 0 n r)
      go final m = subst Led (sym (come-final s limits p 0 r)) h
      go deep m = subst Led (sym (come-deep s limits p 0 r)) h
      go (ready outer c x) m =
          let d = next outer c x r h m in
          subst Led (sym (come-waits s limits p outer c x r)) (tests-cases s limits outer c x r Led (position s r.term outer p) (waits outer c x r) (λ l b. (h, d)) (λ f. (h, d)))
  come-led (suc k) n r h m = go n m (λ n r. come-led k n r)
    where
      go : (n : Next) → Stood s r.term levels p n → ((n : Next) (r : Config) → Along r → Stood s r.term levels p n → Led (come s limits p k n r)) →
          Led (come s limits p (suc k) n r)
      go final m ih = subst Led (sym (come-final s limits p (suc k) r)) h
      go deep m ih = subst Led (sym (come-deep s limits p (suc k) r)) h
      go (ready outer c x) m ih =
          let q = position s r.term outer p in
          let r₁ = stepped s q r x in
          let on = run s limits p k (outer ++ 0 ∷ []) r₁ in
          let goes : Free s limits q x r → Led on = λ f. subst Led (sym (run_is s limits p k (outer ++ 0 ∷ []) r₁))
          (ih (advance s levels (outer ++ 0 ∷ []) r₁.term p) r₁ (after-along outer c x r h m f) (after-stood outer c x r h m)) in
          subst Led (sym (come-steps s limits p outer c x r k)) (tests-cases s limits outer c x r Led q on (λ l b. (h, next outer c x r h m)) goes)

  -- the theorem
  pub run-led : (k : ℕ) (outer : List ℕ) (c : ℕ) (r : Config) → Along r → Opened s r.term p outer → Led (run s limits p k (outer ++ c ∷ []) r)
  run-led k outer c r h o =
      subst Led (sym (run_is s limits p k (outer ++ c ∷ []) r))
      (come-led k (advance s levels (outer ++ c ∷ []) r.term p) r h (stood s r.term levels (outer ++ c ∷ []) p (open-state s r.term o c)))
