-- The steps that a run takes: how many; that the one before which it stands is stopped by the limit that it tells, or by none; and that they are the
-- first ones of the evaluation there.
use Prim.Native.Nat.{ℕ, zero, suc, ◌+◌, ◌*◌, ◌≤◌}
use native.Mathlib.Omega.{arith}
use mathlib.Core.Path.{◌≡◌, refl, sym, ap, ◌∙◌, subst}
use mathlib.Core.Option.{some}
use mathlib.Core.List.{List, [], ◌∷◌, ◌++◌, append_assoc}
use lib.ListN.{length, length-append}
use Rattle.system.specs.Limits.{levels}
use Rattle.system.specs.System.{System}
use Rattle.system.specs.Terms.{WellFormed}
use Rattle.matching.specs.Matching.{Contraction}
use Rattle.rewriting.specs.Trace.{Trace}
use Rattle.rewriting.specs.Evaluation.{Limits, Config, stepped, steps, evaluate, trace_of}
use Rattle.rewriting.specs.Machine.{position, Next, final, deep, ready, advance}
use Rattle.rewriting.specs.Runs.{Came, ended, sunk, barred, waits, config_of, outcome_of, come, run, onward}
use Rattle.rewriting.proofs.Walks.{roomy as has_room_lem}
use Rattle.rewriting.proofs.Runs.{Bars, Free, tests-cases, come-final, come-deep, come-waits, come-steps, run_is, run_more, run-evaluates}

module _ (s : System) (limits : Limits) (p : ℕ) where
  -- it waits before a step
  abbrev pub Waits : Came → Type 0
  Waits (ended r) = ⊥
  Waits (sunk r) = ⊥
  Waits (barred l outer c x r) = ⊥
  Waits (waits outer c x r) = Unit {0}

  -- the step before which it stands is stopped by that limit, or by none
  abbrev pub Judged : Came → Type 0
  Judged (ended r) = Unit {0}
  Judged (sunk r) = Unit {0}
  Judged (barred l outer c x r) = Bars s limits (position s r.term outer p) x r l
  Judged (waits outer c x r) = Free s limits (position s r.term outer p) x r

  -- from r at most k steps were taken, these, and just k where it waits; no more than the step limit allows, and a record has room for their pairs
  pub record Took (k : ℕ) (r : Config) (o : Came) : Type 0 where
    pub more : Trace
    pub trace : (config_of o).trace ≡ more ++ r.trace
    pub most : length more ≤ k
    pub all : Waits o → length more ≡ k
    pub afford : steps r ≤ limits.steps → steps (config_of o) ≤ limits.steps
    pub roomy : (m : ℕ) → limits.room ≡ some m → 2 * steps r ≤ m → 2 * steps (config_of o) ≤ m
    pub judged : Judged o

  took-none : (k : ℕ) (o : Came) → (Waits o → 0 ≡ k) → Judged o → Took k (config_of o) o
  took-none k o w c = record { more = []; trace = refl; most = omega arith; all = w; afford = λ h. h; roomy = λ m e h. h; judged = c }

  took_one : (k : ℕ) (q : ℕ) (r : Config) (x : Contraction) (o : Came) → Free s limits q x r → Took k (stepped s q r x) o → Took (suc k) r o
  took_one k q r x o f y =
      let d : Trace = record { at = q; number = x.number } ∷ [] in
      let n = length-append y.more d in
      record {
        more = y.more ++ d;
        trace = y.trace ∙ sym (append_assoc y.more d r.trace);
        most = (let z = y.most in omega arith);
        all = λ w. (let z = y.all w in omega arith);
        afford = λ h. y.afford f.0;
        roomy = λ m e h. y.roomy m e (let z = has_room_lem limits.room (steps r) m e f.1 in omega arith);
        judged = y.judged;
      }

  come-took : (k : ℕ) (z : Next) (r : Config) → Took k r (come s limits p k z r)
  come-took zero z r = go z
    where
      go : (z : Next) → Took 0 r (come s limits p 0 z r)
      go final = subst (Took 0 r) (sym (come-final s limits p 0 r)) (took-none 0 (ended r) (λ w. refl) tt)
      go deep = subst (Took 0 r) (sym (come-deep s limits p 0 r)) (took-none 0 (sunk r) (λ w. refl) tt)
      go (ready outer c x) = subst (Took 0 r) (sym (come-waits s limits p outer c x r)) (tests-cases s limits outer c x r (Took 0 r) (position s r.term outer p) (waits outer c x r)
          (λ l b. took-none 0 (barred l outer c x r) (λ w. refl) b) (λ f. took-none 0 (waits outer c x r) (λ w. refl) f))
  come-took (suc k) z r = go z (λ z r. come-took k z r)
    where
      go : (z : Next) → ((z : Next) (r : Config) → Took k r (come s limits p k z r)) → Took (suc k) r (come s limits p (suc k) z r)
      go final ih = subst (Took (suc k) r) (sym (come-final s limits p (suc k) r)) (took-none (suc k) (ended r) (λ w. absurd w) tt)
      go deep ih = subst (Took (suc k) r) (sym (come-deep s limits p (suc k) r)) (took-none (suc k) (sunk r) (λ w. absurd w) tt)
      go (ready outer c x) ih =
          let q = position s r.term outer p in
          let r₁ = stepped s q r x in
          let on = run s limits p k (outer ++ 0 ∷ []) r₁ in
          let then : Took k r₁ on = subst (Took k r₁) (sym (run_is s limits p k (outer ++ 0 ∷ []) r₁)) (ih (advance s levels (outer ++ 0 ∷ []) r₁.term p) r₁) in
          subst (Took (suc k) r) (sym (come-steps s limits p outer c x r k)) (tests-cases s limits outer c x r (Took (suc k) r) q on
          (λ l b. took-none (suc k) (barred l outer c x r) (λ w. absurd w) b) (λ f. took_one k q r x on f then))

  -- the theorem: the steps that a run took, and what stops the next one
  pub run-took : (k : ℕ) (cs : List ℕ) (r : Config) → Took k r (run s limits p k cs r)
  run-took k cs r = subst (Took k r) (sym (run_is s limits p k cs r)) (come-took k (advance s levels cs r.term p) r)

  onward-trace : (n : ℕ) (o : Came) → (more : Trace) × ((config_of (onward s limits p n o)).trace ≡ more ++ (config_of o).trace)
  onward-trace n (ended r) = ([], refl)
  onward-trace n (sunk r) = ([], refl)
  onward-trace n (barred l outer c x r) = ([], refl)
  onward-trace n (waits outer c x r) = let y = come-took n (ready outer c x) r in (y.more, y.trace)

  outcome-trace : (o : Came) → trace_of (outcome_of o) ≡ (config_of o).trace
  outcome-trace (ended r) = refl
  outcome-trace (sunk r) = refl
  outcome-trace (barred l outer c x r) = refl
  outcome-trace (waits outer c x r) = refl

  -- and the steps of a run are the first ones of the evaluation there
  pub run-first : WellFormed s → (m : ℕ) (r : Config) → steps r ≤ limits.steps →
      (more : Trace) × (trace_of (evaluate s limits levels p r) ≡ more ++ (config_of (run s limits p m (0 ∷ []) r)).trace)
  run-first wf m r h =
      let n = limits.steps in
      let y = onward-trace n (run s limits p m (0 ∷ []) r) in (
        y.0,
        sym (ap trace_of (run-evaluates s limits p wf (m + n) r h (omega arith))) ∙ outcome-trace (run s limits p (m + n) (0 ∷ []) r)
            ∙ ap (λ o. (config_of o).trace) (run_more s limits p m n (0 ∷ []) r) ∙ y.1,
      )
