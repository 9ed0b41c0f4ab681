-- Theorem "stopped": an evaluation that a limit stops took the steps of its trace, and stopped for want of what that limit counts. It is told
-- by the steps of a run, and of every end (`evaluation-ends`); of a finished one `theorem-path` says the same by the walk, without the machine.
use Prim.Native.Nat.{ℕ, zero, suc, ◌+◌, ◌≤◌, ◌<◌}
use native.Mathlib.Omega.{arith}
use mathlib.Core.Path.{◌≡◌, refl, sym, ap, ◌∙◌, subst}
use mathlib.Core.Option.{Option, none, some}
use mathlib.Core.List.{List, [], ◌∷◌, ◌++◌}
use lib.ListN.{length, get_or, drop, length-append}
use Rattle.system.specs.Limits.{term_words, levels}
use Rattle.system.specs.declared.numbers.Limit.{Limit}
use Rattle.system.specs.declared.numbers.Limit.TheVariants.{Nested}
use Rattle.system.specs.Signature.{argument}
use Rattle.system.specs.System.{System, Rule}
use Rattle.system.specs.Rules.{RuleOf}
use Rattle.system.specs.Terms.{Whole, Member, WellFormed}
use Rattle.system.proofs.Members.{member-get_or}
use Rattle.reader.proofs.Parsed.{drop_head}
use Rattle.matching.specs.Matching.{Contraction, contraction, Matches}
use Rattle.rewriting.specs.Trace.{Trace}
use Rattle.rewriting.specs.Evaluation.{Limits, Config, start, stepped, steps, Outcome, finished, stopped, evaluation}
use Rattle.rewriting.specs.Rewriting.{Active, root, below, Step, Path, begin}
use Rattle.rewriting.specs.Stopped.{level_of, Opens, first, past, Halts, no_steps, no_room, too_long, too_deep, Stopped}
use Rattle.rewriting.specs.Machine.{strategy_at, down, position, Next, final, deep, ready, around, scan, enter, advance}
use Rattle.rewriting.specs.Opened.{Opened, base, level}
use Rattle.rewriting.specs.Ways.{top}
use Rattle.rewriting.specs.Runs.{Came, ended, sunk, barred, waits, config_of, outcome_of, come, run}
use Rattle.rewriting.proofs.Contractions.{none-there}
use Rattle.rewriting.proofs.OpenLevels.{opened-replace}
use Rattle.rewriting.proofs.Reached.{fires-within, scan-pass, scan-fire}
use Rattle.rewriting.proofs.Runs.{Bars, by_steps, by_room, by_length, tests-cases, come-final, come-deep, come-waits, come-steps, run_is, run-evaluates}
use Rattle.rewriting.proofs.Comings.{Stood, stood, open-state}
use Rattle.rewriting.proofs.Taken.{Took, run-took}
use Rattle.rewriting.proofs.RunPaths.{Along, Led, run-led}

-- ---- where the machine comes to: the levels around the next rewrite are open, and an argument that would be opened too deep is one of the last level

module _ (s : System) (t : List ℕ) where
  -- what contraction tells at p, where a whole subterm stands
  abbrev Told : ℕ → Type 0
  Told p = contraction s (drop p t) ≡ none → (k : ℕ) (r : Rule) → RuleOf s k r → Matches s.arities t p r → ⊥

  -- at p, with l levels left, its own among them: an argument is next on the last of them, at a position below
  data Sinks : ℕ → ℕ → Type 0 where
    bottom : {p i : ℕ} → (Told p → Opens s t p (strategy_at s t p) i) → Sinks 1 p
    further : {l p : ℕ} (i : ℕ) → Member (suc i) (strategy_at s t p) → Sinks l (argument s.arities t p i) → Sinks (suc l) p

  -- where a machine comes to from p on, with l levels left
  abbrev Lands : ℕ → ℕ → Next → Type 0
  Lands l p final = Unit {0}
  Lands l p deep = Sinks l p
  Lands l p (ready cs c x) = Opened s t p cs × (length cs < l)

  lands-around : (l p c i : ℕ) (n on : Next) → c < length (strategy_at s t p) → get_or (strategy_at s t p) c 0 ≡ suc i → Lands l (down s t p (suc c)) n →
      Lands (suc l) p on → Lands (suc l) p (around (suc c) n on)
  unfolding down
  lands-around l p c i final on m e h k = k
  lands-around l p c i deep on m e h k = further i (rw e at (member-get_or (strategy_at s t p) c m)) (rw e at h)
  lands-around l p c i (ready cs d x) on m e h k = (level m e h.0, let z = h.1 in omega arith)

  lands-scan : (l : ℕ) (inner : ℕ → Next) → ((q : ℕ) → Lands l q (inner q)) → (p : ℕ) (es : List ℕ) (c : ℕ) → drop c (strategy_at s t p) ≡ es →
      Lands (suc l) p (scan s inner t es c p)
  unfolding scan down
  lands-scan l inner h p [] c q = tt
  lands-scan l inner h p (zero ∷ es) c q = go (contraction s (drop p t)) refl (lands-scan l inner h p es (suc c) (drop_head _ c 0 es q).2)
    where
      go : (o : Option Contraction) → contraction s (drop p t) ≡ o → Lands (suc l) p (scan s inner t es (suc c) p) → Lands (suc l) p (scan s inner t (0 ∷ es) c p)
      go none f ih = subst (Lands (suc l) p) (sym (scan-pass s inner t es c p f)) ih
      go (some x) f ih = subst (Lands (suc l) p) (sym (scan-fire s inner t es c p x f)) (base, omega arith)
  lands-scan l inner h p (suc i ∷ es) c q =
      let n = drop_head (strategy_at s t p) c (suc i) es q in
      lands-around l p c i (inner (argument s.arities t p i)) (scan s inner t es (suc c) p) n.0 n.1
      (rw n.1 (h (argument s.arities t p i))) (lands-scan l inner h p es (suc c) n.2)

  -- the last level, from its first entry on
  lands_last : (p : ℕ) (es : List ℕ) (c : ℕ) → ((i : ℕ) → (Told p → Opens s t p es i) → Told p → Opens s t p (strategy_at s t p) i) →
      Lands 1 p (scan s (enter s 0 t) t es c p)
  unfolding scan enter
  lands_last p [] c k = tt
  lands_last p (zero ∷ es) c k = go (contraction s (drop p t)) refl (λ f. lands_last p es (suc c) (λ i h. k i (λ n. past (n f) (h n))))
    where
      go : (o : Option Contraction) → contraction s (drop p t) ≡ o →
          (contraction s (drop p t) ≡ none → Lands 1 p (scan s (enter s 0 t) t es (suc c) p)) → Lands 1 p (scan s (enter s 0 t) t (0 ∷ es) c p)
      go none f ih = subst (Lands 1 p) (sym (scan-pass s (enter s 0 t) t es c p f)) (ih f)
      go (some x) f ih = subst (Lands 1 p) (sym (scan-fire s (enter s 0 t) t es c p x f)) (base, omega arith)
  lands_last p (suc i ∷ es) c k = bottom (k i (λ n. first))

  lands-enter : (l q : ℕ) → Lands (suc l) q (enter s (suc l) t q)
  unfolding enter
  lands-enter zero q = lands_last q (strategy_at s t q) 0 (λ i h. h)
  lands-enter (suc l) q = lands-scan (suc l) (enter s (suc l) t) (lands-enter l) q (strategy_at s t q) 0 refl

  -- from a state whose levels are open, the innermost one from its first entry on
  lands : (l : ℕ) {p : ℕ} {cs : List ℕ} → Opened s t p cs → length cs ≤ l → Lands (suc l) p (advance s (suc l) (cs ++ 0 ∷ []) t p)
  unfolding advance
  lands zero {p} base m = lands_last p (strategy_at s t p) 0 (λ i h. h)
  lands zero (level l e o) m = absurd (omega arith)
  lands (suc l) {p} base m = lands-scan (suc l) (enter s (suc l) t) (lands-enter l) p (strategy_at s t p) 0 refl
  lands (suc l) (level {p} {c = d} {i} {cs} k e o) m =
      lands-around (suc l) p d i (advance s (suc l) (cs ++ 0 ∷ []) t (down s t p (suc d)))
      (scan s (enter s (suc l) t) t (drop (suc d) (strategy_at s t p)) (suc d) p) k e
      (lands l o (omega arith)) (lands-scan (suc l) (enter s (suc l) t) (lands-enter l) p (drop (suc d) (strategy_at s t p)) (suc d) refl)

-- so 13 is told of an active position of level 64
sinks-below : (s : System) (wf : WellFormed s) {t : List ℕ} → Whole s.arities t → (limits : Limits) (h : Trace) {l p : ℕ} (a : Active s t p) → Sinks s t l p →
    level_of a + l ≡ suc levels → Halts s limits t h Nested
unfolding level_of
sinks-below s wf w limits h a (bottom o) e = too_deep a (omega arith) (o (none-there s wf w a))
sinks-below s wf w limits h a (further i st d) e = sinks-below s wf w limits h (below i a st) d (omega arith)

sinks-halts : (s : System) (wf : WellFormed s) {t : List ℕ} → Whole s.arities t → (limits : Limits) (h : Trace) → Sinks s t levels 0 → Halts s limits t h Nested
unfolding level_of
sinks-halts s wf w limits h d = sinks-below s wf w limits h root d refl

-- ---- a run that sinks

module _ (s : System) (wf : WellFormed s) (limits : Limits) where
  -- from the first entry of the whole term's strategy on, 13 tells of an argument that is next on the last level
  abbrev Sunk : Came → Type 0
  Sunk (ended r) = Unit {0}
  Sunk (sunk r) = Sinks s r.term levels 0
  Sunk (barred l outer c x r) = Unit {0}
  Sunk (waits outer c x r) = Unit {0}

  come-sunk : (k : ℕ) (n : Next) (r : Config) → Lands s r.term levels 0 n → Stood s r.term levels 0 n → Sunk (come s limits 0 k n r)
  come-sunk zero n r o m = go n o
    where
      go : (n : Next) → Lands s r.term levels 0 n → Sunk (come s limits 0 0 n r)
      go final o = subst Sunk (sym (come-final s limits 0 0 r)) tt
      go deep o = subst Sunk (sym (come-deep s limits 0 0 r)) o
      go (ready outer c x) o =
          subst Sunk (sym (come-waits s limits 0 outer c x r))
          (tests-cases s limits outer c x r Sunk (position s r.term outer 0) (waits outer c x r) (λ l b. tt) (λ f. tt))
  come-sunk (suc k) n r o m = go n o m (λ n r. come-sunk k n r)
    where
      go : (n : Next) → Lands s r.term levels 0 n → Stood s r.term levels 0 n →
          ((n : Next) (r : Config) → Lands s r.term levels 0 n → Stood s r.term levels 0 n → Sunk (come s limits 0 k n r)) → Sunk (come s limits 0 (suc k) n r)
      go final o m ih = subst Sunk (sym (come-final s limits 0 (suc k) r)) tt
      go deep o m ih = subst Sunk (sym (come-deep s limits 0 (suc k) r)) o
      go (ready outer c x) o m ih =
          let q = position s r.term outer 0 in
          let r₁ = stepped s q r x in
          let t₁ = r₁.term in
          let n = advance s levels (outer ++ 0 ∷ []) t₁ 0 in
          let d : Opened s t₁ 0 outer = (opened-replace s r.term x.reduct q o.0 (omega arith) (fires-within s wf r.term q x m.1)).0 in
          let on = ih n r₁ (lands s t₁ 63 d (let z = o.1 in omega arith)) (stood s t₁ levels (outer ++ 0 ∷ []) 0 (open-state s t₁ d 0)) in
          subst Sunk (sym (come-steps s limits 0 outer c x r k)) (tests-cases s limits outer c x r Sunk q (run s limits 0 k (outer ++ 0 ∷ []) r₁) (λ l b. tt)
          (λ f. subst Sunk (sym (run_is s limits 0 k (outer ++ 0 ∷ []) r₁)) on))

  run-sunk : (k : ℕ) (r : Config) → Sunk (run s limits 0 k (0 ∷ []) r)
  run-sunk k r =
      let t = r.term in
      subst Sunk (sym (run_is s limits 0 k (0 ∷ []) r))
      (come-sunk k (advance s levels (0 ∷ []) t 0) r (lands s t 63 base (omega arith)) (stood s t levels (0 ∷ []) 0 (open-state s t base 0)))

-- ---- the theorem: by the steps of a run that has as many as the limit allows

module _ (s : System) (wf : WellFormed s) (limits : Limits) (t₀ : List ℕ) where
  -- what an end tells: the steps of its trace lead from t₀ to the term that is handed back, or to the one at which the evaluation stopped
  abbrev pub Ends : Outcome → Type 0
  Ends (finished r) = Path s term_words t₀ r.trace r.term
  Ends (stopped n h) = Stopped s limits t₀ n h

  module _ (o : Came) (y : Took s limits 0 limits.steps (start t₀) o) where
    affords : steps (config_of o) ≤ limits.steps
    affords = y.afford (omega arith)

    halt : {n : Limit} → Along s wf limits t₀ 0 (config_of o) → Halts s limits (config_of o).term (config_of o).trace n → Stopped s limits t₀ n (config_of o).trace
    halt h w = record {
      last = (config_of o).term;
      path = h.path;
      whole = h.whole;
      afford = affords;
      roomy = λ m e. y.roomy m e (omega arith);
      why = w;
    }

  -- a limit stopped the next step
  barred-halts : {q : ℕ} {x : Contraction} {r : Config} {l : Limit} → Step s r.term (stepped s q r x).term → steps r ≤ limits.steps → Bars s limits q x r l →
      Halts s limits r.term r.trace l
  barred-halts d a (by_steps n) = no_steps d (omega arith)
  barred-halts d a (by_room n b) = no_room d n b
  barred-halts d a (by_length n b m) = too_long d n b m

  came-ends : (o : Came) → Took s limits 0 limits.steps (start t₀) o → Led s wf limits t₀ 0 o → Sunk s wf limits o → Ends (outcome_of o)
  came-ends (ended r) y h d = h.path
  came-ends (sunk r) y h d = halt (sunk r) y h (sinks-halts s wf h.whole limits r.trace d)
  came-ends (barred l outer c x r) y h d =
      let o = barred l outer c x r in
      halt o y h.0 (barred-halts h.1 (affords o y) y.judged)
  came-ends (waits outer c x r) y h d =
      let n : steps r ≡ limits.steps = ap length y.trace ∙ length-append y.more [] ∙ (let z = y.all tt in omega arith) in
      absurd (let z = y.judged.0 in omega arith)

  -- however an evaluation ends, it took the steps of its trace
  pub evaluation-ends : Whole s.arities t₀ → length t₀ ≤ term_words → Ends (evaluation s limits t₀)
  unfolding evaluation
  evaluation-ends h l =
      let n = limits.steps in
      let r = start t₀ in
      let along : Along s wf limits t₀ 0 r = record { path = begin l; whole = h; symbols = []; way = top } in
      subst Ends (run-evaluates s limits 0 wf n r (omega arith) (omega arith))
      (came-ends (run s limits 0 n (0 ∷ []) r) (run-took s limits 0 n (0 ∷ []) r) (run-led s wf limits t₀ 0 n [] 0 r along base) (run-sunk s wf limits n r))

  -- one that a limit stops
  pub stopped-path : (n : Limit) (h : Trace) → Whole s.arities t₀ → length t₀ ≤ term_words → evaluation s limits t₀ ≡ stopped n h → Stopped s limits t₀ n h
  stopped-path n h w l e = subst Ends e (evaluation-ends w l)
