-- Theorem "done": an evaluation that finishes is a list of steps, as many as it reports, in which no term is too long.
use Prim.Native.Nat.{ℕ, suc, ◌+◌, ◌≤◌, ◌<◌}
use native.Mathlib.Nat.{zero-add}
use native.Mathlib.Omega.{arith}
use mathlib.Core.Path.{◌≡◌, refl, sym, ◌∙◌, subst, subst₂}
use mathlib.Core.List.{List, [], ◌∷◌, ◌++◌, append-nil, flatten}
use lib.ListN.{length, get_or, set, take, drop, length-append}
use Rattle.system.specs.Limits.{levels, term_words}
use Rattle.system.specs.Signature.{Signature, Symbol}
use Rattle.system.specs.System.{System, strategy, head}
use Rattle.system.specs.Terms.{more, Whole, Member, first, later, WellFormed}
use Rattle.rewriting.specs.Evaluation.{Limits, Config, steps, finished, evaluation}
use Rattle.rewriting.specs.Trace.{Trace}
use Rattle.rewriting.specs.Rewriting.{Active, root, below, Steps, done, step, Path, begin, then}
use Rattle.rewriting.specs.Outcomes.{Done}
use Rattle.system.proofs.Forests.{focus, focus-here, node-whole, node-set}
use Rattle.system.proofs.Places.{patch, at-word, at-argument, at-replace}
use Rattle.matching.proofs.Firsts.{fired}
use Rattle.rewriting.proofs.Walks.{Walk, end, pass, fire, open', Bounded, traced, evaluate-local}
use Rattle.rewriting.proofs.Actives.{active-front}

module _ (s : System) where
  abbrev g : Signature
  g = s.arities

  module _ {size : ℕ} where
    pub path-last : {t₀ t : List ℕ} {h : Trace} → Path s size t₀ h t → length t ≤ size
    path-last (begin l) = l
    path-last (then p d l) = l

    -- a path, and the steps after it
    path-append : {t₀ t t' : List ℕ} {h : Trace} {n : ℕ} → Path s size t₀ h t → Steps s size n t t' → Steps s size (length h + n) t₀ t'
    path-append {n = n} (begin l) q = rw (zero-add n) q
    path-append {t₀} {t' = t''} {n = n} (then {h} p d l) q =
        subst (λ k. Steps s size k t₀ t'') (let z : length h + suc n ≡ suc (length h) + n = omega arith in z) (path-append p (step (path-last p) d q))

    pub path-steps : {t₀ t : List ℕ} {h : Trace} → Path s size t₀ h t → Steps s size (length h) t₀ t
    path-steps {t₀} {t} {h} p = subst (λ k. Steps s size k t₀ t) (let z : length h + 0 ≡ length h = omega arith in z) (path-append p (done (path-last p)))

    pub steps-none : {t t' : List ℕ} → Steps s size 0 t t' → t ≡ t'
    steps-none (done h) = refl

    -- the last term is one of the list
    pub steps-last : {n : ℕ} {t t' : List ℕ} → Steps s size n t t' → length t' ≤ size
    steps-last (done h) = h
    steps-last (step h d p) = steps-last p

  -- a position stays active whatever is put there
  pub active-change : (a b d : List ℕ) {u : List ℕ} → Whole g u → Active s (a ++ (u ++ b)) (length a) → Active s (a ++ d) (length a)
  active-change a b d (more {w} {ws} h f) act = active-front s a w (ws ++ b) d act (omega arith)

  pub whole-within : (a b : List ℕ) {u : List ℕ} → Whole g u → length a < length (a ++ (u ++ b))
  whole-within a b (more {w} {ws} h f) = rw (length-append a (w ∷ ws ++ b)) (omega arith)

  module _ (wf : WellFormed s) where
    pub walk-whole : {l n : ℕ} {es u v : List ℕ} → Walk s l es u v n → Whole g u → Whole g v
    walk-whole end h = h
    walk-whole (pass q k) h = walk-whole k h
    walk-whole (fire {x} q k) h = walk-whole k (fired s wf h [] [] x q).left
    walk-whole (open' {w} {i} {us} {v} d m k f) h = walk-whole f (node-whole g w (set us i v) (node-set g w us i v d (walk-whole k (d.wholes i m))))

    -- a walk on the subterm at an active position is a list of steps of the whole term
    pub walk-path : (t₀ : List ℕ) {l n : ℕ} {es u v : List ℕ} (k : Walk s l es u v n) (a b : List ℕ) (h : Trace) → Bounded s k a b →
        Path s term_words t₀ h (a ++ (u ++ b)) → Whole g (a ++ (u ++ b)) → Whole g u → Active s (a ++ (u ++ b)) (length a) →
        ((e : ℕ) → Member e es → Member e (strategy s (head u))) → Path s term_words t₀ (traced s k a h) (a ++ (v ++ b))
    walk-path t₀ end a b tr fit l ht h act st = l
    walk-path t₀ (pass q k) a b tr fit l ht h act st = walk-path t₀ k a b tr fit l ht h act (λ e z. st e (later z))
    walk-path t₀ (fire {x} q k) a b tr fit l ht h act st =
        let f = fired s wf h a b x q in
        let ht' = patch g (Symbol g) a b ht h f.left in
        walk-path t₀ k a b _ fit.1 (then {t' = a ++ (x.reduct ++ b)} l
        (record {
          at = length a;
          number = x.number;
          within = whole-within a b h;
          chosen = f.chosen;
          known = f.known;
          active = act;
          match = f.match;
          lowest = f.lowest;
          next = rw (← f.reduct) (sym (at-replace g (Symbol g) a b x.reduct h));
          left = ht';
        }) fit.0) ht' f.left (active-change a b (x.reduct ++ b) h act) (λ e z. z)
    walk-path t₀ (open' {w} {i} {us} {v} d m k f) a b tr fit l ht h act st =
        let a' = a ++ w ∷ flatten (take i us) in
        let b' = flatten (drop (suc i) us) ++ b in
        let ht' : Whole g (a' ++ (get_or us i [] ++ b')) = rw (focus-here a b w us i m) at ht in
        let act' : Active s (a' ++ (get_or us i [] ++ b')) (length a') =
        rw (at-argument g (Symbol g) a b w us i m d.wholes, focus-here a b w us i m) at
        (below i act (rw (at-word g a b w (flatten us)) (st (suc i) first))) in
        let hv = walk-whole k (d.wholes i m) in
        let p = walk-path t₀ k a' b' tr fit.0 (rw (focus-here a b w us i m) at l) ht' (d.wholes i m) act' (λ e z. z) in
        walk-path t₀ f a b (traced s k a' tr) fit.1 (rw (← focus a b w us i v m) at p) (rw (← focus a b w us i v m) at (patch g (Symbol g) a' b' ht' (d.wholes i m) hv))
        (node-whole g w (set us i v) (node-set g w us i v d hv)) (active-change a b _ h act) (λ e z. st e (later z))

    -- an evaluation that finishes: the steps of its trace lead from the term to the one that it hands back
    pub theorem-path : (limits : Limits) (t : List ℕ) (r : Config) → Whole g t → length t ≤ term_words → evaluation s limits t ≡ finished r → Path s term_words t r.trace r.term
    unfolding evaluation
    theorem-path limits t r h l e =
        let c = evaluate-local s limits wf levels [] [] t [] r h (rw (append-nil t) e) in
        subst₂ (λ k v. Path s term_words t k v) (sym c.trace) (sym c.term)
        (walk-path t c.walk [] [] [] c.bounded (rw (append-nil t) (begin l)) (rw (append-nil t) h) h root (λ e z. z))

    -- whatever the limits: what an evaluation hands back
    pub theorem-done : (limits : Limits) (t : List ℕ) (r : Config) → Whole g t → length t ≤ term_words → evaluation s limits t ≡ finished r → Done s limits t r.term (steps r)
    unfolding evaluation
    theorem-done limits t r h l e =
        let c = evaluate-local s limits wf levels [] [] t [] r h (rw (append-nil t) e) in
        let q : r.term ≡ c.outcome = c.term ∙ append-nil c.outcome in
        let f = c.afford (let z : 0 ≤ limits.steps = omega arith in z, λ m e. omega arith) in
        let path : Steps s term_words (steps r) t r.term = path-steps (theorem-path limits t r h l e) in
        record {
          path = path;
          none = λ z. steps-none (subst (λ k. Steps s term_words k t r.term) z path);
          whole = rw q c.whole;
          afford = f.0;
          roomy = f.1;
        }
