-- An evaluation that finishes, told on the subterm alone: a walk. Evaluating at a position changes the subterm there and nothing else.
use Prim.Native.Nat.{ℕ, zero, suc, ◌+◌, ◌*◌, ◌≤◌, ◌<◌}
use native.Mathlib.Omega.{arith}
use mathlib.Core.Path.{◌≡◌, refl, sym, ap, ◌∙◌, subst}
use mathlib.Core.Bool.{Bool, true, false}
use mathlib.Core.Option.{Option, none, some}
use mathlib.Core.List.{List, [], ◌∷◌, ◌++◌, flatten}
use lib.ListN.{length, get_or, set, take, drop}
use native.Mathlib.Decide.{dec_lt, dec_le}
use borrow.Author.Tests.{lt-ltb, le-ltb, le-leb, lt-leb, leb-true}
use Rattle.system.specs.Limits.{term_words}
use Rattle.system.specs.declared.numbers.Limit.{Limit}
use Rattle.system.specs.declared.numbers.Limit.TheVariants.{Spent, Overlong, Nested, Full}
use Rattle.system.specs.Signature.{Signature, Symbol, arity, argument}
use Rattle.system.specs.System.{System, strategy, head}
use Rattle.system.specs.Terms.{Whole, Member, first, later, WellFormed}
use Rattle.matching.specs.Matching.{Contraction, contraction}
use Rattle.rewriting.specs.Evaluation.{Limits, has_room, Config, stepped, steps, Outcome, finished, stopped, and_then, rewrite, follow, at_root, evaluate}
use Rattle.rewriting.specs.Trace.{Trace}
use Rattle.system.proofs.Forests.{Node, node-whole, node-set, as-node, focus, focus-here}
use Rattle.system.proofs.Places.{at-word, at-argument, at-replace}
use Rattle.matching.proofs.Firsts.{contraction-at, fired}

-- `Walk s levels es u v n`: following the entries es on the term u takes n steps and leaves v
pub data Walk (s : System) : ℕ → List ℕ → List ℕ → List ℕ → ℕ → Type 0 where
  end : {l : ℕ} {u : List ℕ} → Walk s (suc l) [] u u 0
  pass : {l n : ℕ} {es u v : List ℕ} → contraction s u ≡ none → Walk s (suc l) es u v n → Walk s (suc l) (0 ∷ es) u v n
  fire : {l n : ℕ} {es u v : List ℕ} {x : Contraction} → contraction s u ≡ some x →
      Walk s (suc l) (strategy s (head x.reduct)) x.reduct v n → Walk s (suc l) (0 ∷ es) u v (suc n)
  open' : {l m n w i : ℕ} {us : List (List ℕ)} {es v v' : List ℕ} → Node s.arities w us → i < length us →
      Walk s l (strategy s (head (get_or us i []))) (get_or us i []) v m → Walk s (suc l) es (w ∷ flatten (set us i v)) v' n →
      Walk s (suc l) (suc i ∷ es) (w ∷ flatten us) v' (m + n)

-- with a before the subterm and b behind it, no step of the walk leaves the whole term above 4,096 words
abbrev pub Bounded : (s : System) {l n : ℕ} {es u v : List ℕ} → Walk s l es u v n → List ℕ → List ℕ → Type 0
Bounded s end a b = Unit {0}
Bounded s (pass q k) a b = Bounded s k a b
Bounded s (fire {x} q k) a b = (length (a ++ (x.reduct ++ b)) ≤ term_words) × Bounded s k a b
Bounded s (open' {w} {i} {us} d m k f) a b = Bounded s k (a ++ w ∷ flatten (take i us)) (flatten (drop (suc i) us) ++ b) × Bounded s f a b

-- the pairs of a walk on the subterm behind a, put before those of the steps before it
abbrev pub traced : (s : System) {l n : ℕ} {es u v : List ℕ} → Walk s l es u v n → List ℕ → Trace → Trace
traced s end a h = h
traced s (pass q k) a h = traced s k a h
traced s (fire {x} q k) a h = traced s k a (record { at = length a; number = x.number } ∷ h)
traced s (open' {w} {i} {us} d m k f) a h = traced s f a (traced s k (a ++ w ∷ flatten (take i us)) h)

pub traced-length : (s : System) {l n : ℕ} {es u v : List ℕ} (k : Walk s l es u v n) (a : List ℕ) (h : Trace) → length (traced s k a h) ≡ length h + n
traced-length s end a h = omega arith
traced-length s (pass q k) a h = traced-length s k a h
traced-length s (fire {x} q k) a h = let z = traced-length s k a (record { at = length a; number = x.number } ∷ h) in omega arith
traced-length s (open' {w} {i} {us} d m k f) a h =
    let z = traced-length s k (a ++ w ∷ flatten (take i us)) h in
    let z' = traced-length s f a (traced s k (a ++ w ∷ flatten (take i us)) h) in omega arith

pub run-path : (r : Config) (t : List ℕ) (h : Trace) → r.term ≡ t → r.trace ≡ h → r ≡ record { term = t; trace = h }
run-path r t h p q = λ i. record { term = p i; trace = q i }

pub never : {X : Type 0} (n : Limit) (h : Trace) (r : Config) → stopped n h ≡ finished r → X
never n h r e = absurd (let z : ◌≡◌ {A = ℕ} 0 1 = cc in omega arith)

-- two words were left, so one more pair fits
pub roomy : (o : Option ℕ) (k m : ℕ) → o ≡ some m → has_room o k ≡ true → 2 * k + 2 ≤ m
unfolding has_room
roomy none k m e h = absurd (let z : ◌≡◌ {A = ℕ} 0 1 = cc in omega arith)
roomy (some n) k m e h = let q : n ≡ m = cc in let z = leb-true (2 * k + 2) n h in omega arith

pub after-finished : (o : Outcome) (on : Config → Outcome) (r : Config) → and_then o on ≡ finished r → (r₁ : Config) × (o ≡ finished r₁) × (on r₁ ≡ finished r)
after-finished (finished r₁) on r e = (r₁, refl, e)
after-finished (stopped n k) on r e = never n k r e

module _ (s : System) where
  abbrev g : Signature
  g = s.arities

  module _ (limits : Limits) where
    -- the limits of a rewrite
    module _ (p : ℕ) (r : Config) (x : Contraction) where
      pub rewrite-spent : limits.steps ≤ steps r → (on : Config → Outcome) → rewrite s limits p r x on ≡ stopped Spent r.trace
      unfolding rewrite
      rewrite-spent h on = rw (le-ltb (steps r) limits.steps h, rewrite)

      pub rewrite-full : steps r < limits.steps → has_room limits.room (steps r) ≡ false → (on : Config → Outcome) → rewrite s limits p r x on ≡ stopped Full r.trace
      unfolding rewrite
      rewrite-full h f on = rw (lt-ltb (steps r) limits.steps h, rewrite) (rw f)

      module _ (h : steps r < limits.steps) (f : has_room limits.room (steps r) ≡ true) where
        pub rewrite-long : term_words < length (stepped s p r x).term → (on : Config → Outcome) → rewrite s limits p r x on ≡ stopped Overlong r.trace
        unfolding rewrite
        rewrite-long m on = rw (lt-ltb (steps r) limits.steps h, rewrite) (rw f (rw (lt-leb _ term_words m)))

        pub rewrite-goes : length (stepped s p r x).term ≤ term_words → (on : Config → Outcome) → rewrite s limits p r x on ≡ on (stepped s p r x)
        unfolding rewrite
        rewrite-goes m on = rw (lt-ltb (steps r) limits.steps h, rewrite) (rw f (rw (le-leb _ term_words m)))

      -- a rewrite stops at a limit, or goes on with the changed term, whatever comes after
      pub data RewriteCase : Type 0 where
        halts : (n : Limit) → ((on : Config → Outcome) → rewrite s limits p r x on ≡ stopped n r.trace) → RewriteCase
        goes : steps r < limits.steps → has_room limits.room (steps r) ≡ true → length (stepped s p r x).term ≤ term_words →
            ((on : Config → Outcome) → rewrite s limits p r x on ≡ on (stepped s p r x)) → RewriteCase

      pub rewritten : RewriteCase
      rewritten = elim (dec_lt (steps r) limits.steps) [
        | no h ↦ halts Spent (rewrite-spent (omega arith))
        | yes h ↦ room h (has_room limits.room (steps r)) refl
      ]
        where
          room : steps r < limits.steps → (b : Bool) → has_room limits.room (steps r) ≡ b → RewriteCase
          room h false f = halts Full (rewrite-full h f)
          room h true f = elim (dec_le (length (stepped s p r x).term) term_words) [
            | no m ↦ halts Overlong (rewrite-long h f (omega arith))
            | yes m ↦ goes h f m (rewrite-goes h f m)
          ]

    pub rewrite-finished : (p : ℕ) (r : Config) (x : Contraction) (on : Config → Outcome) (r' : Config) → rewrite s limits p r x on ≡ finished r' →
        (steps r < limits.steps) × (has_room limits.room (steps r) ≡ true) × (length (stepped s p r x).term ≤ term_words) × (on (stepped s p r x) ≡ finished r')
    rewrite-finished p r x on r' e =
        elim (rewritten p r x) [ halts n h ↦ never n r.trace r' (sym (h on) ∙ e) | goes l f m h ↦ (l, f, m, sym (h on) ∙ e) ]

    -- what comes after a rewrite matters only at the changed term
    pub rewrite-same : (p : ℕ) (r : Config) (x : Contraction) (on on' : Config → Outcome) →
        (steps r < limits.steps → on (stepped s p r x) ≡ on' (stepped s p r x)) →
        rewrite s limits p r x on ≡ rewrite s limits p r x on'
    rewrite-same p r x on on' q = elim (rewritten p r x) [ halts n h ↦ h on ∙ sym (h on') | goes l f m h ↦ h on ∙ q l ∙ sym (h on') ]

    pub after-rewrite : (p : ℕ) (r : Config) (x : Contraction) (on then : Config → Outcome) →
        and_then (rewrite s limits p r x on) then ≡ rewrite s limits p r x (λ r'. and_then (on r') then)
    after-rewrite p r x on then = elim (rewritten p r x) [
      | halts n h ↦ ap (λ o. and_then o then) (h on) ∙ sym (h (λ r'. and_then (on r') then))
      | goes l f m h ↦ ap (λ o. and_then o then) (h on) ∙ sym (h (λ r'. and_then (on r') then))
    ]

    -- one entry of `follow`
    module _ (inner again : ℕ → Config → Outcome) where
      pub follow-end : (p : ℕ) (r : Config) → follow s limits inner again [] p r ≡ finished r
      unfolding follow
      follow-end p r = refl

      pub follow-pass : (es : List ℕ) (p : ℕ) (r : Config) → contraction s (drop p r.term) ≡ none →
          follow s limits inner again (0 ∷ es) p r ≡ follow s limits inner again es p r
      unfolding follow
      follow-pass es p r e = rw (e, follow)

      pub follow-fire : (es : List ℕ) (p : ℕ) (r : Config) (x : Contraction) → contraction s (drop p r.term) ≡ some x →
          follow s limits inner again (0 ∷ es) p r ≡ rewrite s limits p r x (again p)
      unfolding follow
      follow-fire es p r x e = rw (e, follow)

      pub follow-open : (i : ℕ) (es : List ℕ) (p : ℕ) (r : Config) →
          follow s limits inner again (suc i ∷ es) p r ≡ and_then (inner (argument g r.term p i) r) (λ r'. follow s limits inner again es p r')
      unfolding follow
      follow-open i es p r = refl

    module _ (wf : WellFormed s) where
      -- the limits allow these steps
      abbrev pub Affords : Trace → Type 0
      Affords h = (length h ≤ limits.steps) × ((m : ℕ) → limits.room ≡ some m → 2 * length h ≤ m)

      -- a walk on the subterm, seen in the whole run
      pub record Local (levels : ℕ) (es u a b : List ℕ) (h : Trace) (r : Config) : Type 0 where
        pub outcome : List ℕ
        pub taken : ℕ
        pub walk : Walk s levels es u outcome taken
        pub whole : Whole g outcome
        pub term : r.term ≡ a ++ (outcome ++ b)
        pub trace : r.trace ≡ traced s walk a h
        pub bounded : Bounded s walk a b
        pub afford : Affords h → Affords r.trace

      abbrev at : List ℕ → List ℕ → List ℕ → Trace → Config
      at a u b n = record { term = a ++ (u ++ b); trace = n }

      abbrev pub Locally : ℕ → (ℕ → Config → Outcome) → Type 0
      Locally levels ev = (a b u : List ℕ) (n : Trace) (r : Config) → Whole g u → ev (length a) (record { term = a ++ (u ++ b); trace = n }) ≡ finished r →
          Local levels (strategy s (head u)) u a b n r

      -- a walk on an argument, and one over the entries after it
      open-local : (l i : ℕ) (n : Trace) (w : ℕ) (us : List (List ℕ)) (es a b : List ℕ) (r₁ r : Config) → Node g w us → i < length us →
          (k : Local l (strategy s (head (get_or us i []))) (get_or us i []) (a ++ w ∷ flatten (take i us)) (flatten (drop (suc i) us) ++ b) n r₁) →
          Local (suc l) es (w ∷ flatten (set us i k.outcome)) a b r₁.trace r → Local (suc l) (suc i ∷ es) (w ∷ flatten us) a b n r
      open-local l i n w us es a b r₁ r d m k f = record {
        outcome = f.outcome;
        taken = k.taken + f.taken;
        walk = open' d m k.walk f.walk;
        whole = f.whole;
        term = f.term;
        trace = f.trace ∙ ap (traced s f.walk a) k.trace;
        bounded = (k.bounded, f.bounded);
        afford = λ h. f.afford (k.afford h);
      }

      follow-local : (l : ℕ) (inner again : ℕ → Config → Outcome) → Locally l inner → Locally (suc l) again →
          (es : List ℕ) (w : ℕ) (us : List (List ℕ)) (a b : List ℕ) (n : Trace) (r : Config) → Node g w us → ((e : ℕ) → Member e es → e ≤ arity g w) →
          follow s limits inner again es (length a) (at a (w ∷ flatten us) b n) ≡ finished r → Local (suc l) es (w ∷ flatten us) a b n r
      follow-local l inner again hi ha [] w us a b n r d st e =
          let q : at a (w ∷ flatten us) b n ≡ r = cc (follow-end inner again (length a) (at a (w ∷ flatten us) b n)) in
          let q' : n ≡ r.trace = ap (λ y. y.trace) q in
          record {
            outcome = w ∷ flatten us;
            taken = 0;
            walk = end;
            whole = node-whole g w us d;
            term = sym (ap (λ y. y.term) q);
            trace = sym q';
            bounded = tt;
            afford = λ h. subst Affords q' h;
          }
      follow-local l inner again hi ha (zero ∷ es) w us a b n r d st e =
          go (contraction s (w ∷ flatten us)) refl (follow-local l inner again hi ha es w us a b n r d (λ e h. st e (later h)))
        where
          u : List ℕ
          u = w ∷ flatten us

          go : (o : Option Contraction) → contraction s u ≡ o →
              (follow s limits inner again es (length a) (at a u b n) ≡ finished r → Local (suc l) es u a b n r) → Local (suc l) (0 ∷ es) u a b n r
          go none q ih =
              let c = ih (sym (follow-pass inner again es (length a) (at a u b n) (contraction-at s wf (node-whole g w us d) a b ∙ q)) ∙ e) in
              record { outcome = c.outcome; taken = c.taken; walk = pass q c.walk; whole = c.whole; term = c.term; trace = c.trace; bounded = c.bounded; afford = c.afford }
          go (some x) q ih =
              let h = node-whole g w us d in
              let c = rewrite-finished (length a) (at a u b n) x (again (length a)) r
              (sym (follow-fire inner again es (length a) (at a u b n) x (contraction-at s wf h a b ∙ q)) ∙ e) in
              let rep = at-replace g (Symbol g) a b x.reduct h in
              let k = ha a b x.reduct (record { at = length a; number = x.number } ∷ n) r (fired s wf h a b x q).left (rw rep at c.3) in
              record {
                outcome = k.outcome;
                taken = suc k.taken;
                walk = fire q k.walk;
                whole = k.whole;
                term = k.term;
                trace = k.trace;
                bounded = (rw rep at c.2, k.bounded);
                afford = λ _. k.afford (let z = c.0 in omega arith, λ m e. let z = roomy limits.room (length n) m e c.1 in omega arith);
              }
      follow-local l inner again hi ha (suc i ∷ es) w us a b n r d st e =
          let m : i < length us = (let z = st (suc i) first in let z' = d.count in omega arith) in
          let a' = a ++ w ∷ flatten (take i us) in
          let b' = flatten (drop (suc i) us) ++ b in
          let c = after-finished (inner (length a') (at a' (get_or us i []) b' n)) _ r
          (rw (at-argument g (Symbol g) a b w us i m d.wholes, focus-here a b w us i m) at
          (sym (follow-open inner again i es (length a) (at a (w ∷ flatten us) b n)) ∙ e)) in
          let k = hi a' b' (get_or us i []) n c.0 (d.wholes i m) c.1 in
          open-local l i n w us es a b c.0 r d m k (follow-local l inner again hi ha es w (set us i k.outcome) a b c.0.trace r
          (node-set g w us i k.outcome d k.whole) (λ e h. st e (later h))
          (rw (run-path c.0 (a ++ ((w ∷ flatten (set us i k.outcome)) ++ b)) c.0.trace (k.term ∙ sym (focus a b w us i k.outcome m)) refl) at c.2))

      start-local : (l : ℕ) (inner again : ℕ → Config → Outcome) → Locally l inner → Locally (suc l) again →
          Locally (suc l) (λ p r. follow s limits inner again (strategy s (get_or r.term p 0)) p r)
      start-local l inner again hi ha a b u n r h e =
          let c = as-node g h in
          let w = c.symbol in
          rw c.equal (follow-local l inner again hi ha (strategy s w) w c.parts a b n r c.node (wf.entry_bound w)
          (rw (c.equal, at-word g a b w (flatten c.parts)) at e))

      at_root-local : (l : ℕ) (inner : ℕ → Config → Outcome) → Locally l inner → (left : ℕ) → Locally (suc l) (at_root s limits inner left)
      unfolding at_root
      at_root-local l inner hi zero = start-local l inner (λ p r. stopped Spent r.trace) hi (λ a b u n r h e. never Spent n r e)
      at_root-local l inner hi (suc left) = start-local l inner (at_root s limits inner left) hi (at_root-local l inner hi left)

      -- evaluating at a position is a walk on the subterm there, and changes nothing else
      pub evaluate-local : (levels : ℕ) → Locally levels (evaluate s limits levels)
      unfolding evaluate
      evaluate-local zero a b u n r h e = never Nested n r e
      evaluate-local (suc l) a b u n r h e = at_root-local l (evaluate s limits l) (evaluate-local l) limits.steps a b u n r h e
