-- The computed strategy test decides whether a symbol passes.
use Prim.Native.Nat.{ℕ, zero, suc, ◌<◌}
use native.Mathlib.Nat.{le_of_suc-le-suc, not-suc-le-zero}
use native.Mathlib.Omega.{arith}
use native.Mathlib.Decide.{ℕ_discrete}
use mathlib.Core.Path.{◌≡◌, refl, ap, ◌∙◌}
use mathlib.Core.Logic.{inl, inr}
use mathlib.Core.List.{List, [], ◌∷◌, ◌++◌}
use mathlib.Core.Bool.{Bool, true, false, not, ◌&&◌, ◌||◌, or-true}
use lib.ListN.{length, get_or}
use lib.Dec.{leb, eqb}
use borrow.Author.Tests.{leb-true, eqb-true, le-leb, eq-eqb, ne_eqb}
use Rattle.system.specs.Limits.{variable}
use Rattle.system.specs.BuiltIns.{is_built_in, built_in_arity}
use Rattle.system.specs.Signature.{Signature, Listed}
use Rattle.system.specs.System.{System, Rule, strategy, rule, no_rule, head}
use Rattle.system.specs.Rules.{BuiltIn, listed, built_in}
use Rattle.system.specs.Terms.{Member, first, later, occurs, WellFormed}
use Rattle.system.proofs.BuiltIns.{both, BuiltInWord, builtin-range, eager, strategy-eager, arity-none}
use Rattle.system.proofs.Rules.{built-head, listed-head, strategy-unlisted}
use Rattle.matching.specs.Safety.{argument_word, HeldOnce, Idle, IdleEntry, idle, Guarded, Constructor, Passes}
use Rattle.matching.specs.StrategyTest.{every, held_once, idle_test, idles, closes, constructs, passes}

both_true : (a b : Bool) → a ≡ true → b ≡ true → (a && b) ≡ true
both_true a b p q = rw (p, q)

pub every-at : (test : Rule → Bool) (rs : List Rule) → every test rs ≡ true → (k : ℕ) → k < length rs → test (get_or rs k no_rule) ≡ true
unfolding every
every-at test [] e k h = absurd (not-suc-le-zero h)
every-at test (r ∷ rs) e zero h = (both (test r) (every test rs) e).0
every-at test (r ∷ rs) e (suc k) h = every-at test rs (both (test r) (every test rs) e).1 k (le_of_suc-le-suc h)

pub every-all : (test : Rule → Bool) (rs : List Rule) → ((k : ℕ) → k < length rs → test (get_or rs k no_rule) ≡ true) → every test rs ≡ true
unfolding every
every-all test [] h = refl
every-all test (r ∷ rs) h = both_true (test r) (every test rs) (h 0 (omega arith)) (every-all test rs (λ k l. h (suc k) (omega arith)))

-- no built-in rule starts with what is no operator
other : {A : Type 0} {k f : ℕ} {r : Rule} → built_in_arity f ≡ 0 → BuiltIn k r → head r.lhs ≡ f → A
other o b q = absurd (let z = ap built_in_arity q in omega (arith, built-head b))

-- the argument is a variable that is held once
held-sound : (g : Signature) (lhs : List ℕ) (i : ℕ) → held_once g lhs i ≡ true → HeldOnce g lhs i
unfolding held_once
held-sound g lhs i e =
    let p = both (leb variable (argument_word g lhs i)) (eqb (occurs (argument_word g lhs i) lhs) 1) e in
    record { is_variable = leb-true variable _ p.0; once = eqb-true _ 1 p.1 }

held-complete : (g : Signature) (lhs : List ℕ) (i : ℕ) → HeldOnce g lhs i → held_once g lhs i ≡ true
unfolding held_once
held-complete g lhs i h = both_true _ _ (le-leb variable _ h.is_variable) (eq-eqb _ 1 h.once)

module _ (s : System) (f : ℕ) (plain : built_in_arity f ≡ 0) where
  pub idle-sound : (i : ℕ) → idle_test s f i ≡ true → Idle s f i
  unfolding idle_test
  idle-sound i e k r (built_in b) q = other plain b q
  idle-sound i e k r (listed h) q = held-sound s.arities r.lhs i (rw (q, eq-eqb f f refl) at (every-at _ s.rules e k h))

  pub idle-complete : (i : ℕ) → Idle s f i → idle_test s f i ≡ true
  unfolding idle_test
  idle-complete i h = every-all _ s.rules (λ k l. elim (ℕ_discrete (head (rule s k).lhs) f) [
    | yes q ↦ rw (q, eq-eqb f f refl) (held-complete s.arities (rule s k).lhs i (h k (rule s k) (listed l) q))
    | no d ↦ rw (ne_eqb (head (rule s k).lhs) f d)
  ])

  pub idles-sound : (es : List ℕ) → idles (idle_test s f) es ≡ true → (e : ℕ) → Member e es → IdleEntry s f e
  unfolding idles
  idles-sound [] q e st = elim st [ ]
  idles-sound (zero ∷ es) q e st = absurd (let z : ◌≡◌ {A = ℕ} 0 1 = cc in omega arith)
  idles-sound (suc i ∷ es) q e first = idle (idle-sound i (both (idle_test s f i) _ q).0)
  idles-sound (suc i ∷ es) q e (later st) = idles-sound es (both (idle_test s f i) _ q).1 e st

  pub idles-complete : (es : List ℕ) → ((e : ℕ) → Member e es → IdleEntry s f e) → idles (idle_test s f) es ≡ true
  unfolding idles
  idles-complete [] h = refl
  idles-complete (zero ∷ es) h = elim (h 0 first) [ ]
  idles-complete (suc i ∷ es) h = both_true _ _ (idle-complete i (go (h (suc i) first))) (idles-complete es (λ e st. h e (later st)))
    where
      go : IdleEntry s f (suc i) → Idle s f i
      go (idle z) = z

  pub record Closed (es : List ℕ) : Type 0 where
    pub before : List ℕ
    pub after : List ℕ
    pub split : es ≡ before ++ 0 ∷ after
    pub last : (e : ℕ) → Member e after → IdleEntry s f e

  pub closes-sound : (es : List ℕ) → closes (idle_test s f) es ≡ true → Closed es
  unfolding closes
  closes-sound [] q = absurd (let z : ◌≡◌ {A = ℕ} 0 1 = cc in omega arith)
  closes-sound (zero ∷ es) q = go (idles (idle_test s f) es) refl q (closes-sound es)
    where
      go : (b : Bool) → idles (idle_test s f) es ≡ b → (b || closes (idle_test s f) es) ≡ true → (closes (idle_test s f) es ≡ true → Closed es) → Closed (0 ∷ es)
      go true e q ih = record { before = []; after = es; split = refl; last = idles-sound es e }
      go false e q ih = let c = ih q in record { before = 0 ∷ c.before; after = c.after; split = ap (λ r. 0 ∷ r) c.split; last = c.last }
  closes-sound (suc i ∷ es) q = let c = closes-sound es q in record { before = suc i ∷ c.before; after = c.after; split = ap (λ r. suc i ∷ r) c.split; last = c.last }

  pub closes-complete : (before after : List ℕ) → ((e : ℕ) → Member e after → IdleEntry s f e) → closes (idle_test s f) (before ++ 0 ∷ after) ≡ true
  unfolding closes
  closes-complete [] after h = rw (idles-complete after h)
  closes-complete (zero ∷ before) after h = rw (closes-complete before after h) (or-true (idles (idle_test s f) (before ++ 0 ∷ after)))
  closes-complete (suc i ∷ before) after h = closes-complete before after h

-- the test passes a listed symbol exactly when 01's rule does
module _ (s : System) (f : ℕ) (plain : built_in_arity f ≡ 0) where
  constructs-sound : constructs s f ≡ true → Constructor s f
  unfolding constructs
  constructs-sound e k r (built_in b) q = other plain b q
  constructs-sound e k r (listed l) q =
      let z : not (eqb (head (rule s k).lhs) f) ≡ true = every-at (λ r. not (eqb (head r.lhs) f)) s.rules e k l in
      let z' = eq-eqb (head (rule s k).lhs) f q in
      let y : ◌≡◌ {A = ℕ} 0 1 = cc in omega arith

  constructs-complete : Constructor s f → constructs s f ≡ true
  unfolding constructs
  constructs-complete h = every-all (λ r. not (eqb (head r.lhs) f)) s.rules (λ k l. rw (ne_eqb (head (rule s k).lhs) f (h k (rule s k) (listed l))))

  pub passes-sound : passes s f ≡ true → Passes s f
  unfolding passes
  passes-sound e = go (constructs s f) refl e
    where
      go : (b : Bool) → constructs s f ≡ b → (b || closes (idle_test s f) (strategy s f)) ≡ true → Passes s f
      go true e q = inl (constructs-sound e)
      go false e q = let c = closes-sound s f plain (strategy s f) q in inr (record { before = c.before; after = c.after; split = c.split; last = c.last })

  pub passes-complete : Passes s f → passes s f ≡ true
  unfolding passes
  passes-complete (inl h) = rw (constructs-complete h)
  passes-complete (inr h) = rw (h.split, closes-complete s f plain h.before h.after h.last) (or-true (constructs s f))

-- "Order test and evaluation cover them" (02, F-2): the built-in symbols pass, whatever the listed rules are
module _ (s : System) (wf : WellFormed s) where
  -- nothing starts with a literal
  literal-constructor : (w : ℕ) → BuiltInWord w → built_in_arity w ≡ 0 → Constructor s w
  literal-constructor w b o k r (built_in d) q = other o d q
  literal-constructor w b o k r (listed m) q = let z = listed-head s wf k m in let n = wf.symbol_bound in let l = b.low in omega arith

  -- the order of an operator ends with its 0
  operator-guarded : (w : ℕ) → BuiltInWord w → (before : List ℕ) → eager (built_in_arity w) ≡ before ++ 0 ∷ [] → Guarded s w
  operator-guarded w b before q =
      let count = wf.strategy_count in
      let n = wf.symbol_bound in
      let l = b.low in
      record { before = before; after = []; split = strategy-unlisted s w (omega arith) ∙ strategy-eager w ∙ q; last = λ e m. elim m [ ] }

  pub builtin-passes : (w : ℕ) → is_built_in w ≡ true → Passes s w
  builtin-passes w b = go (built_in_arity w) refl
    where
      range : BuiltInWord w
      range = builtin-range w b

      go : (n : ℕ) → built_in_arity w ≡ n → Passes s w
      go zero e = inl (literal-constructor w range e)
      go (suc zero) e = inr (operator-guarded w range (1 ∷ []) (ap eager e))
      go (suc (suc n)) e = inr (operator-guarded w range (1 ∷ 2 ∷ []) (ap eager e))

  -- a listed symbol is no operator
  pub listed_plain : (f : ℕ) → Listed s.arities f → built_in_arity f ≡ 0
  listed_plain f h = arity-none f (inl (let n = wf.symbol_bound in omega arith))
