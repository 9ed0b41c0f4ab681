-- The laws of a run: one of m + n steps is one of m steps and then one of n (`run_more`), and enough steps do what is left to do (`run-evaluates`).
-- That it changes nothing outside the subterm at its position: Comings; which steps it takes: Taken, RunPaths.
use Prim.Native.Nat.{ℕ, zero, suc, ◌+◌, ◌≤◌, ◌<◌}
use native.Mathlib.Omega.{arith}
use native.Mathlib.Decide.{dec_lt, dec_le}
use mathlib.Core.Path.{◌≡◌, refl, sym, ap, ◌∙◌, subst}
use mathlib.Core.Bool.{Bool, true, false}
use mathlib.Core.List.{List, [], ◌∷◌, ◌++◌}
use lib.ListN.{length}
use lib.Dec.{leb, ltb}
use borrow.Author.Tests.{lt-ltb, le-ltb, le-leb, lt-leb}
use Rattle.system.specs.Limits.{levels, term_words}
use Rattle.system.specs.declared.numbers.Limit.{Limit}
use Rattle.system.specs.declared.numbers.Limit.TheVariants.{Spent, Overlong, Full}
use Rattle.system.specs.System.{System}
use Rattle.system.specs.Terms.{WellFormed}
use Rattle.matching.specs.Matching.{Contraction}
use Rattle.rewriting.specs.Evaluation.{Limits, Config, stepped, steps, has_room, Outcome, rewrite, evaluate}
use Rattle.rewriting.specs.Machine.{position, Next, final, deep, ready, advance}
use Rattle.rewriting.specs.Runs.{Came, ended, sunk, barred, waits, outcome_of, before, fitting, come, run, onward}
use Rattle.rewriting.proofs.Walks.{rewrite-spent, rewrite-full, rewrite-long, rewrite-goes}
use Rattle.rewriting.proofs.Laws.{resume, resume-start}
use Rattle.rewriting.proofs.Reached.{Reached, reached}

module _ (s : System) (limits : Limits) (q : ℕ) (x : Contraction) (r : Config) where
  -- a limit that stops the step at q: 11, 16, 12
  pub data Bars : Limit → Type 0 where
    by_steps : limits.steps ≤ steps r → Bars Spent
    by_room : steps r < limits.steps → has_room limits.room (steps r) ≡ false → Bars Full
    by_length : steps r < limits.steps → has_room limits.room (steps r) ≡ true → term_words < length (stepped s q r x).term → Bars Overlong

  -- none does
  abbrev pub Free : Type 0
  Free = (steps r < limits.steps) × (has_room limits.room (steps r) ≡ true) × (length (stepped s q r x).term ≤ term_words)

module _ (s : System) (limits : Limits) where
  -- ---- the tests before a step

  module _ (outer : List ℕ) (c : ℕ) (x : Contraction) (r : Config) where
    pub before-spent : limits.steps ≤ steps r → (on : Came) → before s limits outer c x r on ≡ barred Spent outer c x r
    unfolding before
    before-spent h on = rw (le-ltb (steps r) limits.steps h, before)

    pub before-full : steps r < limits.steps → has_room limits.room (steps r) ≡ false → (on : Came) → before s limits outer c x r on ≡ barred Full outer c x r
    unfolding before
    before-full h f on = rw (lt-ltb (steps r) limits.steps h, before) (rw f)

    pub before-free : steps r < limits.steps → has_room limits.room (steps r) ≡ true → (on : Came) → before s limits outer c x r on ≡ on
    unfolding before
    before-free h f on = rw (lt-ltb (steps r) limits.steps h, before) (rw f)

    module _ (q : ℕ) where
      pub fitting-long : term_words < length (stepped s q r x).term → (on : Came) → fitting s limits q outer c x r on ≡ barred Overlong outer c x r
      unfolding fitting
      fitting-long m on = rw (lt-leb _ term_words m, fitting)

      pub fitting-goes : length (stepped s q r x).term ≤ term_words → (on : Came) → fitting s limits q outer c x r on ≡ on
      unfolding fitting
      fitting-goes m on = rw (le-leb _ term_words m, fitting)

    -- what comes behind them is the same where it is reached
    pub before-onward : (p n : ℕ) (on : Came) → onward s limits p n (before s limits outer c x r on) ≡ before s limits outer c x r (onward s limits p n on)
    unfolding before
    before-onward p n on = go (ltb (steps r) limits.steps) (has_room limits.room (steps r))
      where
        go : (a b : Bool) → onward s limits p n (elim a [ false ↦ barred Spent outer c x r | true ↦ elim b [ false ↦ barred Full outer c x r | true ↦ on ] ])
            ≡ elim a [ false ↦ barred Spent outer c x r | true ↦ elim b [ false ↦ barred Full outer c x r | true ↦ onward s limits p n on ] ]
        go false b = refl
        go true false = refl
        go true true = refl

    pub fitting-onward : (q p n : ℕ) (on : Came) → onward s limits p n (fitting s limits q outer c x r on) ≡ fitting s limits q outer c x r (onward s limits p n on)
    unfolding fitting
    fitting-onward q p n on = go (leb (length (stepped s q r x).term) term_words)
      where
        go : (a : Bool) → onward s limits p n (elim a [ false ↦ barred Overlong outer c x r | true ↦ on ]) ≡ elim a [ false ↦ barred Overlong outer c x r | true ↦ onward s limits p n on ]
        go false = refl
        go true = refl

    -- 11, 16 and 12 at a step at q; to test them twice is to test them once
    abbrev pub tests : ℕ → Came → Came
    tests q on = before s limits outer c x r (fitting s limits q outer c x r on)

    abbrev test : Bool → Bool → Bool → Came → Came
    test a b d on =
        elim a [
          | false ↦ barred Spent outer c x r
          | true ↦ elim b [ false ↦ barred Full outer c x r | true ↦ elim d [ false ↦ barred Overlong outer c x r | true ↦ on ] ]
        ]

    pub tests-twice : (q : ℕ) (on : Came) → tests q (tests q on) ≡ tests q on
    unfolding before fitting
    tests-twice q on = go (ltb (steps r) limits.steps) (has_room limits.room (steps r)) (leb (length (stepped s q r x).term) term_words)
      where
        go : (a b d : Bool) → test a b d (test a b d on) ≡ test a b d on
        go false b d = refl
        go true false d = refl
        go true true false = refl
        go true true true = refl

    pub tests-onward : (q p n : ℕ) (on : Came) → onward s limits p n (tests q on) ≡ tests q (onward s limits p n on)
    tests-onward q p n on =
        before-onward p n (fitting s limits q outer c x r on) ∙ ap (before s limits outer c x r) (fitting-onward q p n on)

    -- what holds wherever one of them stops the step, and where none does, holds behind them
    pub tests-cases : (P : Came → Type 0) (q : ℕ) (on : Came) → ((l : Limit) → Bars s limits q x r l → P (barred l outer c x r)) →
        (Free s limits q x r → P on) → P (tests q on)
    tests-cases P q on stops goes = elim (dec_lt (steps r) limits.steps) [
      | no l ↦ let n : limits.steps ≤ steps r = omega arith in subst P (sym (before-spent n (fitting s limits q outer c x r on))) (stops Spent (by_steps n))
      | yes l ↦ roomy l (has_room limits.room (steps r)) refl
    ]
      where
        fits : steps r < limits.steps → has_room limits.room (steps r) ≡ true → P (fitting s limits q outer c x r on)
        fits l f = elim (dec_le (length (stepped s q r x).term) term_words) [
          | no m ↦ let n : term_words < length (stepped s q r x).term = omega arith in subst P (sym (fitting-long q n on)) (stops Overlong (by_length l f n))
          | yes n ↦ subst P (sym (fitting-goes q n on)) (goes (l, f, n))
        ]

        roomy : steps r < limits.steps → (b : Bool) → has_room limits.room (steps r) ≡ b → P (tests q on)
        roomy l false f = subst P (sym (before-full l f (fitting s limits q outer c x r on))) (stops Full (by_room l f))
        roomy l true f = subst P (sym (before-free l f (fitting s limits q outer c x r on))) (fits l f)

  -- ---- the clauses

  module _ (p : ℕ) where
    pub come-final : (k : ℕ) (r : Config) → come s limits p k final r ≡ ended r
    unfolding come
    come-final zero r = refl
    come-final (suc k) r = refl

    pub come-deep : (k : ℕ) (r : Config) → come s limits p k deep r ≡ sunk r
    unfolding come
    come-deep zero r = refl
    come-deep (suc k) r = refl

    module _ (outer : List ℕ) (c : ℕ) (x : Contraction) (r : Config) where
      abbrev q : ℕ
      q = position s r.term outer p

      abbrev after : Config
      after = stepped s q r x

      pub come-waits : come s limits p 0 (ready outer c x) r ≡ before s limits outer c x r (fitting s limits q outer c x r (waits outer c x r))
      unfolding come
      come-waits = refl

      pub come-steps : (k : ℕ) → come s limits p (suc k) (ready outer c x) r ≡
          before s limits outer c x r (fitting s limits q outer c x r (run s limits p k (outer ++ 0 ∷ []) after))
      unfolding come run
      come-steps k = refl

      -- the tests are met again where it goes on
      come-tests : (k : ℕ) → tests outer c x r q (come s limits p k (ready outer c x) r) ≡ come s limits p k (ready outer c x) r
      come-tests zero = ap (tests outer c x r q) come-waits ∙ tests-twice outer c x r q (waits outer c x r) ∙ sym come-waits
      come-tests (suc k) =
          ap (tests outer c x r q) (come-steps k) ∙ tests-twice outer c x r q (run s limits p k (outer ++ 0 ∷ []) after) ∙ sym (come-steps k)

    pub run_is : (k : ℕ) (cs : List ℕ) (r : Config) → run s limits p k cs r ≡ come s limits p k (advance s levels cs r.term p) r
    unfolding run
    run_is k cs r = refl

    -- ---- m + n steps are m steps and then n

    more-start : (n : ℕ) (z : Next) (r : Config) → come s limits p (0 + n) z r ≡ onward s limits p n (come s limits p 0 z r)
    more-start n final r = come-final (0 + n) r ∙ sym (ap (onward s limits p n) (come-final 0 r))
    more-start n deep r = come-deep (0 + n) r ∙ sym (ap (onward s limits p n) (come-deep 0 r))
    more-start n (ready outer c x) r =
        let e : 0 + n ≡ n = omega arith in
        ap (λ k. come s limits p k (ready outer c x) r) e ∙ sym (come-tests outer c x r n)
        ∙ sym (ap (onward s limits p n) (come-waits outer c x r) ∙ tests-onward outer c x r (position s r.term outer p) p n (waits outer c x r))

    more-step : (m n : ℕ) → ((z : Next) (r : Config) → come s limits p (m + n) z r ≡ onward s limits p n (come s limits p m z r)) → (z : Next) (r : Config) →
        come s limits p (suc m + n) z r ≡ onward s limits p n (come s limits p (suc m) z r)
    more-step m n ih final r = come-final (suc m + n) r ∙ sym (ap (onward s limits p n) (come-final (suc m) r))
    more-step m n ih deep r = come-deep (suc m + n) r ∙ sym (ap (onward s limits p n) (come-deep (suc m) r))
    more-step m n ih (ready outer c x) r =
        let e : suc m + n ≡ suc (m + n) = omega arith in
        let q = position s r.term outer p in
        let r₁ = stepped s q r x in
        let z = advance s levels (outer ++ 0 ∷ []) r₁.term p in
        ap (λ k. come s limits p k (ready outer c x) r) e ∙ come-steps outer c x r (m + n)
        ∙ ap (tests outer c x r q) (run_is (m + n) (outer ++ 0 ∷ []) r₁ ∙ ih z r₁) ∙ sym (tests-onward outer c x r q p n (come s limits p m z r₁))
        ∙ ap (onward s limits p n) (ap (tests outer c x r q) (sym (run_is m (outer ++ 0 ∷ []) r₁)) ∙ sym (come-steps outer c x r m))

    pub come-more : (m n : ℕ) (z : Next) (r : Config) → come s limits p (m + n) z r ≡ onward s limits p n (come s limits p m z r)
    come-more zero n z r = more-start n z r
    come-more (suc m) n z r = more-step m n (λ z r. come-more m n z r) z r

    pub run_more : (m n : ℕ) (cs : List ℕ) (r : Config) → run s limits p (m + n) cs r ≡ onward s limits p n (run s limits p m cs r)
    unfolding run
    run_more m n cs r = come-more m n (advance s levels cs r.term p) r

    -- ---- enough steps do what is left to do

    pub come-reached : (wf : WellFormed s) (k : ℕ) (cs : List ℕ) (r : Config) → steps r ≤ limits.steps → limits.steps ≤ k + steps r →
        outcome_of (run s limits p k cs r) ≡ resume s limits levels cs p r
    unfolding run
    come-reached wf zero cs r h m = go (advance s levels cs r.term p) (reached s wf limits r levels cs p)
      where
        go : (n : Next) → Reached s wf limits r levels cs p n → outcome_of (come s limits p 0 n r) ≡ resume s limits levels cs p r
        go final c = ap outcome_of (come-final 0 r) ∙ sym c
        go deep c = ap outcome_of (come-deep 0 r) ∙ sym c
        go (ready outer d x) c =
            ap outcome_of
            (come-waits outer d x r ∙ before-spent outer d x r (omega arith) (fitting s limits (position s r.term outer p) outer d x r (waits outer d x r)))
            ∙ sym (c.1 ∙ rewrite-spent s limits (position s r.term outer p) r x (omega arith) (λ r'. resume s limits levels (outer ++ 0 ∷ []) p r'))
    come-reached wf (suc k) cs r h m = go (advance s levels cs r.term p) (reached s wf limits r levels cs p) (λ cs r. come-reached wf k cs r)
      where
        go : (n : Next) → Reached s wf limits r levels cs p n →
            ((cs : List ℕ) (r : Config) → steps r ≤ limits.steps → limits.steps ≤ k + steps r → outcome_of (run s limits p k cs r) ≡ resume s limits levels cs p r) →
            outcome_of (come s limits p (suc k) n r) ≡ resume s limits levels cs p r
        go final c ih = ap outcome_of (come-final (suc k) r) ∙ sym c
        go deep c ih = ap outcome_of (come-deep (suc k) r) ∙ sym c
        go (ready outer d x) c ih = ap outcome_of (come-steps outer d x r k) ∙ tested ∙ sym c.1
          where
            q : ℕ
            q = position s r.term outer p

            on : Config → Outcome
            on r' = resume s limits levels (outer ++ 0 ∷ []) p r'

            r₁ : Config
            r₁ = stepped s q r x

            then : Came
            then = run s limits p k (outer ++ 0 ∷ []) r₁

            long : Came
            long = fitting s limits q outer d x r then

            free : steps r < limits.steps → has_room limits.room (steps r) ≡ true → outcome_of (before s limits outer d x r long) ≡ rewrite s limits q r x on
            free l f = ap outcome_of (before-free outer d x r l f long) ∙ elim (dec_le (length r₁.term) term_words) [
              | no n ↦
                  let n' : term_words < length r₁.term = omega arith in
                  ap outcome_of (fitting-long outer d x r q n' then) ∙ sym (rewrite-long s limits q r x l f n' on)
              | yes n ↦
                  ap outcome_of (fitting-goes outer d x r q n then) ∙ ih (outer ++ 0 ∷ []) r₁ (omega arith) (omega arith) ∙ sym (rewrite-goes s limits q r x l f n on)
            ]

            roomy : steps r < limits.steps → (b : Bool) → has_room limits.room (steps r) ≡ b → outcome_of (before s limits outer d x r long) ≡ rewrite s limits q r x on
            roomy l false f = ap outcome_of (before-full outer d x r l f long) ∙ sym (rewrite-full s limits q r x l f on)
            roomy l true f = free l f

            tested : outcome_of (before s limits outer d x r long) ≡ rewrite s limits q r x on
            tested = elim (dec_lt (steps r) limits.steps) [
              | no l ↦ ap outcome_of (before-spent outer d x r (omega arith) long) ∙ sym (rewrite-spent s limits q r x (omega arith) on)
              | yes l ↦ roomy l (has_room limits.room (steps r)) refl
            ]

    -- the theorem: from the start of a subterm, with whatever steps were taken before
    pub run-evaluates : WellFormed s → (k : ℕ) (r : Config) → steps r ≤ limits.steps → limits.steps ≤ k + steps r →
        outcome_of (run s limits p k (0 ∷ []) r) ≡ evaluate s limits levels p r
    run-evaluates wf k r h m = come-reached wf k (0 ∷ []) r h m ∙ resume-start s limits levels p r
