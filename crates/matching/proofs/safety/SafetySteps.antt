-- The strategy test: one rule, one entry, one symbol, in the terms of the loops.
use Prim.Native.Nat.{ℕ, zero, suc, ◌+◌, ◌-◌, ◌≤◌, ◌<◌}
use native.Mathlib.Omega.{arith}
use native.Mathlib.Decide.{ℕ_discrete}
use mathlib.Core.Path.{◌≡◌, refl, sym, ap, ◌∙◌}
use mathlib.Core.List.{List, [], ◌∷◌, ◌++◌}
use mathlib.Core.Option.{none, some}
use mathlib.Core.Bool.{Bool, true, false, not, ◌&&◌, ◌||◌, or-true, cond}
use lib.ListN.{length, get_or, get_or-eq_default}
use lib.Dec.{eqb}
use Rattle.std.specs.List.{filter, list_all, list_any}
use borrow.Author.Tests.{le-leb, lt-leb}
use Rattle.reader.specs.declared.Shape.{Shape}
use Rattle.system.specs.Limits.{variable}
use Rattle.system.specs.Signature.{Signature, argument, span}
use Rattle.system.specs.System.{System, Rule, head, strategy}
use Rattle.system.specs.Terms.{occurs}
use Rattle.system.specs.Signature.{signature_of}
use Rattle.reader.specs.Book.{system_of, Accepted}
use Rattle.matching.specs.StrategyTest.{every, held_once, idle_test, idles, closes, constructs, passes, first_unsafe}
use Rattle.matching.specs.Safety.{argument_word}
use Rattle.layout.specs.declared.strategies.Strategies.{Strategies}
use Rattle.layout.proofs.Books.{well, signature}
use Rattle.layout.proofs.strategies.Turns.{At, at-start}
use Rattle.std.specs.Iterator.Adapters.{enumerate_source, enumerate_count}
use Rattle.std.specs.declared.iter.Enumerate.{Enumerate}
use Rattle.system.proofs.FirstFailing.{Lowest, all_none, lowest-some}

-- ---- whether an argument is a variable that is held once

pub held_none : (g : Signature) (lhs : List ℕ) (i : ℕ) → length lhs ≡ 0 → held_once g lhs i ≡ false
unfolding held_once
held_none g lhs i e = rw (get_or-eq_default lhs 0 {n = argument g lhs 0 i} (omega arith))

-- the arguments stand behind the first word, and that one behind so many words
module _ (g : Signature) (i : ℕ) {lhs : List ℕ} {f : ℕ} {ws : List ℕ} (is : lhs ≡ f ∷ ws) {n : ℕ} (far : n ≡ span g ws i) where
  at_place : argument g lhs 0 i ≡ suc n
  unfolding argument
  at_place = rw is (omega arith)

  word : argument_word g lhs i ≡ get_or ws n 0
  word = rw (at_place, is) refl

  pub held-past : length ws ≤ n → held_once g lhs i ≡ false
  unfolding held_once
  held-past h = rw (word, get_or-eq_default ws 0 {n = n} h)

  module _ {w : ℕ} (here : w ≡ get_or ws n 0) where
    pub held-symbol : w < variable → held_once g lhs i ≡ false
    unfolding held_once
    held-symbol h = rw (word, ← here, lt-leb variable w h)

    pub held-variable : variable ≤ w → held_once g lhs i ≡ eqb (occurs w lhs) 1
    unfolding held_once
    held-variable h = rw (word, ← here, le-leb variable w h)

-- how often a word stands, as it is counted
pub occurs-count : (w : ℕ) (ws : List ℕ) → length (filter (λ v. eqb v w) ws) ≡ occurs w ws
unfolding occurs
occurs-count w [] = refl
occurs-count w (v ∷ ws) =
    let rest = occurs-count w ws in
    let P : Bool → Type 0 = λ b. length (cond b (v ∷ filter (λ v. eqb v w) ws) (filter (λ v. eqb v w) ws)) ≡ cond b 1 0 + occurs w ws in
    elim (eqb v w) as P [ true ↦ omega arith | false ↦ omega arith ]

-- ---- a test that every rule passes

abbrev pub starts : ℕ → Rule → Bool
starts f r = eqb (head r.lhs) f

-- those that start with f pass
pub every-filter : (f : ℕ) (test : Rule → Bool) (rs : List Rule) → list_all test (filter (starts f) rs) ≡ every (λ r. not (starts f r) || test r) rs
unfolding every
every-filter f test [] = refl
every-filter f test (r ∷ rs) =
    let rest = every-filter f test rs in
    let P : Bool → Type 0 = λ b. list_all test (cond b (r ∷ filter (starts f) rs) (filter (starts f) rs)) ≡ ((not b || test r) && every (λ r. not (starts f r) || test r) rs) in
    elim (starts f r) as P [ true ↦ ap (λ z. test r && z) rest | false ↦ rest ]

pub idle-all : {b : List ℕ} {sh : Shape} → Accepted b sh → (f i : ℕ) →
    list_all (λ r. held_once (signature_of b) r.lhs i) (filter (starts f) (system_of b).rules) ≡ idle_test (system_of b) f i
unfolding idle_test
idle-all {b} {sh} acc f i =
    every-filter f (λ r. held_once (signature_of b) r.lhs i) (system_of b).rules
    ∙ ap (λ g. every (λ r. not (starts f r) || held_once g r.lhs i) (system_of b).rules) (sym (signature b sh acc))

-- one starts with f
every-any : (f : ℕ) (rs : List Rule) → list_any (starts f) rs ≡ not (every (λ r. not (starts f r)) rs)
unfolding every
every-any f [] = refl
every-any f (r ∷ rs) =
    let rest = every-any f rs in
    let P : Bool → Type 0 = λ b. (b || list_any (starts f) rs) ≡ not (not b && every (λ r. not (starts f r)) rs) in
    elim (starts f r) as P [ true ↦ refl | false ↦ rest ]

pub defined-any : (s : System) (f : ℕ) → list_any (starts f) s.rules ≡ not (constructs s f)
unfolding constructs
defined-any s f = every-any f s.rules

-- ---- a strategy, from its last entry on

module _ (test : ℕ → Bool) where
  snoc-zero : (es : List ℕ) → closes test (es ++ 0 ∷ []) ≡ true
  unfolding closes idles
  snoc-zero [] = refl
  snoc-zero (zero ∷ es) = rw (snoc-zero es) (or-true (idles test (es ++ 0 ∷ [])))
  snoc-zero (suc i ∷ es) = snoc-zero es

  module _ (j : ℕ) where
    idles-idle : test j ≡ true → (es : List ℕ) → idles test (es ++ suc j ∷ []) ≡ idles test es
    unfolding idles
    idles-idle t [] = rw t
    idles-idle t (zero ∷ es) = refl
    idles-idle t (suc i ∷ es) = rw (idles-idle t es)

    idles-busy : test j ≡ false → (es : List ℕ) → idles test (es ++ suc j ∷ []) ≡ false
    unfolding idles
    idles-busy t [] = rw t
    idles-busy t (zero ∷ es) = refl
    idles-busy t (suc i ∷ es) = rw (idles-busy t es) (and-false (test i))
      where
        and-false : (x : Bool) → (x && false) ≡ false
        and-false true = refl
        and-false false = refl

    snoc-idle : test j ≡ true → (es : List ℕ) → closes test (es ++ suc j ∷ []) ≡ closes test es
    unfolding closes
    snoc-idle t [] = refl
    snoc-idle t (zero ∷ es) = rw (snoc-idle t es, idles-idle t es)
    snoc-idle t (suc i ∷ es) = snoc-idle t es

    snoc-busy : test j ≡ false → (es : List ℕ) → closes test (es ++ suc j ∷ []) ≡ false
    unfolding closes
    snoc-busy t [] = refl
    snoc-busy t (zero ∷ es) = rw (snoc-busy t es, idles-busy t es)
    snoc-busy t (suc i ∷ es) = snoc-busy t es

-- the entries that are left to look at: none, or those before the last, which is e
pub look-ends : (test : ℕ → Bool) {es : List ℕ} → es ≡ [] → closes test es ≡ false
unfolding closes
look-ends test e = rw e refl

module _ (test : ℕ → Bool) (rest : List ℕ) {es : List ℕ} {e : ℕ} (is : es ≡ rest ++ e ∷ []) where
  pub look-zero : e ≡ 0 → closes test es ≡ true
  look-zero z = ap (closes test) (is ∙ ap (λ y. rest ++ y ∷ []) z) ∙ snoc-zero test rest

  module _ (positive : e ≡ 0 → ⊥) where
    last : es ≡ rest ++ suc (e - 1) ∷ []
    last = let z : e ≡ suc (e - 1) = omega arith in is ∙ ap (λ y. rest ++ y ∷ []) z

    pub look-busy : test (e - 1) ≡ false → closes test es ≡ false
    look-busy t = ap (closes test) last ∙ snoc-busy test (e - 1) t rest

    pub look-idle : test (e - 1) ≡ true → closes test es ≡ closes test rest
    look-idle t = ap (closes test) last ∙ snoc-idle test (e - 1) t rest

-- ---- a symbol

module _ (s : System) (f : ℕ) {r : Bool} (is : r ≡ not (constructs s f)) where
  constructs-by : (t : Bool) → r ≡ not t → constructs s f ≡ t
  constructs-by t e = go (constructs s f) t (sym is ∙ e)
    where
      go : (x t : Bool) → not x ≡ not t → x ≡ t
      go true true q = refl
      go true false q = sym q
      go false true q = sym q
      go false false q = refl

  pub passes-constructor : r ≡ false → true ≡ passes s f
  unfolding passes
  passes-constructor e = rw (constructs-by true e)

  pub passes-closes : r ≡ true → {x : Bool} → x ≡ closes (idle_test s f) (strategy s f) → x ≡ passes s f
  unfolding passes
  passes-closes e q = rw (constructs-by false e, ← q)

-- ---- the symbols, one after the other

-- the symbols before the one whose strategy comes next pass
pub record Through (b : List ℕ) (s : Enumerate Strategies) : Type 0 where
  pub at : At b (enumerate_count s) (enumerate_source s)
  pub pass : (j : ℕ) → j < enumerate_count s → passes (system_of b) j ≡ true

module _ {b : List ℕ} {sh : Shape} (acc : Accepted b sh) where
  arity-count : length (system_of b).arities ≡ length (system_of b).strategies
  arity-count = let n = (well b sh acc).strategy_count in omega arith

  pub test-starts : {s : Enumerate Strategies} → enumerate_count s ≡ 0 → (enumerate_source s).left ≡ sh.symbols → (enumerate_source s).book.words.now ≡ b → Through b s
  test-starts z l e = record { at = rw z (at-start acc l e); pass = λ j h. absurd (omega arith) }

  module _ {s : Enumerate Strategies} (so : Through b s) where
    pub test-passes : enumerate_count s ≡ length (system_of b).strategies → first_unsafe (system_of b) ≡ none
    test-passes e = all_none (passes (system_of b)) 0 (length (system_of b).arities) (λ j l h. so.pass j (omega (arith, arity-count)))

    module _ {f : ℕ} (is : f ≡ enumerate_count s) {r : Bool} (told : r ≡ passes (system_of b) f) where
      pub test-fails : enumerate_count s < length (system_of b).strategies → r ≡ false → first_unsafe (system_of b) ≡ some f
      test-fails more q =
          let low : Lowest (passes (system_of b)) 0 (length (system_of b).arities) f =
          record { least = omega arith; inside = omega (arith, arity-count); fails = sym told ∙ q; lower = λ j l h. so.pass j (omega arith) } in
          lowest-some (passes (system_of b)) 0 (length (system_of b).arities) low

      pub test-goes : {t : Enumerate Strategies} → At b (enumerate_count s + 1) (enumerate_source t) → enumerate_count t ≡ enumerate_count s + 1 → r ≡ true → Through b t
      test-goes at n q = record {
        at = rw n at;
        pass = λ j h. elim (ℕ_discrete j f) [ yes e ↦ rw e (sym told ∙ q) | no d ↦ so.pass j (omega arith) ];
      }
