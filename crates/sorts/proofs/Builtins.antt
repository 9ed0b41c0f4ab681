-- The built-in rules pass under every list of sorts: their words have sort 0 throughout.
use Prim.Native.Nat.{ℕ, ◌+◌, ◌≤◌, ◌<◌}
use native.Mathlib.Omega.{arith}
use mathlib.Core.Path.{◌≡◌, ◌∙◌}
use mathlib.Core.Logic.{inl}
use mathlib.Core.List.{List, [], ◌∷◌, ◌++◌}
use lib.ListN.{length, replicate}
use Rattle.system.specs.Limits.{variable}
use Rattle.system.specs.BuiltIns.{literal, literals, maximum, minimum, square, larger, smaller, square_law}
use Rattle.system.specs.Signature.{Signature, arity}
use Rattle.system.specs.System.{System, Rule, rule}
use Rattle.system.specs.Rules.{BuiltIn, max, min, sqr, listed, built_in}
use Rattle.system.specs.Terms.{WellFormed}
use Rattle.system.proofs.BuiltIns.{arity-two, arity-one, arity-none, larger-below, smaller-below}
use Rattle.system.proofs.Signatures.{arity-unlisted, few-listed}
use Rattle.system.proofs.SquareLaw.{square-below}
use Rattle.sorts.specs.Sorts.{Sorts, Sorted, empty, more, SortedRule, WellSorted, Lists}
use Rattle.sorts.proofs.Sortings.{sort-symbol}
use Rattle.sorts.proofs.Unlisted.{unlisted-result, unlisted-arguments}

module _ (g : Signature) (few : length g ≤ literal) (ks : Sorts) (fit : Lists ks g) (τ : ℕ → ℕ) where
  -- a built-in word of so many arguments at a place of sort 0, before terms of sort 0, one for each argument
  built-more : (w n : ℕ) (es ws : List ℕ) → literal ≤ w → w < variable → arity g w ≡ n → Sorted g ks τ (replicate n 0 ++ es) ws → Sorted g ks τ (0 ∷ es) (w ∷ ws)
  built-more w n es ws l h e s =
      more {w = w} {e = 0} {es = es} {ws = ws} (sort-symbol g ks τ w h ∙ unlisted-result g ks fit w (omega arith)) (rw (unlisted-arguments g ks fit w (omega arith), e) s)

  literal-more : (n : ℕ) (es ws : List ℕ) → n < literals → Sorted g ks τ es ws → Sorted g ks τ (0 ∷ es) ((literal + n) ∷ ws)
  literal-more n es ws h s =
      built-more (literal + n) 0 es ws (omega arith) (omega arith) (arity-unlisted g (literal + n) (omega arith) ∙ arity-none (literal + n) (inl (omega arith))) s

  literal-one : (n : ℕ) → n < literals → Sorted g ks τ (0 ∷ []) ((literal + n) ∷ [])
  literal-one n h = literal-more n [] [] h empty

  two : (f m n : ℕ) → maximum ≤ f → f ≤ minimum → m < literals → n < literals → Sorted g ks τ (0 ∷ []) (f ∷ (literal + m) ∷ (literal + n) ∷ [])
  two f m n l h a b =
      built-more f 2 [] _ (omega arith) (omega arith) (arity-unlisted g f (omega arith) ∙ arity-two f l h)
      (literal-more m (0 ∷ []) _ a (literal-one n b))

  one : (n : ℕ) → n < literals → Sorted g ks τ (0 ∷ []) (square ∷ (literal + n) ∷ [])
  one n a = built-more square 1 [] _ (omega arith) (omega arith) (arity-unlisted g square (omega arith) ∙ arity-one square (omega arith) (omega arith)) (literal-one n a)

-- BUILT-IN RULES PASS, whatever the list
module _ (g : Signature) (few : length g ≤ literal) (ks : Sorts) (fit : Lists ks g) where
  pub builtin-sorted : {k : ℕ} {r : Rule} → BuiltIn k r → SortedRule g ks r
  builtin-sorted (max {m} {n} h k) = record {
    variable_sort = λ _. 0;
    sort = 0;
    left = two g few ks fit (λ _. 0) maximum m n (omega arith) (omega arith) h k;
    right = literal-one g few ks fit (λ _. 0) (larger m n) (larger-below m n literals h k);
  }
  builtin-sorted (min {m} {n} h k) = record {
    variable_sort = λ _. 0;
    sort = 0;
    left = two g few ks fit (λ _. 0) minimum m n (omega arith) (omega arith) h k;
    right = literal-one g few ks fit (λ _. 0) (smaller m n) (smaller-below m n literals h k);
  }
  builtin-sorted (sqr {n} h) = record {
    variable_sort = λ _. 0;
    sort = 0;
    left = one g few ks fit (λ _. 0) n h;
    right = literal-one g few ks fit (λ _. 0) (square_law n) (square-below n h);
  }

-- so all rules pass where the listed ones do
pub all-sorted : (s : System) → WellFormed s → (ks : Sorts) → Lists ks s.arities → ((k : ℕ) → k < length s.rules → SortedRule s.arities ks (rule s k)) →
    WellSorted ks s
all-sorted s wf ks fit h k r (listed l) = h k l
all-sorted s wf ks fit h k r (built_in d) = builtin-sorted s.arities (few-listed s wf) ks fit d
