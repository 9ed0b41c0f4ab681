-- How many words the instance of a side has, where what is told of the lengths is told of its variables only.
use Prim.Native.Nat.{ℕ, ◌+◌, ◌-◌, ◌*◌, ◌≤◌, ◌<◌}
use native.Mathlib.Omega.{arith}
use native.Mathlib.Decide.{dec_lt}
use mathlib.Core.Path.{◌≡◌, refl, subst}
use mathlib.Core.List.{List, [], ◌∷◌}
use lib.ListN.{length, get_or, length-append}
use borrow.Author.Tests.{lt-ltb, le-ltb}
use Rattle.system.specs.Limits.{variable, term_words}
use Rattle.system.specs.System.{instance}
use Rattle.system.specs.Terms.{Member, first, later}
use Rattle.matching.specs.rules.Searches.{reduct_length}
use Rattle.matching.proofs.Matched.{instance-nil, instance-symbol, instance-variable}

module _ (lengths : List ℕ) where
  pub count_none : reduct_length lengths [] ≡ 0
  unfolding reduct_length
  count_none = refl

  pub count-symbol : (w : ℕ) (ls : List ℕ) → w < variable → reduct_length lengths (w ∷ ls) ≡ 1 + reduct_length lengths ls
  unfolding reduct_length
  count-symbol w ls h = rw (lt-ltb w variable h)

  pub count-variable : (w : ℕ) (ls : List ℕ) → variable ≤ w → reduct_length lengths (w ∷ ls) ≡ get_or lengths (w - variable) 0 + reduct_length lengths ls
  unfolding reduct_length
  count-variable w ls h = rw (le-ltb w variable h)

  -- the first word, as a variable
  front : {w : ℕ} {ls : List ℕ} → variable ≤ w → Member (variable + (w - variable)) (w ∷ ls)
  front {w} {ls} h = subst (λ x. Member x (w ∷ ls)) (let e : w ≡ variable + (w - variable) = omega arith in e) first

  pub instance-counted : (σ : ℕ → List ℕ) (ls : List ℕ) → ((v : ℕ) → Member (variable + v) ls → length (σ v) ≡ get_or lengths v 0) →
      length (instance σ ls) ≡ reduct_length lengths ls
  instance-counted σ [] h = rw (instance-nil σ, count_none)
  instance-counted σ (w ∷ ls) h =
      let ih = instance-counted σ ls (λ v m. h v (later m)) in
      elim (dec_lt w variable) [
        | yes l ↦ rw (instance-symbol σ w ls l, count-symbol w ls l) (omega arith)
        | no l ↦
            let e : w ≡ variable + (w - variable) = omega arith in
            rw (instance-variable σ w (w - variable) ls e, length-append (σ (w - variable)) (instance σ ls), count-variable w ls (omega arith))
            (omega (arith, h (w - variable) (front (omega arith))))
      ]

  pub count-bound : (ls : List ℕ) → ((v : ℕ) → Member (variable + v) ls → get_or lengths v 0 ≤ term_words) → reduct_length lengths ls ≤ length ls * term_words
  count-bound [] h = rw count_none (omega arith)
  count-bound (w ∷ ls) h =
      let ih = count-bound ls (λ v m. h v (later m)) in
      elim (dec_lt w variable) [
        | yes l ↦ rw (count-symbol w ls l) (omega arith)
        | no l ↦ rw (count-variable w ls (omega arith)) (omega (arith, h (w - variable) (front (omega arith))))
      ]
