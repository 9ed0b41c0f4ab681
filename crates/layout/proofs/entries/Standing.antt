-- Whether an entry stands in a strategy that no book lists.
use Prim.Native.Nat.{ℕ, zero, suc, ◌≤◌}
use native.Mathlib.Omega.{arith}
use mathlib.Core.Path.{◌≡◌, refl, sym, ap, ◌∙◌}
use mathlib.Core.Bool.{Bool, false}
use mathlib.Core.List.{List}
use lib.Dec.{leb}
use borrow.Author.Tests.{ne_eqb, lt-leb}
use Rattle.reader.specs.declared.Shape.{Shape}
use Rattle.system.specs.BuiltIns.{built_in_arity, built_in_strategy}
use Rattle.system.specs.System.{strategy}
use Rattle.reader.specs.Book.{system_of, Accepted}
use Rattle.system.specs.Terms.{among}
use Rattle.system.proofs.BuiltIns.{eager, strategy-eager}
use Rattle.system.proofs.Rules.{strategy-unlisted}
use Rattle.layout.proofs.Suffixes.{strategy-count}

-- ---- the built-in strategies

one_argument : (e : ℕ) → leb e 1 ≡ among e (eager 1)
unfolding among
one_argument zero = refl
one_argument (suc zero) = refl
one_argument (suc (suc e)) = rw (
  lt-leb (suc (suc e)) 1 (omega arith),
  ne_eqb (suc (suc e)) 1 (λ z. omega arith),
  ne_eqb (suc (suc e)) 0 (λ z. omega arith),
)

two-arguments : (e : ℕ) → leb e 2 ≡ among e (eager 2)
unfolding among
two-arguments zero = refl
two-arguments (suc zero) = refl
two-arguments (suc (suc zero)) = refl
two-arguments (suc (suc (suc e))) = rw (
  lt-leb (suc (suc (suc e))) 2 (omega arith),
  ne_eqb (suc (suc (suc e))) 1 (λ z. omega arith),
  ne_eqb (suc (suc (suc e))) 2 (λ z. omega arith),
  ne_eqb (suc (suc (suc e))) 0 (λ z. omega arith),
)

module _ (w e n : ℕ) (is : n ≡ built_in_arity w) (few : n ≤ 2) where
  as-eager : (b : Bool) → b ≡ among e (eager n) → b ≡ among e (built_in_strategy w)
  as-eager b q = q ∙ ap (λ n. among e (eager n)) is ∙ ap (among e) (sym (strategy-eager w))

  pub plain-among : n ≡ 0 → false ≡ among e (built_in_strategy w)
  plain-among z = as-eager false (rw z (unfold among in refl))

  pub operator-among : (n ≡ 0 → ⊥) → leb e n ≡ among e (built_in_strategy w)
  operator-among some = as-eager (leb e n) (go n few some)
    where
      go : (n : ℕ) → n ≤ 2 → (n ≡ 0 → ⊥) → leb e n ≡ among e (eager n)
      go zero h z = absurd (z refl)
      go (suc zero) h z = one_argument e
      go (suc (suc zero)) h z = two-arguments e
      go (suc (suc (suc n))) h z = absurd (omega arith)

pub among-unlisted : (b : List ℕ) (sh : Shape) → Accepted b sh → (w n e : ℕ) → n ≡ w → sh.symbols ≤ n → among e (built_in_strategy w) ≡ among e (strategy (system_of b) w)
among-unlisted b sh acc w n e q h = ap (among e) (sym (strategy-unlisted (system_of b) w (omega (arith, strategy-count b sh acc))))
