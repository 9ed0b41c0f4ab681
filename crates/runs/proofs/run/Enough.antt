-- A run that is allowed as many steps as the limit does not wait before one: 11 stops it first.
use Prim.Native.Nat.{ℕ, zero, suc, ◌+◌, ◌≤◌}
use native.Mathlib.Omega.{arith}
use mathlib.Core.Path.{sym, subst}
use mathlib.Core.List.{List, [], ◌∷◌, ◌++◌}
use Rattle.system.specs.Limits.{levels}
use Rattle.system.specs.System.{System}
use Rattle.rewriting.specs.Evaluation.{Limits, Config, stepped, steps}
use Rattle.rewriting.specs.Machine.{position, Next, final, deep, ready, advance}
use Rattle.rewriting.specs.Runs.{Came, ended, sunk, barred, waits, come, run}
use Rattle.rewriting.proofs.Runs.{tests-cases, come-final, come-deep, come-waits, come-steps, run_is}

-- it does not wait
abbrev pub Moves : Came → Type 0
Moves (ended r) = Unit {0}
Moves (sunk r) = Unit {0}
Moves (barred l outer c x r) = Unit {0}
Moves (waits outer c x r) = ⊥

module _ (s : System) (limits : Limits) (p : ℕ) where
  come-moves : (k : ℕ) (n : Next) (r : Config) → limits.steps ≤ k + steps r → Moves (come s limits p k n r)
  come-moves zero n r m = go n
    where
      go : (n : Next) → Moves (come s limits p 0 n r)
      go final = subst Moves (sym (come-final s limits p 0 r)) tt
      go deep = subst Moves (sym (come-deep s limits p 0 r)) tt
      go (ready outer c x) =
          subst Moves (sym (come-waits s limits p outer c x r))
          (tests-cases s limits outer c x r Moves (position s r.term outer p) (waits outer c x r) (λ l b. tt) (λ f. absurd (omega (arith, f.0))))
  come-moves (suc k) n r m = go n (λ n r. come-moves k n r)
    where
      go : (n : Next) → ((n : Next) (r : Config) → limits.steps ≤ k + steps r → Moves (come s limits p k n r)) → Moves (come s limits p (suc k) n r)
      go final ih = subst Moves (sym (come-final s limits p (suc k) r)) tt
      go deep ih = subst Moves (sym (come-deep s limits p (suc k) r)) tt
      go (ready outer c x) ih =
          let q = position s r.term outer p in
          let r₁ = stepped s q r x in
          let cs = outer ++ 0 ∷ [] in
          let then : Moves (run s limits p k cs r₁) =
          subst Moves (sym (run_is s limits p k cs r₁)) (ih (advance s levels cs r₁.term p) r₁ (omega arith)) in
          subst Moves (sym (come-steps s limits p outer c x r k))
          (tests-cases s limits outer c x r Moves q (run s limits p k cs r₁) (λ l b. tt) (λ f. then))

  pub run-moves : (k : ℕ) (cs : List ℕ) (r : Config) → limits.steps ≤ k + steps r → Moves (run s limits p k cs r)
  run-moves k cs r m = subst Moves (sym (run_is s limits p k cs r)) (come-moves k (advance s levels cs r.term p) r m)
