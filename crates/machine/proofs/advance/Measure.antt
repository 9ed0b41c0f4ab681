-- How many transitions the machine makes without a rewrite: the measure of its loop.
use Prim.Native.Nat.{ℕ, zero, suc, ◌+◌, ◌-◌, ◌≤◌, ◌<◌}
use native.Mathlib.Omega.{arith}
use mathlib.Core.Path.{◌≡◌, refl, subst}
use mathlib.Core.List.{List, [], ◌∷◌, ◌++◌, append-nil}
use lib.ListN.{length, drop, drop_of_length-le}
use Rattle.system.specs.Signature.{argument}
use Rattle.system.specs.System.{System}
use Rattle.rewriting.specs.Machine.{strategy_at, down, position}
use Rattle.rewriting.proofs.Laws.{next-entry}
use Rattle.machine.proofs.advance.Levels.{outward, given_below}

module _ (s : System) (t : List ℕ) where
  -- the transitions at p over the entries es: one for each, those of each argument, and one to leave
  pub scan_remaining : (ℕ → ℕ) → List ℕ → ℕ → ℕ
  scan_remaining inner [] p = 1
  scan_remaining inner (zero ∷ es) p = suc (scan_remaining inner es p)
  scan_remaining inner (suc i ∷ es) p = suc (inner (argument s.arities t p i) + scan_remaining inner es p)

  pub enter_remaining : ℕ → ℕ → ℕ
  enter_remaining zero p = 0
  enter_remaining (suc l) p = scan_remaining (λ q. enter_remaining l q) (strategy_at s t p) p

  -- those that remain in a state
  pub remaining : ℕ → List ℕ → ℕ → ℕ
  remaining l [] p = 0
  remaining zero (c ∷ cs) p = 0
  remaining (suc l) (c ∷ cs) p = remaining l cs (down s t p c) + scan_remaining (enter_remaining l) (drop c (strategy_at s t p)) p

  remaining-start : (l p : ℕ) → remaining l (0 ∷ []) p ≡ enter_remaining l p
  unfolding remaining enter_remaining
  remaining-start zero p = refl
  remaining-start (suc l) p = omega arith

  -- those at a level and those of the levels below it; fewer below are fewer
  abbrev on : ℕ → ℕ → ℕ → ℕ → ℕ
  on l c p n = n + scan_remaining (enter_remaining l) (drop c (strategy_at s t p)) p

  remaining-level : (l c : ℕ) (cs : List ℕ) (p : ℕ) → remaining (suc l) (c ∷ cs) p ≡ on l c p (remaining l cs (down s t p c))
  unfolding remaining
  remaining-level l c cs p = refl

  outward-less : (m : ℕ) (cs : List ℕ) (p x y : ℕ) → x < y → outward s t on m cs p x < outward s t on m cs p y
  unfolding outward
  outward-less m [] p x y h = h
  outward-less m (c ∷ cs) p x y h = let z = outward-less m cs (down s t p c) x y h in omega arith

  module _ (l c p : ℕ) where
    top-pop : length (strategy_at s t p) ≤ c → remaining (suc l) [] p < remaining (suc l) (c ∷ []) p
    unfolding remaining scan_remaining
    top-pop h = rw (drop_of_length-le (strategy_at s t p) h) (omega arith)

    module _ (es : List ℕ) where
      top-pass : (e : ℕ) → drop c (strategy_at s t p) ≡ e ∷ es → remaining (suc l) (suc c ∷ []) p < remaining (suc l) (c ∷ []) p
      unfolding remaining scan_remaining
      top-pass zero q = rw (q, (next-entry _ c 0 es q).1) (omega arith)
      top-pass (suc i) q = rw (q, (next-entry _ c (suc i) es q).1) (omega arith)

      top-open : (i : ℕ) → drop c (strategy_at s t p) ≡ suc i ∷ es → remaining (suc l) (suc c ∷ 0 ∷ []) p < remaining (suc l) (c ∷ []) p
      unfolding remaining scan_remaining down
      top-open i q = let n = next-entry _ c (suc i) es q in rw (q, n.0, n.1, remaining-start l (argument s.arities t p i)) (omega arith)

  -- each transition without a rewrite leaves fewer: at the level below the levels cs, where c entries are begun
  module _ (l p : ℕ) (cs : List ℕ) (c : ℕ) (room : length cs < l) where
    abbrev here : ℕ
    here = position s t cs p

    abbrev m : ℕ
    m = l - suc (length cs)

    less : (xs ys : List ℕ) → remaining (suc m) xs here < remaining (suc m) ys here → remaining l (cs ++ xs) p < remaining l (cs ++ ys) p
    less xs ys h =
        let e = given_below s t on remaining remaining-level l p cs room in
        rw (e xs, e ys) (outward-less (suc m) cs p (remaining (suc m) xs here) (remaining (suc m) ys here) h)

    pub less-end : length (strategy_at s t here) ≤ c → remaining l cs p < remaining l (cs ++ c ∷ []) p
    less-end h = subst (λ z. remaining l z p < remaining l (cs ++ c ∷ []) p) (append-nil cs) (less [] (c ∷ []) (top-pop m c here h))

    pub less-entry : (e : ℕ) (es : List ℕ) → drop c (strategy_at s t here) ≡ e ∷ es → remaining l (cs ++ suc c ∷ []) p < remaining l (cs ++ c ∷ []) p
    less-entry e es q = less (suc c ∷ []) (c ∷ []) (top-pass m c here es e q)

    pub less-argument : (es : List ℕ) (i : ℕ) → drop c (strategy_at s t here) ≡ suc i ∷ es → remaining l (cs ++ suc c ∷ 0 ∷ []) p < remaining l (cs ++ c ∷ []) p
    less-argument es i q = less (suc c ∷ 0 ∷ []) (c ∷ []) (top-open m c here es i q)
