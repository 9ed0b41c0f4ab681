-- What an instance of a side weighs: the side's own words, and each variable's term as often as the variable stands there.
use Prim.Native.Nat.{ℕ, zero, suc, ◌+◌, ◌-◌, ◌*◌, ◌≤◌, ◌<◌}
use native.Mathlib.Nat.{suc-mul, zero-mul, mul-le-mul_right}
use native.Mathlib.Omega.{arith}
use native.Mathlib.Decide.{dec_lt, ℕ_discrete}
use mathlib.Core.Path.{◌≡◌, refl, sym, ap}
use mathlib.Core.List.{List, [], ◌∷◌, ◌++◌}
use Rattle.system.specs.Limits.{variable}
use Rattle.system.specs.System.{instance}
use Rattle.system.specs.Terms.{Member, first, later}
use Rattle.matching.proofs.Matched.{instance-nil, instance-symbol, instance-variable}
use Rattle.termination.specs.Weights.{Weights, weight}
use Rattle.system.specs.Terms.{occurs}
use Rattle.termination.proofs.Words.{weight-variable, weight-append, weight-cons, weight-nil}
use Rattle.system.proofs.Occurrences.{occurs-same, occurs-other}

-- ---- a sum over the numbers below n

sum : ℕ → (ℕ → ℕ) → ℕ
sum zero f = 0
sum (suc n) f = f n + sum n f

sum-le : (n : ℕ) (f h : ℕ → ℕ) → ((v : ℕ) → v < n → f v ≤ h v) → sum n f ≤ sum n h
unfolding sum
sum-le zero f h l = omega arith
sum-le (suc n) f h l =
    let z = l n (omega arith) in
    let z' = sum-le n f h (λ v k. l v (omega arith)) in
    omega arith

sum_same : (n : ℕ) (f h : ℕ → ℕ) → ((v : ℕ) → v < n → f v ≡ h v) → sum n f ≡ sum n h
unfolding sum
sum_same zero f h l = refl
sum_same (suc n) f h l =
    let z = l n (omega arith) in
    let z' = sum_same n f h (λ v k. l v (omega arith)) in
    omega arith

sum-none : (n : ℕ) (f : ℕ → ℕ) → ((v : ℕ) → f v ≡ 0) → sum n f ≡ 0
unfolding sum
sum-none zero f h = refl
sum-none (suc n) f h = let z = h n in let z' = sum-none n f h in omega arith

-- more by d at one number
sum_more : (n k d : ℕ) (f h : ℕ → ℕ) → k < n → h k ≡ d + f k → ((v : ℕ) → v < n → (v ≡ k → ⊥) → h v ≡ f v) → sum n h ≡ d + sum n f
unfolding sum
sum_more zero k d f h l e o = absurd (omega arith)
sum_more (suc n) k d f h l e o = elim (ℕ_discrete k n) [
  | yes q ↦
      let z : h n ≡ d + f n = rw q at e in
      let z' = sum_same n h f (λ v m. o v (omega arith) (λ y. absurd (omega arith))) in
      omega arith
  | no q ↦
      let z = o n (omega arith) (λ y. q (sym y)) in
      let z' = sum_more n k d f h (omega arith) e (λ v m. o v (omega arith)) in
      omega arith
]

-- ---- a lighter part makes a lighter whole

pub weight-patch : (m : Weights) (a b u v : List ℕ) → weight m v < weight m u → weight m (a ++ (v ++ b)) < weight m (a ++ (u ++ b))
weight-patch m a b u v l = rw (weight-append m a (v ++ b), weight-append m a (u ++ b), weight-append m v b, weight-append m u b) (omega arith)

-- ---- what the variables' terms weigh, each as often as its variable stands in a side

module _ (m : Weights) (σ : ℕ → List ℕ) where
  share : List ℕ → ℕ → ℕ
  share ws v = occurs (variable + v) ws * weight m (σ v)

  pub shared : ℕ → List ℕ → ℕ
  shared n ws = sum n (share ws)

  shared-none : (n : ℕ) → shared n [] ≡ 0
  unfolding share shared occurs
  shared-none n = sum-none n (share []) (λ v. zero-mul (weight m (σ v)))

  -- a symbol before them changes nothing, a variable adds its term
  shared-symbol : (n w : ℕ) (ws : List ℕ) → w < variable → shared n (w ∷ ws) ≡ shared n ws
  unfolding share shared
  shared-symbol n w ws l =
      sum_same n (share (w ∷ ws)) (share ws) (λ v k. ap (λ y. y * weight m (σ v)) (occurs-other (variable + v) w ws (λ e. omega arith)))

  shared-variable : (n k w : ℕ) (ws : List ℕ) → w ≡ variable + k → k < n → shared n (w ∷ ws) ≡ weight m (σ k) + shared n ws
  unfolding share shared
  shared-variable n k w ws e l =
      sum_more n k (weight m (σ k)) (share ws) (share (w ∷ ws)) l
      (rw (e, occurs-same (variable + k) ws) (times (occurs (variable + k) ws) (weight m (σ k))))
      (λ v h d. ap (λ y. y * weight m (σ v)) (occurs-other (variable + v) w ws (λ q. d (omega arith))))
    where
      times : (a b : ℕ) → suc a * b ≡ b + a * b
      times a b = let z = suc-mul a b in omega arith

  pub shared-le : (n : ℕ) (a b : List ℕ) → ((v : ℕ) → v < n → occurs (variable + v) a ≤ occurs (variable + v) b) → shared n a ≤ shared n b
  unfolding share shared
  shared-le n a b h = sum-le n (share a) (share b) (λ v l. mul-le-mul_right (weight m (σ v)) (h v l))

  -- an instance of a side whose variables are numbered below n
  pub weight-instance : (n : ℕ) (ws : List ℕ) → ((w : ℕ) → Member w ws → w < variable + n) → weight m (instance σ ws) ≡ weight m ws + shared n ws
  weight-instance n [] h = rw (instance-nil σ, weight-nil m, shared-none n) (omega arith)
  weight-instance n (w ∷ ws) h =
      let ih = weight-instance n ws (λ x st. h x (later st)) in
      elim (dec_lt w variable) [
        | yes l ↦ rw (instance-symbol σ w ws l, weight-cons m w (instance σ ws), weight-cons m w ws, shared-symbol n w ws l) (omega arith)
        | no l ↦
            let k = w - variable in
            let e : w ≡ variable + k = omega arith in
            let b : k < n = (let z = h w first in omega arith) in
            rw (instance-variable σ w k ws e, weight-append m (σ k) (instance σ ws), weight-cons m w ws, shared-variable n k w ws e b)
            (let z = weight-variable m w (omega arith) in omega arith)
      ]
