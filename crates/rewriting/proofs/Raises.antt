-- Numbers raised at some indices of a row, one by one: only they change, and each is read before it does.
use Prim.Native.Nat.{ℕ, suc, ◌+◌, ◌-◌, ◌<◌}
use native.Mathlib.Omega.{arith}
use mathlib.Core.Path.{◌≡◌, refl, sym, ap, ◌∙◌}
use mathlib.Core.List.{List, [], ◌∷◌, ◌++◌}
use lib.ListN.{length, get_or, set, take, drop, length-set}
use lib.Seq.{get_or-set_other, take-set-lt, drop-set-lt, get_or-take}
use Rattle.rewriting.specs.Ways.{raise}

module _ (d e : ℕ) where
  pub raise-none : (ls : List ℕ) → raise [] d e ls ≡ ls
  unfolding raise
  raise-none ls = refl

  pub raise-more : (q : ℕ) (qs ls : List ℕ) → raise (q ∷ qs) d e ls ≡ raise qs d e (set ls q (get_or ls q 0 - d + e))
  unfolding raise
  raise-more q qs ls = refl

  -- one index more, as a loop takes them
  pub raise-snoc : (qs : List ℕ) (q : ℕ) (ls : List ℕ) → raise (qs ++ q ∷ []) d e ls ≡ set (raise qs d e ls) q (get_or (raise qs d e ls) q 0 - d + e)
  unfolding raise
  raise-snoc [] q ls = refl
  raise-snoc (x ∷ qs) q ls = raise-snoc qs q (set ls x (get_or ls x 0 - d + e))

  pub raise-append : (ps qs ls : List ℕ) → raise (ps ++ qs) d e ls ≡ raise qs d e (raise ps d e ls)
  unfolding raise
  raise-append [] qs ls = refl
  raise-append (p ∷ ps) qs ls = raise-append ps qs (set ls p (get_or ls p 0 - d + e))

  pub raise-length : (qs ls : List ℕ) → length (raise qs d e ls) ≡ length ls
  unfolding raise
  raise-length [] ls = refl
  raise-length (q ∷ qs) ls = raise-length qs (set ls q (get_or ls q 0 - d + e)) ∙ length-set ls q (get_or ls q 0 - d + e)

  -- a row's first n numbers, where they hold the indices, and those behind them, which stay
  pub raise-take : (qs ls : List ℕ) (n : ℕ) → ((k : ℕ) → k < length qs → get_or qs k 0 < n) → take n (raise qs d e ls) ≡ raise qs d e (take n ls)
  unfolding raise
  raise-take [] ls n h = refl
  raise-take (q ∷ qs) ls n h =
      let l : q < n = h 0 (omega arith) in
      let x = get_or ls q 0 - d + e in
      raise-take qs (set ls q x) n (λ k m. h (suc k) (omega arith))
      ∙ ap (raise qs d e) (take-set-lt n ls q x l ∙ ap (λ z. set (take n ls) q (z - d + e)) (sym (get_or-take n ls q 0 l)))

  pub raise-drop : (qs ls : List ℕ) (n : ℕ) → ((k : ℕ) → k < length qs → get_or qs k 0 < n) → drop n (raise qs d e ls) ≡ drop n ls
  unfolding raise
  raise-drop [] ls n h = refl
  raise-drop (q ∷ qs) ls n h =
      let x = get_or ls q 0 - d + e in
      raise-drop qs (set ls q x) n (λ k m. h (suc k) (omega arith)) ∙ drop-set-lt n ls q x (h 0 (omega arith))

  -- a number behind those that are raised stays
  pub raise-later : (qs ls : List ℕ) (j : ℕ) → ((k : ℕ) → k < length qs → get_or qs k 0 < j) → get_or (raise qs d e ls) j 0 ≡ get_or ls j 0
  unfolding raise
  raise-later [] ls j h = refl
  raise-later (q ∷ qs) ls j h =
      let l : q < j = h 0 (omega arith) in
      let x = get_or ls q 0 - d + e in
      raise-later qs (set ls q x) j (λ k m. h (suc k) (omega arith)) ∙ get_or-set_other ls q j x 0 (λ z. omega arith)
