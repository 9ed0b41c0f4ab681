-- Lists that end alike.
use Prim.Native.Nat.{ℕ, suc, ◌+◌, ◌-◌, ◌≤◌}
use native.Mathlib.Omega.{arith}
use mathlib.Core.Path.{◌≡◌, refl, sym, ap, ◌∙◌}
use mathlib.Core.Bool.{Bool, true, false, cond}
use mathlib.Core.List.{List, [], ◌∷◌, reverse, reverse-append, reverse-reverse}
use lib.Dec.{eqb}
use lib.ListN.{length, take, drop, take-append-drop, length-drop, length-reverse}
use lib.Seq.{take_at}
use Rattle.std.proofs.lemmas.Bool.{eqb-true}
use Rattle.std.specs.List.{zip, prefix_len}

-- on how many places from the front on they agree
abbrev pub same : ℕ × ℕ → Bool
same p = eqb p.0 p.1

abbrev pub shared : List ℕ → List ℕ → ℕ
shared xs ys = prefix_len same (zip xs ys)

pub record Alike (xs ys : List ℕ) (n : ℕ) : Type 0 where
  pub left : n ≤ length xs
  pub right : n ≤ length ys
  pub front : take n xs ≡ take n ys

-- one place more
alike-more : (x y : ℕ) (xs ys : List ℕ) → Alike xs ys (shared xs ys) → (b : Bool) → eqb x y ≡ b → Alike (x ∷ xs) (y ∷ ys) (cond (eqb x y) (1 + shared xs ys) 0)
alike-more x y xs ys v true e =
    let n = shared xs ys in
    let next : suc n ≡ 1 + n = omega arith in
    rw e (record {
      left = let z = v.left in omega arith;
      right = let z = v.right in omega arith;
      front = ap (λ k. take k (x ∷ xs)) (sym next) ∙ (λ i. eqb-true x y e i ∷ v.front i) ∙ ap (λ k. take k (y ∷ ys)) next;
    })
alike-more x y xs ys v false e = rw e (record { left = omega arith; right = omega arith; front = refl })

alike : (xs ys : List ℕ) → Alike xs ys (shared xs ys)
alike [] ys = record { left = omega arith; right = omega arith; front = refl }
alike (x ∷ xs) [] = record { left = omega arith; right = omega arith; front = refl }
alike (x ∷ xs) (y ∷ ys) = alike-more x y xs ys (alike xs ys) (eqb x y) refl

-- the first words of a reversed list are the last ones
front-reverse : (l : List ℕ) (n : ℕ) → n ≤ length l → take n (reverse l) ≡ reverse (drop (length l - n) l)
front-reverse l n h =
    let m = length l - n in
    let long : length (reverse (drop m l)) ≡ n = (let z = length-reverse (drop m l) in let y = length-drop m l in omega arith) in
    ap (λ z. take n (reverse z)) (sym (take-append-drop m l)) ∙ ap (take n) (reverse-append (take m l) (drop m l))
    ∙ take_at (reverse (drop m l)) (reverse (take m l)) n long

pub ends-alike : (l r : List ℕ) (n : ℕ) → n ≡ shared (reverse l) (reverse r) →
    (n ≤ length l) × (n ≤ length r) × (drop (length l - n) l ≡ drop (length r - n) r)
ends-alike l r n e =
    let a : Alike (reverse l) (reverse r) n = rw e (alike (reverse l) (reverse r)) in
    let x : n ≤ length l = (let z = a.left in let y = length-reverse l in omega arith) in
    let y : n ≤ length r = (let z = a.right in let y = length-reverse r in omega arith) in
    let same-end : reverse (drop (length l - n) l) ≡ reverse (drop (length r - n) r) = sym (front-reverse l n x) ∙ a.front ∙ front-reverse r n y in
    (x, y, sym (reverse-reverse (drop (length l - n) l)) ∙ ap reverse same-end ∙ reverse-reverse (drop (length r - n) r))
