-- What a parser that succeeds tells of its parts; and words that stand in a book.
use Prim.Native.Nat.{ℕ, suc, ◌+◌, ◌≤◌, ◌<◌}
use native.Mathlib.Omega.{arith}
use native.Mathlib.Decide.{dec_lt}
use mathlib.Core.Path.{◌≡◌, refl, sym, ap, ◌∙◌}
use mathlib.Core.List.{List, [], ◌∷◌, ◌++◌, append_assoc}
use lib.ListN.{length, get_or, drop, length-append, drop_of_length-le}
use lib.Seq.{drop-cons, drop-drop, drop-append_seam}
use Rattle.system.specs.declared.numbers.Fault.{Fault}
use Rattle.reader.specs.Parser.{Parsed, ok, fault, and_then}

-- ---- going on after a parser

module _ {A : Type 0} where
  pub ok-value : {x y : A} {i j : ℕ} → ok x i ≡ ok y j → x ≡ y
  ok-value e = cc

  pub ok-place : {x y : A} {i j : ℕ} → ok x i ≡ ok y j → i ≡ j
  ok-place e = cc

  pub not-fault : {x : A} {f : Fault} {i j : ℕ} → fault f i ≡ ok x j → ⊥
  not-fault e = let z : ◌≡◌ {A = ℕ} 0 1 = cc in omega arith

-- it succeeded, and so did what came after
pub record Then {A B : Type 0} (p : Parsed A) (on : A → ℕ → Parsed B) (y : B) (k : ℕ) : Type 0 where
  pub value : A
  pub place : ℕ
  pub reads : p ≡ ok value place
  pub goes : on value place ≡ ok y k

module _ {A B : Type 0} where
  pub then_ok : (p : Parsed A) (on : A → ℕ → Parsed B) {y : B} {k : ℕ} → and_then p on ≡ ok y k → Then p on y k
  then_ok (ok x j) on e = record { value = x; place = j; reads = refl; goes = e }
  then_ok (fault f i) on e = absurd (not-fault e)

  pub ok-then : {p : Parsed A} {x : A} {j : ℕ} → p ≡ ok x j → (on : A → ℕ → Parsed B) → and_then p on ≡ on x j
  ok-then e on = rw e

  pub fault-then : {p : Parsed A} {f : Fault} {j : ℕ} → p ≡ fault f j → (on : A → ℕ → Parsed B) → and_then p on ≡ fault f j
  fault-then e on = rw e

-- ---- words that stand in a book

-- the words xs stand in ws from index i up to index j
pub record Between (ws : List ℕ) (i j : ℕ) (xs : List ℕ) : Type 0 where
  pub words : drop i ws ≡ xs ++ drop j ws
  pub ends : j ≡ i + length xs

-- the first of the words from i on
pub drop_head : (ws : List ℕ) (i w : ℕ) (rest : List ℕ) → drop i ws ≡ w ∷ rest → (i < length ws) × (get_or ws i 0 ≡ w) × (drop (suc i) ws ≡ rest)
drop_head ws i w rest e = elim (dec_lt i (length ws)) [ yes h ↦ here h | no h ↦ absurd (beyond (omega arith)) ]
  where
    beyond : length ws ≤ i → ⊥
    beyond h =
        let d : drop i ws ≡ [] = drop_of_length-le ws h in
        let z : ◌≡◌ {A = ℕ} 0 1 = cc in
        omega arith

    here : i < length ws → (i < length ws) × (get_or ws i 0 ≡ w) × (drop (suc i) ws ≡ rest)
    here h = let d = drop-cons ws i 0 h in (h, cc, cc)

pub drop-front : (ws : List ℕ) (i : ℕ) (xs rest : List ℕ) → drop i ws ≡ xs ++ rest → drop (i + length xs) ws ≡ rest
drop-front ws i xs rest e = sym (drop-drop (length xs) i ws) ∙ rw e (drop-append_seam xs rest)

module _ {ws : List ℕ} where
  pub between_none : (i : ℕ) → Between ws i i []
  between_none i = record { words = refl; ends = omega arith }

  pub between-end : {i j : ℕ} → Between ws i j [] → i ≡ j
  between-end b = let q = b.ends in omega arith

  pub between-one : (i : ℕ) → i < length ws → Between ws i (suc i) (get_or ws i 0 ∷ [])
  between-one i h = record { words = drop-cons ws i 0 h; ends = omega arith }

  pub between_join : {i j k : ℕ} {xs ys : List ℕ} → Between ws i j xs → Between ws j k ys → Between ws i k (xs ++ ys)
  between_join {xs} {ys} a b =
      record {
        words = a.words ∙ ap (λ r. xs ++ r) b.words ∙ sym (append_assoc xs ys _);
        ends = let e = length-append xs ys in let p = a.ends in let q = b.ends in omega arith;
      }

  -- the first part ends where the second starts
  pub between_split : {i k : ℕ} (xs ys : List ℕ) → Between ws i k (xs ++ ys) → Between ws i (i + length xs) xs × Between ws (i + length xs) k ys
  between_split {i} {k} xs ys b =
      let e : drop i ws ≡ xs ++ (ys ++ drop k ws) = b.words ∙ append_assoc xs ys (drop k ws) in
      let f : drop (i + length xs) ws ≡ ys ++ drop k ws = drop-front ws i xs (ys ++ drop k ws) e in (
        record { words = rw f e; ends = refl },
        record { words = f; ends = let l = length-append xs ys in let q = b.ends in omega arith },
      )

  -- what stands there is known by what the parser gave
  pub between-ok : {A : Type 0} (enc : A → List ℕ) {x y : A} {i j k : ℕ} → ok x j ≡ ok y k → Between ws i j (enc x) → Between ws i k (enc y)
  between-ok enc e b = rw (← ok-value e, ← ok-place e) b
