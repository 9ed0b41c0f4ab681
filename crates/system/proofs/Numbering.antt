-- Variables that are numbered as they come (02, F-7): after each word as many are known as different ones stand before it, and no variable is above
-- that count; and that is all.
use Prim.Native.Nat.{ℕ, zero, suc, ◌+◌, ◌-◌, ◌≤◌, ◌<◌}
use native.Mathlib.Omega.{arith}
use native.Mathlib.Decide.{ℕ_discrete, dec_lt}
use mathlib.Core.Path.{◌≡◌, refl, sym, ◌∙◌, subst}
use mathlib.Core.Logic.{◌↔◌}
use mathlib.Core.Bool.{Bool, true, false, ◌||◌}
use mathlib.Core.List.{List, [], ◌∷◌, ◌++◌, append_assoc, append-nil}
use lib.Dec.{eqb, ltb}
use borrow.Author.Tests.{lt-ltb, le-ltb, eq-eqb, ne_eqb}
use Rattle.system.specs.Limits.{variable, variables}
use Rattle.system.specs.Terms.{among, standing, different, Numbered, end, symbol, next, again, InOrder}
use Rattle.system.proofs.Members.{numbered-le}

-- ---- one word more at the end

among-last : (e w : ℕ) (ws : List ℕ) → among e (ws ++ w ∷ []) ≡ (among e ws || eqb e w)
unfolding among
among-last e w [] = go (eqb e w)
  where
    go : (b : Bool) → (b || false) ≡ b
    go true = refl
    go false = refl
among-last e w (d ∷ ds) = rw (among-last e w ds) (go (eqb e d))
  where
    go : (b : Bool) → (b || (among e ds || eqb e w)) ≡ ((b || among e ds) || eqb e w)
    go true = refl
    go false = refl

-- ---- which variables stand in a list: those below n

record Known (n : ℕ) (ws : List ℕ) : Type 0 where
  here : (v : ℕ) → v < variables → among (variable + v) ws ≡ ltb v n

known-none : Known 0 []
unfolding among
known-none = record { here = λ v l. sym (le-ltb v 0 (omega arith)) }

module _ {n : ℕ} {ws : List ℕ} (k : Known n ws) where
  known-old : (w : ℕ) → w < variable + n → Known n (ws ++ w ∷ [])
  known-old w h = record { here = still }
    where
      go : (b : Bool) → (b || false) ≡ b
      go true = refl
      go false = refl

      still : (v : ℕ) → v < variables → among (variable + v) (ws ++ w ∷ []) ≡ ltb v n
      still v l = among-last (variable + v) w ws ∙ rw (k.here v l) (elim (ℕ_discrete (variable + v) w) [
        | yes e ↦ rw (lt-ltb v n (omega arith))
        | no d ↦ rw (ne_eqb (variable + v) w d) (go (ltb v n))
      ])

  known-new : (w : ℕ) → w ≡ variable + n → Known (suc n) (ws ++ w ∷ [])
  known-new w e = record {
    here = λ v l. among-last (variable + v) w ws ∙ rw (k.here v l) (elim (ℕ_discrete v n) [
      | yes q ↦ rw (eq-eqb (variable + v) w (omega arith), le-ltb v n (omega arith), lt-ltb v (suc n) (omega arith))
      | no d ↦ rw (ne_eqb (variable + v) w (λ q. d (omega arith))) (elim (dec_lt v n) [
        | yes h ↦ rw (lt-ltb v n h, lt-ltb v (suc n) (omega arith))
        | no h ↦ rw (le-ltb v n (omega arith), le-ltb v (suc n) (omega arith))
      ])
    ]);
  }

  -- they are n
  standing-known : (m : ℕ) → m ≤ variables → (m ≤ n → standing m ws ≡ m) × (n ≤ m → standing m ws ≡ n)
  unfolding standing
  standing-known zero l = (λ h. refl, λ h. omega arith)
  standing-known (suc m) l =
      let ih = standing-known m (omega arith) in (
        λ h. rw (k.here m l, lt-ltb m n h) (let z = ih.0 (omega arith) in omega arith),
        λ h. elim (dec_lt m n) [
          | yes q ↦ rw (k.here m l, lt-ltb m n q) (let z = ih.0 (omega arith) in omega arith)
          | no q ↦ rw (k.here m l, le-ltb m n (omega arith)) (let z = ih.1 (omega arith) in omega arith)
        ],
      )

  known-different : n ≤ variables → different ws ≡ n
  known-different h = (standing-known variables (omega arith)).1 h

-- ---- words that are numbered after others

after_last : (a : List ℕ) (w : ℕ) (b : List ℕ) → a ++ w ∷ b ≡ (a ++ w ∷ []) ++ b
after_last a w b = sym (append_assoc a (w ∷ []) b)

known-after : {n m : ℕ} {ls : List ℕ} → Numbered n m ls → m ≤ variables → (a : List ℕ) → Known n a → Known m (a ++ ls)
known-after {n} end few a k = rw (append-nil a) k
known-after {n} {m} (symbol {w} {ws} l nb) few a k = subst (Known m) (sym (after_last a w ws)) (known-after nb few (a ++ w ∷ []) (known-old k w (omega arith)))
known-after {n} {m} (next {w} {ws} e nb) few a k = subst (Known m) (sym (after_last a w ws)) (known-after nb few (a ++ w ∷ []) (known-new k w e))
known-after {n} {m} (again {v} {w} {ws} e l nb) few a k = subst (Known m) (sym (after_last a w ws)) (known-after nb few (a ++ w ∷ []) (known-old k w (omega arith)))

-- as many variables are known after them as different ones stand there
pub numbered-different : {m : ℕ} {ls : List ℕ} → Numbered 0 m ls → m ≤ variables → different ls ≡ m
numbered-different nb few = known-different (known-after nb few [] known-none) few

record Cut (n m : ℕ) (a b : List ℕ) : Type 0 where
  known : ℕ
  front : Numbered n known a
  back : Numbered known m b

cut : {n m : ℕ} (a b : List ℕ) → Numbered n m (a ++ b) → Cut n m a b
cut [] b nb = record { known = _; front = end; back = nb }
cut (w ∷ a) b (symbol l nb) = let c = cut a b nb in record { known = c.known; front = symbol l c.front; back = c.back }
cut (w ∷ a) b (next e nb) = let c = cut a b nb in record { known = c.known; front = next e c.front; back = c.back }
cut (w ∷ a) b (again e l nb) = let c = cut a b nb in record { known = c.known; front = again e l c.front; back = c.back }

in_order : {m : ℕ} {ls : List ℕ} → Numbered 0 m ls → m ≤ variables → InOrder ls
in_order {m} nb few a b w is high = let c = cut a (w ∷ b) (subst (Numbered 0 m) is nb) in go c.front c.back
  where
    go : {k : ℕ} → Numbered 0 k a → Numbered k m (w ∷ b) → (w ≤ variable + different a) × (w < variable + variables)
    go f (symbol l t) = absurd (omega arith)
    go f (next e t) = let z = numbered-le t in let d = numbered-different f (omega arith) in (omega arith, omega arith)
    go f (again e l t) = let z = numbered-le t in let d = numbered-different f (omega arith) in (omega arith, omega arith)

-- and the other way: word by word, after the words a
abbrev Numbers : ℕ → List ℕ → Type 0
Numbers n ls = (m : ℕ) × ((m ≤ variables) × Numbered n m ls)

one_more : (a ls : List ℕ) (w n : ℕ) → (variable ≤ w → (w ≤ variable + different a) × (w < variable + variables)) → n ≤ variables → Known n a →
    ((k : ℕ) → k ≤ variables → Known k (a ++ w ∷ []) → Numbers k ls) → Numbers n (w ∷ ls)
one_more a ls w n h few k rest = elim (dec_lt w variable) [
  | yes low ↦ let t = rest n few (known-old k w (omega arith)) in (t.0, (t.1.0, symbol low t.1.1))
  | no high ↦
      let o = h (omega arith) in
      let d = known-different k few in
      elim (ℕ_discrete w (variable + n)) [
        | yes e ↦ let t = rest (suc n) (omega arith) (known-new k w e) in (t.0, (t.1.0, next e t.1.1))
        | no e ↦
            let v : w ≡ variable + (w - variable) = omega arith in
            let t = rest n few (known-old k w (omega arith)) in (t.0, (t.1.0, again {n = n} v (omega arith) t.1.1))
      ]
]

numbers : (ws a ls : List ℕ) → ws ≡ a ++ ls → InOrder ws → (n : ℕ) → n ≤ variables → Known n a → Numbers n ls
numbers ws a [] is h n few k = (n, (few, end))
numbers ws a (w ∷ ls) is h n few k = one_more a ls w n (h a ls w is) few k (numbers ws (a ++ w ∷ []) ls (is ∙ after_last a w ls) h)

-- a list's variables are numbered as they come exactly if none is above the count of different ones before it
pub numbered-exactly : (ws : List ℕ) → ((m : ℕ) × ((m ≤ variables) × Numbered 0 m ws)) ↔ InOrder ws
numbered-exactly ws = (λ n. in_order n.1.1 n.1.0, λ h. numbers ws [] ws refl h 0 (omega arith) known-none)
