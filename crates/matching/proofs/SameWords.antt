-- Equal words (02, F-7): what `same_words` tells, and how a loop finds it out, word by word from the front.
use Prim.Native.Nat.{ℕ, suc, ◌+◌, ◌≤◌, ◌<◌}
use native.Mathlib.Omega.{arith}
use native.Mathlib.Numerals.{add-one}
use mathlib.Core.Path.{◌≡◌, refl, sym, ap, ◌∙◌}
use mathlib.Core.Bool.{Bool, true, false, ◌&&◌}
use mathlib.Core.List.{List, [], ◌∷◌}
use lib.ListN.{length, get_or, take, drop, drop_of_length-le, length-drop}
use lib.Seq.{drop-cons, get_or-take, get_or-drop, length-take-le}
use lib.Dec.{eqb}
use lib.Pointwise.{pointwise}
use borrow.Author.Tests.{eq-eqb, ne_eqb, eqb-true}
use Rattle.matching.specs.Matching.{same_words}

pub same_self : (ws : List ℕ) → same_words ws ws ≡ true
unfolding same_words
same_self [] = refl
same_self (w ∷ ws) = rw (eq-eqb w w refl, same_self ws)

pub same-equal : (vs ws : List ℕ) → same_words vs ws ≡ true → vs ≡ ws
unfolding same_words
same-equal [] [] e = refl
same-equal [] (w ∷ ws) e = absurd (let z : ◌≡◌ {A = ℕ} 0 1 = cc in omega arith)
same-equal (v ∷ vs) [] e = absurd (let z : ◌≡◌ {A = ℕ} 0 1 = cc in omega arith)
same-equal (v ∷ vs) (w ∷ ws) e = go (eqb v w) refl (same-equal vs ws) e
  where
    go : (a : Bool) → eqb v w ≡ a → (same_words vs ws ≡ true → vs ≡ ws) → (a && same_words vs ws) ≡ true → v ∷ vs ≡ w ∷ ws
    go true p ih e = ap (λ y. y ∷ vs) (eqb-true v w p) ∙ ap (λ r. w ∷ r) (ih e)
    go false p ih e = absurd (let z : ◌≡◌ {A = ℕ} 0 1 = cc in omega arith)

-- as `==` of slices finds it out
pub same-pointwise : (vs ws : List ℕ) → pointwise eqb vs ws ≡ same_words vs ws
unfolding same_words
same-pointwise [] [] = refl
same-pointwise [] (w ∷ ws) = refl
same-pointwise (v ∷ vs) [] = refl
same-pointwise (v ∷ vs) (w ∷ ws) = ap (λ b. eqb v w && b) (same-pointwise vs ws)

pub differ_same : (vs ws : List ℕ) → (vs ≡ ws → ⊥) → same_words vs ws ≡ false
differ_same vs ws d = go (same_words vs ws) refl
  where
    go : (b : Bool) → same_words vs ws ≡ b → same_words vs ws ≡ false
    go true e = absurd (d (same-equal vs ws e))
    go false e = e

-- two lists are the same or not
pub same-words : (vs ws : List ℕ) → Dec (vs ≡ ws)
same-words vs ws = go (same_words vs ws) refl
  where
    go : (b : Bool) → same_words vs ws ≡ b → Dec (vs ≡ ws)
    go true e = yes (same-equal vs ws e)
    go false e = no (λ q. let z = sym (same_self ws) ∙ sym (ap (λ y. same_words y ws) q) ∙ e in let y : ◌≡◌ {A = ℕ} 0 1 = cc in omega arith)

-- those of other lengths are not: nothing has to be read then
pub same-lengths : (vs ws : List ℕ) → (length vs ≡ length ws → ⊥) → same_words vs ws ≡ false
same-lengths vs ws d = differ_same vs ws (λ e. d (ap length e))

-- ---- from word i on, of two lists of one length

-- the words before number i are the same
pub record SameTo (vs ws : List ℕ) (i : ℕ) : Type 0 where
  pub inside : i ≤ length vs
  pub goes : same_words (drop i vs) (drop i ws) ≡ same_words vs ws

module _ {vs ws : List ℕ} (long : length vs ≡ length ws) where
  pub same-starts : SameTo vs ws 0
  same-starts = record { inside = omega arith; goes = refl }

  module _ {i : ℕ} (s : SameTo vs ws i) where
    pub same_ends : length vs ≤ i → same_words vs ws ≡ true
    unfolding same_words
    same_ends h = sym s.goes ∙ rw (drop_of_length-le vs h, drop_of_length-le ws (rw long at h))

    module _ (here : i < length vs) where
      both-cons : same_words (drop i vs) (drop i ws) ≡ (eqb (get_or vs i 0) (get_or ws i 0) && same_words (drop (suc i) vs) (drop (suc i) ws))
      unfolding same_words
      both-cons = rw (drop-cons vs i 0 here, drop-cons ws i 0 (omega arith))

      pub same_next : get_or vs i 0 ≡ get_or ws i 0 → SameTo vs ws (i + 1)
      same_next e = record {
        inside = omega arith;
        goes =
            ap (λ k. same_words (drop k vs) (drop k ws)) (add-one i)
            ∙ sym (ap (λ b. b && same_words (drop (suc i) vs) (drop (suc i) ws)) (eq-eqb (get_or vs i 0) (get_or ws i 0) e))
            ∙ sym both-cons ∙ s.goes;
      }

      pub same-stops : (get_or vs i 0 ≡ get_or ws i 0 → ⊥) → same_words vs ws ≡ false
      same-stops d = sym s.goes ∙ both-cons ∙ ap (λ b. b && same_words (drop (suc i) vs) (drop (suc i) ws)) (ne_eqb (get_or vs i 0) (get_or ws i 0) d)

-- ---- a part of a list

module _ (t : List ℕ) (p n : ℕ) where
  pub part_length : p + n ≤ length t → length (take n (drop p t)) ≡ n
  part_length h = length-take-le n (drop p t) (rw (length-drop p t) (omega arith))

  pub part-word : (i : ℕ) → i < n → get_or (take n (drop p t)) i 0 ≡ get_or t (p + i) 0
  part-word i h = get_or-take n (drop p t) i 0 h ∙ get_or-drop p t i 0
