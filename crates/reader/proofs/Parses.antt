-- Parsers by index: what a parser that succeeds has read, and when it succeeds. A parser is described by an encoder and by which
-- values are good (`Reads`): it succeeds with x from i up to j exactly if x is good and its encoding stands there.
use Prim.Native.Nat.{ℕ, suc, ◌≤◌, ◌<◌}
use native.Mathlib.Omega.{arith}
use mathlib.Core.Path.{◌≡◌, refl, sym, ◌∙◌}
use mathlib.Core.Bool.{Bool, true, false}
use mathlib.Core.Option.{Option, none, some}
use mathlib.Core.List.{List, [], ◌∷◌}
use lib.ListN.{length, get_or, drop}
use lib.Dec.{ltb, leb}
use borrow.Author.Tests.{lt-ltb, le-ltb, ltb-true, le-leb, lt-leb, leb-true}
use Rattle.system.specs.declared.numbers.Fault.{Fault}
use Rattle.system.specs.declared.numbers.Fault.TheVariants.{Missing}
use Rattle.reader.specs.Parser.{ok, fault, Parser, outside, word, number}
use Rattle.reader.proofs.Parsed.{Between, between-one, drop_head, not-fault, ok-place, ok-value}

-- ---- what a parser reads

-- p succeeds with x from i up to j exactly if the words of x stand there and x is good
pub record Reads {A : Type 0} (ws : List ℕ) (p : Parser A) (enc : A → List ℕ) (Good : A → Type 0) : Type 0 where
  pub sound : {i j : ℕ} {x : A} → p i ≡ ok x j → Between ws i j (enc x)
  pub good : {i j : ℕ} {x : A} → p i ≡ ok x j → Good x
  pub complete : {i j : ℕ} {x : A} → Between ws i j (enc x) → Good x → p i ≡ ok x j

-- the good values said another way
pub reads-iff : {A : Type 0} {ws : List ℕ} {p : Parser A} {enc : A → List ℕ} {P Q : A → Type 0} → ((x : A) → P x → Q x) → ((x : A) → Q x → P x) → Reads ws p enc P → Reads ws p enc Q
reads-iff to from r = record { sound = r.sound; good = λ {x} e. to x (r.good e); complete = λ {x} b h. r.complete b (from x h) }

-- a word by itself
abbrev pub one : ℕ → List ℕ
one w = w ∷ []

pub none-outside : (f : Fault) (low high : ℕ) {w : ℕ} → low ≤ w → w ≤ high → outside f low high w ≡ none
unfolding outside
none-outside f low high {w} l h = rw (le-leb low w l, le-leb w high h)

pub below-outside : (f : Fault) (low high : ℕ) {w : ℕ} → w < low → outside f low high w ≡ some f
unfolding outside
below-outside f low high {w} l = rw (lt-leb low w l)

pub above-outside : (f : Fault) (low high : ℕ) {w : ℕ} → low ≤ w → high < w → outside f low high w ≡ some f
unfolding outside
above-outside f low high {w} l h = rw (le-leb low w l, lt-leb w high h)

pub outside-none : (f : Fault) (low high : ℕ) {w : ℕ} → outside f low high w ≡ none → (low ≤ w) × (w ≤ high)
unfolding outside
outside-none f low high {w} e = go (leb low w) refl (leb w high) refl
  where
    refused : {g : Fault} → some g ≡ none → ⊥
    refused n = let z : ◌≡◌ {A = ℕ} 0 1 = cc in omega arith

    go : (a : Bool) → leb low w ≡ a → (b : Bool) → leb w high ≡ b → (low ≤ w) × (w ≤ high)
    go true p true q = (leb-true low w p, leb-true w high q)
    go true p false q = absurd (refused (rw (p, q) at e))
    go false p b q = absurd (refused (rw p at e))

-- one word that passed its check
pub record Passed (ws : List ℕ) (check : ℕ → Option Fault) (i j w : ℕ) : Type 0 where
  pub inside : i < length ws
  pub is : get_or ws i 0 ≡ w
  pub next : j ≡ suc i
  pub passes : check w ≡ none

module _ (ws : List ℕ) where
  pub word-here : (check : ℕ → Option Fault) (i : ℕ) → i < length ws → check (get_or ws i 0) ≡ none → word ws check i ≡ ok (get_or ws i 0) (suc i)
  unfolding word
  word-here check i h c = rw (lt-ltb i (length ws) h, word) (rw c)

  pub word-missing : (check : ℕ → Option Fault) (i : ℕ) → length ws ≤ i → word ws check i ≡ fault Missing i
  unfolding word
  word-missing check i h = rw (le-ltb i (length ws) h, word)

  pub word-refused : (check : ℕ → Option Fault) (i : ℕ) {f : Fault} → i < length ws → check (get_or ws i 0) ≡ some f → word ws check i ≡ fault f i
  unfolding word
  word-refused check i h c = rw (lt-ltb i (length ws) h, word) (rw c)

  pub word-passed : (check : ℕ → Option Fault) {i j w : ℕ} → word ws check i ≡ ok w j → Passed ws check i j w
  unfolding word
  word-passed check {i} {j} {w} e = go (ltb i (length ws)) refl (check (get_or ws i 0)) refl
    where
      go : (b : Bool) → ltb i (length ws) ≡ b → (o : Option Fault) → check (get_or ws i 0) ≡ o → Passed ws check i j w
      go false t o c = absurd (not-fault (rw (t, word) at e))
      go true t none c =
          let r = sym (word-here check i (ltb-true i (length ws) t) c) ∙ e in
          let v = ok-value r in
          record { inside = ltb-true i (length ws) t; is = v; next = sym (ok-place r); passes = rw v at c }
      go true t (some f) c = absurd (not-fault (rw c at (rw (t, word) at e)))

  pub reads_word : (check : ℕ → Option Fault) → Reads ws (word ws check) one (λ w. check w ≡ none)
  reads_word check = record { sound = between; good = λ e. (word-passed check e).passes; complete = takes }
    where
      between : {i j w : ℕ} → word ws check i ≡ ok w j → Between ws i j (one w)
      between {i} e =
          let p = word-passed check e in
          rw (← p.is, p.next) (between-one i p.inside)

      takes : {i j w : ℕ} → Between ws i j (one w) → check w ≡ none → word ws check i ≡ ok w j
      takes {i} {j} {w} b c =
          let d = drop_head ws i w (drop j ws) b.words in
          let k : j ≡ suc i = let q = b.ends in omega arith in
          word-here check i d.0 (rw d.1 c) ∙ rw (d.1, k)

  -- the four ways a number is read
  module _ (f : Fault) (low high i : ℕ) where
    pub number-missing : length ws ≤ i → number ws f low high i ≡ fault Missing i
    unfolding number
    number-missing h = word-missing (outside f low high) i h

    pub number-below : i < length ws → get_or ws i 0 < low → number ws f low high i ≡ fault f i
    unfolding number
    number-below h l = word-refused (outside f low high) i h (below-outside f low high l)

    pub number-above : i < length ws → low ≤ get_or ws i 0 → high < get_or ws i 0 → number ws f low high i ≡ fault f i
    unfolding number
    number-above h l u = word-refused (outside f low high) i h (above-outside f low high l u)

    pub number-here : i < length ws → low ≤ get_or ws i 0 → get_or ws i 0 ≤ high → number ws f low high i ≡ ok (get_or ws i 0) (suc i)
    unfolding number
    number-here h l u = word-here (outside f low high) i h (none-outside f low high l u)

  pub reads-number : (f : Fault) (low high : ℕ) → Reads ws (number ws f low high) one (λ w. (low ≤ w) × (w ≤ high))
  unfolding number
  reads-number f low high =
      let r = reads_word (outside f low high) in
      record {
        sound = r.sound;
        good = λ e. outside-none f low high (r.good e);
        complete = λ b h. r.complete b (none-outside f low high h.0 h.1);
      }
