-- The words of a side: one turn of the loop over them.
use Prim.Native.Nat.{ℕ, zero, suc, ◌+◌, ◌-◌, ◌≤◌, ◌<◌}
use native.Mathlib.Omega.{arith}
use native.Mathlib.Numerals.{add-one}
use mathlib.Core.Path.{◌≡◌, refl, ap, ◌∙◌}
use mathlib.Core.Bool.{Bool, false}
use mathlib.Core.Option.{Option, none, some}
use mathlib.Core.List.{List, ◌∷◌}
use lib.ListN.{length, get_or}
use lib.Dec.{eqb}
use borrow.Author.Tests.{ne_eqb}
use Rattle.std.specs.Prelude.{Ok, Err, Some, None}
use Rattle.system.specs.Signature.{Signature, arity}
use Rattle.system.specs.declared.numbers.Fault.{Fault}
use Rattle.system.specs.declared.numbers.Fault.TheVariants.{Missing, Unbalanced}
use Rattle.reader.specs.declared.scan.sides.SideRole.{SideRole}
use Rattle.reader.specs.Parser.{Parsed, ok, fault, and_then, Reading, side_fault, learn, read_words}
use Rattle.reader.specs.scan.Sections.{side_of, found}
use Rattle.reader.proofs.Parses.{word-here, word-missing, word-refused}
use Rattle.reader.proofs.SideWords.{passes-due}

-- ---- the words of a side

-- what is put before the words does not show in the side
keep : (o : Parsed Reading) (w : ℕ) → side_of (and_then o (λ r i. ok (record { words = w ∷ r.words; known = r.known }) i)) ≡ side_of o
keep (ok r i) w = refl
keep (fault f i) w = refl

found-none : (o : Option Fault) → None ≡ found o → o ≡ none
found-none none e = refl
found-none (some f) e = cc

found-some : (o : Option Fault) {f : Fault} → Some f ≡ found o → o ≡ some f
found-some none e = cc
found-some (some g) {f} e = let q : g ≡ f = cc in ap some q

module _ (ws : List ℕ) (g : Signature) (role : SideRole) (first : Bool) (n due known i : ℕ) where
  abbrev before : ℕ → Reading → ℕ → Parsed Reading
  before w r j = ok (record { words = w ∷ r.words; known = r.known }) j

  module _ (here : 0 < n) where
    pub words-missing : length ws ≤ i → side_of (read_words ws g role first n due known i) ≡ Err (record { fault = Missing; place = i })
    unfolding read_words
    words-missing h = go n here
      where
        go : (n : ℕ) → 0 < n → side_of (read_words ws g role first n due known i) ≡ Err (record { fault = Missing; place = i })
        go zero l = absurd (omega arith)
        go (suc n) l =
            ap (λ o. side_of (and_then o (λ w j. and_then (read_words ws g role false n (due - 1 + arity g w) (learn role known w) j) (before w))))
            (word-missing ws (side_fault g role first due known) i h)

    module _ (within : i < length ws) where
      pub words-fault : {f : Fault} → Some f ≡ found (side_fault g role first due known (get_or ws i 0)) →
          side_of (read_words ws g role first n due known i) ≡ Err (record { fault = f; place = i })
      unfolding read_words
      words-fault {f} is = go n here
        where
          go : (n : ℕ) → 0 < n → side_of (read_words ws g role first n due known i) ≡ Err (record { fault = f; place = i })
          go zero l = absurd (omega arith)
          go (suc n) l =
              ap (λ o. side_of (and_then o (λ w j. and_then (read_words ws g role false n (due - 1 + arity g w) (learn role known w) j) (before w))))
              (word-refused ws (side_fault g role first due known) i within (found-some (side_fault g role first due known (get_or ws i 0)) is))

      pub words-next : None ≡ found (side_fault g role first due known (get_or ws i 0)) → side_of (read_words ws g role first n due known i) ≡
          side_of (read_words ws g role false (n - 1) (due - 1 + arity g (get_or ws i 0)) (learn role known (get_or ws i 0)) (i + 1))
      unfolding read_words
      words-next is = go n here (found-none (side_fault g role first due known (get_or ws i 0)) is)
        where
          go : (n : ℕ) → 0 < n → side_fault g role first due known (get_or ws i 0) ≡ none → side_of (read_words ws g role first n due known i) ≡
              side_of (read_words ws g role false (n - 1) (due - 1 + arity g (get_or ws i 0)) (learn role known (get_or ws i 0)) (i + 1))
          go zero l e = absurd (omega arith)
          go (suc n) l e =
              let m : suc n - 1 ≡ n = omega arith in
              rw (m, add-one i)
              (ap (λ o. side_of (and_then o (λ w j. and_then (read_words ws g role false n (due - 1 + arity g w) (learn role known w) j) (before w))))
              (word-here ws (side_fault g role first due known) i within e)
              ∙ keep (read_words ws g role false n (due - 1 + arity g (get_or ws i 0)) (learn role known (get_or ws i 0)) (suc i)) (get_or ws i 0))

  pub words-short : n ≡ 0 → 0 < due → side_of (read_words ws g role first n due known i) ≡ Err (record { fault = Unbalanced; place = i })
  unfolding read_words
  words-short e h = go due h
    where
      go : (d : ℕ) → 0 < d → side_of (read_words ws g role first n d known i) ≡ Err (record { fault = Unbalanced; place = i })
      go zero h = absurd (omega arith)
      go (suc d) h = rw e

  pub words-done : n ≡ 0 → due ≡ 0 → side_of (read_words ws g role first n due known i) ≡ Ok (record { end = i; known = known })
  unfolding read_words
  words-done e h = rw (e, h)

-- a word without fault completes a subterm that was due
pub side-open : (g : Signature) (role : SideRole) (first : Bool) (due known w : ℕ) → None ≡ found (side_fault g role first due known w) → 0 < due
side-open g role first due known w e = passes-due g role first due known w (found-none (side_fault g role first due known w) e)

-- ---- the same in the terms of a loop that has read j of the n words from `at` on

module _ (ws : List ℕ) (g : Signature) (role : SideRole) (n due known at j : ℕ) where
  pub words-turn : j < n → at + j < length ws → (a k : ℕ) → None ≡ found (side_fault g role (eqb j 0) due known (get_or ws (at + j) 0)) →
      a ≡ arity g (get_or ws (at + j) 0) → k ≡ learn role known (get_or ws (at + j) 0) →
      side_of (read_words ws g role (eqb j 0) (n - j) due known (at + j)) ≡ side_of (read_words ws g role (eqb (j + 1) 0) (n - (j + 1)) (due - 1 + a) k (at + (j + 1)))
  words-turn h l a k is ea ek =
      let m : n - (j + 1) ≡ n - j - 1 = omega arith in
      let i : at + (j + 1) ≡ at + j + 1 = omega arith in
      rw (m, i, ea, ek, ne_eqb (j + 1) 0 (λ y. omega arith)) (words-next ws g role (eqb j 0) (n - j) due known (at + j) (omega arith) l is)
