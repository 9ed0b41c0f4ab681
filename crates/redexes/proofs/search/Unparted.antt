-- Words of the term that the gap does not lie among stand in the row one after another, as many as they are.
use Prim.Native.Nat.{ℕ, ◌+◌, ◌≤◌, ◌<◌}
use native.Mathlib.Omega.{arith}
use native.Mathlib.Decide.{dec_lt}
use mathlib.Core.Path.{◌≡◌, sym, ap, ◌∙◌}
use mathlib.Core.Bool.{false, ◌&&◌}
use mathlib.Core.Logic.{◌⊎◌, inl, inr}
use mathlib.Core.List.{List}
use lib.ListN.{length, get_or}
use lib.Seq.{ext_get_or}
use lib.Dec.{ltb}
use borrow.Author.Tests.{lt-ltb, le-ltb, ltb-false}
use Rattle.buffers.specs.moves.Parts.{part}
use Rattle.rows.specs.declared.gap.Gap.{Gap}
use Rattle.rows.specs.Rows.{Gapped, term_in}
use Rattle.rows.specs.gap.Gaps.{words_in, slot_of}
use Rattle.rows.proofs.gap.Closed.{slot-before, slot-after, slot-bound, term-at}
use Rattle.rows.proofs.lengths.Measures.{words-length}
use Rattle.matching.proofs.SameWords.{part_length, part-word}
use Rattle.redexes.specs.search.Parted.{parted}

-- ---- where the first word stands tells, or where the last one does

module _ (g : Gap) (p n : ℕ) where
  pub parted-behind : g.front ≤ p → parted g p n ≡ false
  unfolding parted
  parted-behind h = ap (λ b. b && ltb g.front (p + n)) (le-ltb p g.front h)

  pub parted-before : p < g.front → parted g p n ≡ ltb g.front (p + n)
  unfolding parted
  parted-before h = ap (λ b. b && ltb g.front (p + n)) (lt-ltb p g.front h)

  sides : parted g p n ≡ false → (p + n ≤ g.front) ⊎ (g.front ≤ p)
  sides e = elim (dec_lt p g.front) [
    | yes h ↦ inl (ltb-false g.front (p + n) (sym (parted-before h) ∙ e))
    | no h ↦ inr (omega arith)
  ]

-- ---- on one side of the gap

module _ {ws : List ℕ} {g : Gap} (h : Gapped ws g) (p n : ℕ) (some : 0 < n) (inside : p + n ≤ words_in g) (e : parted g p n ≡ false) where
  next-slot : (i : ℕ) → i < n → slot_of g (p + i) ≡ slot_of g p + i
  next-slot i l = elim (sides g p n e) [
    | inl b ↦ slot-before g (p + i) (omega arith) ∙ ap (λ k. k + i) (sym (slot-before g p (omega arith)))
    | inr b ↦ let x = slot-after g (p + i) (omega arith) in let y = slot-after g p b in omega arith
  ]

  slots-inside : slot_of g p + n ≤ length ws
  slots-inside =
      let low = h.lies.low in
      let high = h.lies.high in
      let first = slot-bound g p h.lies (omega arith) in
      let room = h.room in
      omega arith

  word_holds : (i : ℕ) → i < n → get_or (part (slot_of g p) n ws) i 0 ≡ get_or (part p n (term_in ws g)) i 0
  word_holds i l =
      part-word ws (slot_of g p) n i l
      ∙ ap (λ j. get_or ws j 0) (sym (next-slot i l))
      ∙ term-at ws g h (p + i) (omega arith)
      ∙ sym (part-word (term_in ws g) p n i l)

  -- the n words from where the first one stands are these
  pub slots-hold : {a : ℕ} → a ≡ slot_of g p → part a n ws ≡ part p n (term_in ws g)
  slots-hold at =
      let words = words-length h in
      let long = part_length ws (slot_of g p) n slots-inside in
      let even = part_length (term_in ws g) p n (omega arith) in
      ap (λ j. part j n ws) at ∙ ext_get_or 0 (part (slot_of g p) n ws) (part p n (term_in ws g)) (long ∙ sym even) (λ i l. word_holds i (omega arith))
