-- A row without its gap: its length, its words, and its two parts. Assumes nothing.
use mathlib.Core.Path.{◌≡◌, refl, sym, ap, ◌∙◌}
use mathlib.Core.List.{List}
use mathlib.Core.Bool.{Bool, true, false, cond}
use Prim.Native.Nat.{ℕ, ◌+◌, ◌-◌, ◌≤◌, ◌<◌}
use native.Mathlib.Omega.{arith}
use lib.ListN.{length, take, drop, get_or, length-append, length-drop}
use lib.Seq.{length-take-le, take_at, drop_at, get_or-take, get_or-drop}
use lib.Dec.{ltb}
use borrow.Author.Tests.{lt-ltb, le-ltb, ltb-true, ltb-false}
use Rattle.system.specs.Limits.{term_words}
use Rattle.rows.specs.Rows.{word_row, length_row, Lies, Gapped, closed, term_in, lengths_in}
use Rattle.rows.specs.gap.Gaps.{words_in, slot_of}
use Rattle.rows.specs.declared.gap.Gap.{Gap}
use Rattle.rows.proofs.gap.Rows.{word-row-length, length-row-length, word-row-at, length-row-at}

-- ---- where a word stands

pub slot-before : (g : Gap) (i : ℕ) → i < g.front → slot_of g i ≡ i
unfolding slot_of
slot-before g i h = ap (λ b. cond b i (i + (g.back - g.front))) (lt-ltb i g.front h)

pub slot-after : (g : Gap) (i : ℕ) → g.front ≤ i → slot_of g i ≡ i + (g.back - g.front)
unfolding slot_of
slot-after g i h = ap (λ b. cond b i (i + (g.back - g.front))) (le-ltb i g.front h)

-- ---- over one row

module _ (g : Gap) (row : List ℕ) (lies : Lies g) (whole : length row ≡ term_words) where
  pub front_length : length (take g.front row) ≡ g.front
  front_length = length-take-le g.front row (omega (arith, lies.low, lies.high))

  pub closed-row-length : length (closed g row) ≡ words_in g
  unfolding closed
  closed-row-length = rw (length-append (take g.front row), front_length, length-drop g.back row, whole)

  pub closed-front : take g.front (closed g row) ≡ take g.front row
  unfolding closed
  closed-front = take_at (take g.front row) (drop g.back row) g.front front_length

  pub closed-behind : drop g.front (closed g row) ≡ drop g.back row
  unfolding closed
  closed-behind = drop_at (take g.front row) (drop g.back row) g.front front_length

  pub closed-at-before : (i : ℕ) → i < g.front → get_or row (slot_of g i) 0 ≡ get_or (closed g row) i 0
  closed-at-before i h =
      ap (λ (k : ℕ). get_or row k 0) (slot-before g i h)
      ∙ sym (get_or-take g.front row i 0 h)
      ∙ ap (λ (l : List ℕ). get_or l i 0) (sym closed-front)
      ∙ get_or-take g.front (closed g row) i 0 h

  pub closed-at-after : (i : ℕ) → g.front ≤ i → get_or row (slot_of g i) 0 ≡ get_or (closed g row) i 0
  closed-at-after i h =
      let p : i + (g.back - g.front) ≡ g.back + (i - g.front) = omega (arith, lies.low) in
      let q : g.front + (i - g.front) ≡ i = omega arith in
      ap (λ (k : ℕ). get_or row k 0) (slot-after g i h ∙ p)
      ∙ sym (get_or-drop g.back row (i - g.front) 0)
      ∙ ap (λ (l : List ℕ). get_or l (i - g.front) 0) (sym closed-behind)
      ∙ get_or-drop g.front (closed g row) (i - g.front) 0
      ∙ ap (λ (k : ℕ). get_or (closed g row) k 0) q

  pub closed_at : (i : ℕ) → get_or row (slot_of g i) 0 ≡ get_or (closed g row) i 0
  closed_at i = at (ltb i g.front) refl
    where
      at : (b : Bool) → ltb i g.front ≡ b → get_or row (slot_of g i) 0 ≡ get_or (closed g row) i 0
      at true e = closed-at-before i (ltb-true i g.front e)
      at false e = closed-at-after i (ltb-false i g.front e)

pub slot-bound : (g : Gap) (i : ℕ) → Lies g → i < words_in g → slot_of g i < term_words
slot-bound g i lies h = at (ltb i g.front) refl
  where
    at : (b : Bool) → ltb i g.front ≡ b → slot_of g i < term_words
    at true e = rw (slot-before g i (ltb-true i g.front e)) (omega (arith, ltb-true i g.front e, lies.low, lies.high))
    at false e = rw (slot-after g i (ltb-false i g.front e)) (omega (arith, ltb-false i g.front e, lies.low, lies.high))

-- ---- over an area

module _ (ws : List ℕ) (g : Gap) (h : Gapped ws g) where
  pub term-at : (i : ℕ) → i < words_in g → get_or ws (slot_of g i) 0 ≡ get_or (term_in ws g) i 0
  term-at i b =
      sym (word-row-at ws (slot_of g i) (slot-bound g i h.lies b)) ∙ closed_at g (word_row ws) h.lies (word-row-length ws h.room) i

  pub lengths-at : (i : ℕ) → i < words_in g → get_or ws (term_words + slot_of g i) 0 ≡ get_or (lengths_in ws g) i 0
  lengths-at i b =
      sym (length-row-at ws (slot_of g i) (slot-bound g i h.lies b)) ∙ closed_at g (length_row ws) h.lies (length-row-length ws h.room) i
