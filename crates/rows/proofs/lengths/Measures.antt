-- Lengths that are true of a term around a gap: behind it, before it, and wherever it is moved.
use Prim.Native.Nat.{ℕ, ◌+◌, ◌-◌, ◌≤◌}
use native.Mathlib.Omega.{arith}
use mathlib.Core.Path.{◌≡◌, refl, sym, ap, ◌∙◌}
use mathlib.Core.List.{List, ◌++◌}
use lib.ListN.{length, get_or, take, drop, take-append-drop}
use lib.Seq.{length-take-le, take-take, drop-drop, get_or-drop, take-append-le, drop-append-le}
use Rattle.buffers.proofs.Over.{part_slice}
use Rattle.system.specs.Limits.{term_words}
use Rattle.system.specs.Signature.{Signature, span}
use Rattle.rows.specs.declared.gap.Gap.{Gap}
use Rattle.rows.specs.Rows.{counts_at, word_row, length_row, Gapped, closed, term_in, lengths_in}
use Rattle.rows.specs.gap.Gaps.{words_in, behind, even, Moved}
use Rattle.system.specs.Spans.{spans}
use Rattle.rows.specs.Measured.{Measured}
use Rattle.rows.specs.lengths.Later.{MeasuredFrom}
use Rattle.system.proofs.Spans.{spans-drop, spans-at}
use Rattle.rows.proofs.gap.Rows.{word-row-length, length-row-length}
use Rattle.rows.proofs.gap.Closed.{closed-row-length, closed-behind}

-- ---- a row around a gap

pub row-behind : (b : ℕ) (row : List ℕ) → closed (behind b) row ≡ drop b row
unfolding closed
row-behind b row = refl

pub row-even : (b : ℕ) (row : List ℕ) → closed (even b) row ≡ row
unfolding closed
row-even b row = take-append-drop b row

-- its front is the row's, and where two rows are the same from a word before the gap on, so they are without it
module _ (gap : Gap) (n : ℕ) (before : n ≤ gap.front) where
  pub row_first : (row : List ℕ) → gap.front ≤ length row → take n (closed gap row) ≡ take n row
  unfolding closed
  row_first row fits =
      let z = length-take-le gap.front row fits in
      take-append-le n (take gap.front row) (drop gap.back row) (omega arith) ∙ take-take n gap.front row before

  row-later : (row : List ℕ) → gap.front ≤ length row → gap.front ≤ gap.back →
      drop n (closed gap row) ≡ take (gap.front - n) (drop n row) ++ drop (gap.back - n) (drop n row)
  unfolding closed
  row-later row fits low =
      let z = length-take-le gap.front row fits in
      let e : n + (gap.front - n) ≡ gap.front = omega arith in
      let e' : n + (gap.back - n) ≡ gap.back = omega arith in
      drop-append-le n (take gap.front row) (drop gap.back row) (omega arith)
      ∙ (λ i. (ap (λ k. drop n (take k row)) (sym e) ∙ sym (part_slice n (gap.front - n) row)) i ++ (ap (λ k. drop k row) (sym e') ∙ sym (drop-drop (gap.back - n) n row)) i)

  pub row-rest : (row row' : List ℕ) → gap.front ≤ length row → gap.front ≤ length row' → gap.front ≤ gap.back → drop n row' ≡ drop n row →
      drop n (closed gap row') ≡ drop n (closed gap row)
  row-rest row row' fits fits' low e =
      row-later row' fits' low ∙ ap (λ z. take (gap.front - n) z ++ drop (gap.back - n) z) e ∙ sym (row-later row fits low)

-- as many words as the gap leaves
pub words-length : {ws : List ℕ} {gap : Gap} → Gapped ws gap → length (term_in ws gap) ≡ words_in gap
words-length {ws} {gap} h = closed-row-length gap (word_row ws) h.lies (word-row-length ws h.room)

-- the term behind the gap, whatever stands before it
pub term-behind : {ws : List ℕ} {gap : Gap} → Gapped ws gap → term_in ws (behind gap.back) ≡ drop gap.front (term_in ws gap)
term-behind {ws} {gap} h =
    row-behind gap.back (word_row ws)
    ∙ sym (closed-behind gap (word_row ws) h.lies (word-row-length ws h.room))

-- ---- the lengths are true

module _ {g : Signature} {ws : List ℕ} where
  pub measured-length : {gap : Gap} → Measured g ws gap → (i : ℕ) → get_or (lengths_in ws gap) i 0 ≡ span g (drop i (term_in ws gap)) 1
  measured-length {gap} m i = ap (λ z. get_or z i 0) m.lengths ∙ spans-at g (term_in ws gap) i

  -- behind the gap they are, whatever stands before it
  pub measured-behind : {gap : Gap} → Measured g ws gap → Measured g ws (behind gap.back)
  measured-behind {gap} m =
      let h = m.gapped in
      let f = gap.front in
      let b = gap.back in
      record {
        gapped = record { room = h.room; lies = record { low = omega arith; high = h.lies.high } };
        lengths =
            row-behind b (length_row ws) ∙ sym (closed-behind gap (length_row ws) h.lies (length-row-length ws h.room))
            ∙ ap (drop f) m.lengths ∙ sym (spans-drop g (term_in ws gap) f) ∙ ap (spans g) (sym (term-behind h));
      }

  -- they are true from any word on
  pub measured-from : {gap : Gap} → Measured g ws gap → (n : ℕ) → MeasuredFrom g ws gap n
  measured-from {gap} m n = record { gapped = m.gapped; lengths = ap (drop n) m.lengths ∙ sym (spans-drop g (term_in ws gap) n) }

  pub from-length : {gap : Gap} {n : ℕ} → MeasuredFrom g ws gap n → (i : ℕ) → n ≤ i → get_or (lengths_in ws gap) i 0 ≡ get_or (spans g (term_in ws gap)) i 0
  from-length {gap} {n} m i l =
      let e : n + (i - n) ≡ i = omega arith in
      let read : (z : List ℕ) → get_or (drop n z) (i - n) 0 ≡ get_or z i 0 = λ z. get_or-drop n z (i - n) 0 ∙ ap (λ k. get_or z k 0) e in
      sym (read (lengths_in ws gap)) ∙ ap (λ z. get_or z (i - n) 0) (m.lengths ∙ spans-drop g (term_in ws gap) n) ∙ read (spans g (term_in ws gap))

  -- and all of them are where those before it are too
  pub measured-join : {gap : Gap} {n : ℕ} → n ≤ gap.front → MeasuredFrom g ws gap n → take n (length_row ws) ≡ take n (spans g (term_in ws gap)) →
      Measured g ws gap
  measured-join {gap} {n} l m e =
      let t = term_in ws gap in
      let long = length-row-length ws m.gapped.room in
      let high = m.gapped.lies.high in
      let low = m.gapped.lies.low in
      record {
        gapped = m.gapped;
        lengths = sym (take-append-drop n (lengths_in ws gap))
            ∙ (λ i. (row_first gap n l (length_row ws) (omega arith) ∙ e) i ++ (m.lengths ∙ spans-drop g t n) i) ∙ take-append-drop n (spans g t);
      }

  -- from where the gap is behind what is true
  pub measured-after : {gap : Gap} → Measured g ws gap → (hole : Gap) → Gapped ws hole → gap.back ≤ hole.back → MeasuredFrom g ws hole hole.front
  measured-after {gap} m hole h l =
      let b = measured-behind m in
      let n = hole.back - gap.back in
      let e : gap.back + n ≡ hole.back = omega arith in
      let rest : (row : List ℕ) → length row ≡ term_words → drop hole.front (closed hole row) ≡ drop n (closed (behind gap.back) row) =
      λ row long. closed-behind hole row h.lies long
      ∙ ap (λ k. drop k row) (sym e) ∙ sym (drop-drop n gap.back row) ∙ ap (drop n) (sym (row-behind gap.back row)) in
      record {
        gapped = h;
        lengths = rest (length_row ws) (length-row-length ws h.room) ∙ ap (drop n) b.lengths ∙ sym (spans-drop g (term_in ws (behind gap.back)) n)
            ∙ ap (spans g) (sym (rest (word_row ws) (word-row-length ws h.room)));
      }

  pub measured-moved : {ws' : List ℕ} {gap gap' : Gap} {to : ℕ} → Measured g ws gap → Moved ws gap to gap' ws' → Measured g ws' gap'
  measured-moved m v = record { gapped = v.gapped; lengths = v.lengths ∙ m.lengths ∙ ap (spans g) (sym v.words) }

-- ---- what is behind both rows does not count

module _ (ws ws' : List ℕ) (same : take counts_at ws' ≡ take counts_at ws) where
  pub word-row-same : word_row ws' ≡ word_row ws
  word-row-same = sym (take-take term_words counts_at ws' (omega arith)) ∙ ap (take term_words) same ∙ take-take term_words counts_at ws (omega arith)

  pub length-row-same : length_row ws' ≡ length_row ws
  length-row-same = part_slice term_words term_words ws' ∙ ap (drop term_words) same ∙ sym (part_slice term_words term_words ws)

  pub measured-counts : {g : Signature} {gap : Gap} → length ws' ≡ length ws → Measured g ws gap → Measured g ws' gap
  measured-counts {g} {gap} e m = record {
    gapped = record { room = let z = m.gapped.room in omega arith; lies = m.gapped.lies };
    lengths = ap (closed gap) length-row-same ∙ m.lengths ∙ ap (λ z. spans g (closed gap z)) (sym word-row-same);
  }

  pub term-counts : (gap : Gap) → term_in ws' gap ≡ term_in ws gap
  term-counts gap = ap (closed gap) word-row-same
