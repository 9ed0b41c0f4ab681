-- Words of the term, and their lengths, as they stand in the rows: before the gap and behind it.
use Prim.Native.Nat.{ℕ, ◌+◌, ◌-◌, ◌≤◌}
use native.Mathlib.Omega.{arith}
use mathlib.Core.Path.{◌≡◌, sym, ap, ◌∙◌, subst}
use mathlib.Core.List.{List}
use lib.ListN.{length, take, drop}
use lib.Seq.{drop-drop}
use Rattle.buffers.specs.moves.Parts.{part}
use Rattle.system.specs.Limits.{term_words}
use Rattle.system.specs.Signature.{Signature}
use Rattle.system.specs.Terms.{Whole}
use Rattle.rows.proofs.lengths.Measures.{words-length}
use Rattle.rows.specs.declared.gap.Gap.{Gap}
use Rattle.rows.specs.Rows.{word_row, length_row, Lies, Gapped, closed, term_in, lengths_in}
use Rattle.rows.specs.gap.Gaps.{words_in}
use Rattle.system.specs.Spans.{spans}
use Rattle.rows.specs.Measured.{Measured}
use Rattle.system.proofs.Spans.{spans-stretch}
use Rattle.rows.proofs.gap.Rows.{part-take, word-row-length, length-row-length, word-row-part, length-row-part}
use Rattle.rows.proofs.gap.Closed.{closed-front, closed-behind}
use Rattle.reducts.proofs.putting.Asides.{gap_size}

-- ---- over one row

module _ (gap : Gap) (row : List ℕ) (lies : Lies gap) (whole : length row ≡ term_words) where
  part-before : (a n : ℕ) → a + n ≤ gap.front → part a n row ≡ part a n (closed gap row)
  part-before a n h =
      sym (part-take gap.front row a n h) ∙ ap (part a n) (sym (closed-front gap row lies whole)) ∙ part-take gap.front (closed gap row) a n h

  part-behind : (a n : ℕ) → gap.front ≤ a → part (a + gap_size gap) n row ≡ part a n (closed gap row)
  part-behind a n h =
      let i = a - gap.front in
      let e : a + gap_size gap ≡ gap.back + i = omega (arith, lies.low) in
      let e' : gap.front + i ≡ a = omega arith in
      ap (λ j. part j n row) e ∙ ap (take n) (sym (drop-drop i gap.back row))
      ∙ ap (λ z. take n (drop i z)) (sym (closed-behind gap row lies whole))
      ∙ ap (take n) (drop-drop i gap.front (closed gap row)) ∙ ap (λ j. part j n (closed gap row)) e'

-- ---- over an area

-- n words of the term, from number a on, stand from `from` on, with the lengths beside them
pub record Standing (ws : List ℕ) (gap : Gap) (from a n : ℕ) : Type 0 where
  pub words : part from n ws ≡ part a n (term_in ws gap)
  pub lengths : part (term_words + from) n ws ≡ part a n (lengths_in ws gap)

module _ {ws : List ℕ} {gap : Gap} (h : Gapped ws gap) where
  pub stands-before : (a n : ℕ) → a + n ≤ gap.front → Standing ws gap a a n
  stands-before a n l =
      let low = h.lies.low in
      let high = h.lies.high in
      let k : a + n ≤ term_words = omega arith in
      record {
        words = sym (word-row-part ws a n k) ∙ part-before gap (word_row ws) h.lies (word-row-length ws h.room) a n l;
        lengths = sym (length-row-part ws a n k) ∙ part-before gap (length_row ws) h.lies (length-row-length ws h.room) a n l;
      }

  pub stands-behind : (a n : ℕ) → gap.front ≤ a → a + n ≤ words_in gap → Standing ws gap (a + gap_size gap) a n
  stands-behind a n l w =
      let low = h.lies.low in
      let high = h.lies.high in
      let k : a + gap_size gap + n ≤ term_words = omega arith in
      record {
        words = sym (word-row-part ws (a + gap_size gap) n k) ∙ part-behind gap (word_row ws) h.lies (word-row-length ws h.room) a n l;
        lengths = sym (length-row-part ws (a + gap_size gap) n k) ∙ part-behind gap (length_row ws) h.lies (length-row-length ws h.room) a n l;
      }

-- a whole subterm has its lengths beside it
module _ {g : Signature} {ws : List ℕ} {gap : Gap} {from a n : ℕ} (m : Measured g ws gap) (s : Standing ws gap from a n)
    (whole : Whole g (part a n (term_in ws gap))) where
  pub standing-whole : Whole g (part from n ws)
  standing-whole = subst (Whole g) (sym s.words) whole

  -- these are what the subterm's own are
  pub standing-told : a + n ≤ words_in gap → part (term_words + from) n ws ≡ spans g (part a n (term_in ws gap))
  standing-told l =
      let long = words-length m.gapped in
      s.lengths ∙ ap (part a n) m.lengths ∙ sym (spans-stretch g (term_in ws gap) a n (omega arith) whole)

  pub standing-lengths : a + n ≤ words_in gap → part (term_words + from) n ws ≡ spans g (part from n ws)
  standing-lengths l = standing-told l ∙ ap (spans g) (sym s.words)
