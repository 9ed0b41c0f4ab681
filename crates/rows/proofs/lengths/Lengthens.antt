-- Lengths put beside words that stand there already: none, those of one word, those of a stretch, and one after the other.
use Prim.Native.Nat.{ℕ, suc, ◌+◌, ◌-◌, ◌≤◌}
use native.Mathlib.Omega.{arith}
use mathlib.Core.Path.{◌≡◌, sym, ap, ◌∙◌, subst}
use mathlib.Core.List.{List, [], ◌∷◌, ◌++◌}
use lib.ListN.{length, get_or, take, drop, set, length-append, take-append-drop}
use lib.Seq.{length-sets, length-take-le, drop-cons, drop-drop, take-add, drop-append_seam}
use Rattle.buffers.specs.Words.{over}
use Rattle.buffers.specs.moves.Parts.{part}
use Rattle.buffers.proofs.Over.{over-append, over-comm, take-over, drop-over, part-below, part-above}
use Rattle.system.specs.Limits.{term_words}
use Rattle.system.specs.Signature.{Signature, arity, span}
use Rattle.system.specs.Spans.{spans}
use Rattle.system.specs.Terms.{Whole}
use Rattle.system.proofs.words.SpanSteps.{span-le}
use Rattle.system.proofs.Spans.{spans-length, spans-drop, spans-word, spans-stretch}
use Rattle.rows.specs.Rows.{counts_at, word_row, length_row, Gapped, closed, term_in}
use Rattle.rows.specs.gap.Gaps.{behind, even}
use Rattle.rows.specs.Measured.{Measured}
use Rattle.rows.specs.lengths.Written.{Written}
use Rattle.rows.specs.lengths.Lengthened.{Lengthened}
use Rattle.rows.proofs.gap.Rows.{word-row-length, length-row-length, word-row-at, word-row-part, word-over-row, length-over-row}
use Rattle.rows.proofs.lengths.Measures.{row-behind, words-length}
use Rattle.rows.proofs.lengths.Writes.{over-behind, written_over, behind-onward, onward-term}

-- words written over a list, and then others right before them
pub over-before : (l : List ℕ) (i : ℕ) (xs : List ℕ) (j : ℕ) (ys : List ℕ) → i + length xs ≡ j → over (over l j ys) i xs ≡ over l i (xs ++ ys)
over-before l i xs j ys e = over-comm l i xs j ys (omega arith) ∙ ap (λ k. over (over l i xs) k ys) (sym e) ∙ sym (over-append l i xs ys)

-- ---- a row from one word on, and from a later one on

module _ (ws : List ℕ) (room : counts_at ≤ length ws) (b : ℕ) (high : b ≤ term_words) where
  open-behind : Gapped ws (behind b)
  open-behind = record { room = room; lies = record { low = omega arith; high = high } }

  spans-behind : (g : Signature) → length (spans g (term_in ws (behind b))) ≡ term_words - b
  spans-behind g = spans-length g (term_in ws (behind b)) ∙ (let z = words-length open-behind in omega arith)

  term-later : (b' : ℕ) → b' ≤ b → term_in ws (behind b) ≡ drop (b - b') (term_in ws (behind b'))
  term-later b' l =
      let e : b' + (b - b') ≡ b = omega arith in
      row-behind b (word_row ws) ∙ ap (λ k. drop k (word_row ws)) (sym e) ∙ sym (drop-drop (b - b') b' (word_row ws))
      ∙ ap (drop (b - b')) (sym (row-behind b' (word_row ws)))

  spans-later : (g : Signature) (b' : ℕ) → b' ≤ b → spans g (term_in ws (behind b)) ≡ drop (b - b') (spans g (term_in ws (behind b')))
  spans-later g b' l = ap (spans g) (term-later b' l) ∙ spans-drop g (term_in ws (behind b')) (b - b')

-- ---- one after the other

pub lengthened-none : (g : Signature) (ws : List ℕ) (b : ℕ) → Lengthened g ws b ws b
lengthened-none g ws b =
    let e : b - b ≡ 0 = omega arith in
    record { before = omega arith; area = sym (ap (λ k. over ws (term_words + b) (take k (spans g (term_in ws (behind b))))) e) }

module _ {g : Signature} {ws ws' : List ℕ} {b b' : ℕ} (room : counts_at ≤ length ws) (high : b ≤ term_words) (v : Lengthened g ws b ws' b') where
  abbrev ls : List ℕ
  ls = take (b - b') (spans g (term_in ws (behind b')))

  ls-long : length ls ≡ b - b'
  ls-long =
      let l = v.before in
      let z = spans-behind ws room b' (omega arith) g in
      length-take-le (b - b') (spans g (term_in ws (behind b'))) (omega arith)

  -- what is not written: the words, and what stands behind the lengths that are
  pub lengthened-total : length ws' ≡ length ws
  lengthened-total = ap length v.area ∙ length-sets ws (term_words + b') ls

  pub lengthened-row : word_row ws' ≡ word_row ws
  lengthened-row = ap word_row v.area ∙ take-over term_words ws (term_words + b') ls (omega arith)

  pub lengthened-words : (from n : ℕ) → from + n ≤ term_words → part from n ws' ≡ part from n ws
  lengthened-words from n h = ap (part from n) v.area ∙ part-below from n ws (term_words + b') ls (omega arith)

  pub lengthened-kept : (from n : ℕ) → term_words + b ≤ from → part from n ws' ≡ part from n ws
  lengthened-kept from n h =
      let l = v.before in
      let z = ls-long in
      ap (part from n) v.area ∙ part-above from n ws (term_words + b') ls (omega arith)

  pub lengthened-then : {ws'' : List ℕ} {b'' : ℕ} → Lengthened g ws' b' ws'' b'' → Lengthened g ws b ws'' b''
  lengthened-then {b''} u =
      let l = v.before in
      let k = u.before in
      let s = spans g (term_in ws (behind b'')) in
      let same : term_in ws' (behind b'') ≡ term_in ws (behind b'') = ap (closed (behind b'')) lengthened-row in
      let long : length (take (b' - b'') s) ≡ b' - b'' = (let z = spans-behind ws room b'' (omega arith) g in length-take-le (b' - b'') s (omega arith)) in
      let count : (b' - b'') + (b - b') ≡ b - b'' = omega arith in
      let joined : take (b' - b'') s ++ ls ≡ take (b - b'') s =
      ap (λ z. take (b' - b'') s ++ take (b - b') z) (spans-later ws room b' (omega arith) g b'' k) ∙ sym (take-add (b' - b'') (b - b') s) ∙ ap (λ n. take n s) count in
      record {
        before = omega arith;
        area = u.area ∙ (λ i. over (v.area i) (term_words + b'') (take (b' - b'') (spans g (same i))))
            ∙ over-before ws (term_words + b'') (take (b' - b'') s) (term_words + b') ls (omega arith) ∙ ap (over ws (term_words + b'')) joined;
      }

  -- so the lengths are true from there on
  pub lengthened-measured : Measured g ws (behind b) → Measured g ws' (behind b')
  lengthened-measured m =
      let l = v.before in
      let n = ls-long in
      let s = spans g (term_in ws (behind b')) in
      let row : length_row ws' ≡ over (length_row ws) b' ls = ap length_row v.area ∙ (length-over-row ws b' ls (omega arith)).lengths-are in
      let end : b' + length ls ≡ b = omega arith in
      let rest : drop (b' + length ls) (length_row ws) ≡ drop (b - b') s =
      ap (λ k. drop k (length_row ws)) end ∙ sym (row-behind b (length_row ws)) ∙ m.lengths ∙ spans-later ws room b high g b' l in
      record {
        gapped = record { room = let z = lengthened-total in omega arith; lies = record { low = omega arith; high = omega arith } };
        lengths = row-behind b' (length_row ws') ∙ ap (drop b') row ∙ over-behind (length_row ws) b' ls (let z = length-row-length ws room in omega arith)
            ∙ ap (λ z. ls ++ z) rest ∙ take-append-drop (b - b') s ∙ ap (λ z. spans g (closed (behind b') z)) (sym lengthened-row);
      }

-- ---- one word: its length is told by those behind it

module _ {g : Signature} {ws : List ℕ} {back : ℕ} (m : Measured g ws (behind back)) (at k end : ℕ) (counts : k ≡ arity g (get_or ws at 0))
    (ends : end ≡ 0 + span g (drop 0 (term_in ws (behind back))) k) where
  pub length-small : end + back ≤ term_words
  length-small =
      let x = span-le g (term_in ws (behind back)) k in
      let y = words-length m.gapped in
      let z = m.gapped.lies.high in
      omega arith

  pub lengthened-word : at + 1 ≡ back → Lengthened g ws back (set ws (term_words + at) (end + 1)) at
  lengthened-word e =
      let t = term_in ws (behind back) in
      let w = get_or ws at 0 in
      let room = m.gapped.room in
      let high = m.gapped.lies.high in
      let one : back - at ≡ 1 = omega arith in
      let next : suc at ≡ back = omega arith in
      let n : suc (span g t (arity g w)) ≡ end + 1 = (let z = ap (span g t) counts in omega arith) in
      let here : term_in ws (behind at) ≡ w ∷ t =
      row-behind at (word_row ws) ∙ drop-cons (word_row ws) at 0 (let z = word-row-length ws room in omega arith)
      ∙ (λ i. word-row-at ws at (omega arith) i ∷ drop (next i) (word_row ws)) ∙ ap (λ z. w ∷ z) (sym (row-behind back (word_row ws))) in
      let told : take (back - at) (spans g (term_in ws (behind at))) ≡ (end + 1) ∷ [] =
      (λ i. take (one i) (spans g (here i))) ∙ ap (take 1) (spans-word g w t) ∙ ap (λ z. z ∷ []) n in
      record { before = omega arith; area = ap (over ws (term_words + at)) (sym told) }

-- ---- a whole subterm, whose lengths stand elsewhere

module _ {g : Signature} {ws : List ℕ} (room : counts_at ≤ length ws) {back n : ℕ} (few : n ≤ back) (high : back ≤ term_words) where
  pub lengthened-copy : {x : List ℕ} → Whole g x → part (back - n) n ws ≡ x → {ws' : List ℕ} → ws' ≡ over ws (term_words + (back - n)) (spans g x) →
      Lengthened g ws back ws' (back - n)
  lengthened-copy {x} whole words e =
      let to = back - n in
      let count : back - to ≡ n = omega arith in
      let row : part to n (word_row ws) ≡ x = word-row-part ws to n (omega arith) ∙ words in
      let told : take (back - to) (spans g (term_in ws (behind to))) ≡ spans g x =
      (λ i. take (count i) (spans g (row-behind to (word_row ws) i))) ∙ ap (take n) (spans-drop g (word_row ws) to)
      ∙ sym (spans-stretch g (word_row ws) to n (let z = word-row-length ws room in omega arith) (subst (Whole g) (sym row) whole)) ∙ ap (spans g) row in
      record { before = omega arith; area = e ∙ ap (over ws (term_words + to)) (sym told) }

-- ---- the words, and then their lengths

module _ {g : Signature} {ws : List ℕ} {back : ℕ} (m : Measured g ws (behind back)) (to : ℕ) (new : List ℕ) (size : to + length new ≡ back) where
  abbrev room : counts_at ≤ length ws
  room = m.gapped.room

  abbrev high : back ≤ term_words
  high = m.gapped.lies.high

  over-words : word_row (over ws to new) ≡ over (word_row ws) to new
  over-words = (word-over-row ws to new (omega arith)).words_are

  pub measured-over : Measured g (over ws to new) (behind back)
  measured-over =
      let same : drop back (word_row (over ws to new)) ≡ drop back (word_row ws) = ap (drop back) over-words ∙ drop-over back (word_row ws) to new (omega arith) in
      record {
        gapped = record { room = let z = length-sets ws to new in omega arith; lies = m.gapped.lies };
        lengths = ap (closed (behind back)) (word-over-row ws to new (omega arith)).lengths-are ∙ m.lengths
            ∙ ap (spans g) (row-behind back (word_row ws) ∙ sym same ∙ sym (row-behind back (word_row (over ws to new))));
      }

  pub written-lengthened : {ws' : List ℕ} → Lengthened g (over ws to new) back ws' to → Written g ws (even back) back ws' to new
  written-lengthened {ws'} v =
      let o = behind-onward m in
      let t = drop back (term_in ws (even back)) in
      let ws₁ = over ws to new in
      let s = spans g (new ++ t) in
      let n : back - to ≡ length new = omega arith in
      let whole : term_in ws₁ (behind to) ≡ new ++ t =
      row-behind to (word_row ws₁) ∙ ap (drop to) over-words ∙ over-behind (word_row ws) to new (let z = word-row-length ws room in omega arith)
      ∙ ap (λ b. new ++ drop b (word_row ws)) size ∙ ap (λ z. new ++ z) (sym (row-behind back (word_row ws)) ∙ onward-term o) in
      let told : take (back - to) (spans g (term_in ws₁ (behind to))) ≡ take (length new) s = (λ i. take (n i) (spans g (whole i))) in
      let rest : spans g t ≡ drop (length new) s = ap (spans g) (sym (drop-append_seam new t)) ∙ spans-drop g (new ++ t) (length new) in
      let long : length (take (length new) s) ≡ length new =
      length-take-le (length new) s (let z = spans-length g (new ++ t) in let y = length-append new t in omega arith) in
      subst (λ z. Written g ws (even back) back z to new) (sym (v.area ∙ ap (over ws₁ (term_words + to)) told))
      (written_over ws to new (take (length new) s) long (omega arith) room size o (ap (λ z. take (length new) s ++ z) rest ∙ take-append-drop (length new) s))
