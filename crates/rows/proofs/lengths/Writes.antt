-- Words and their lengths written before others of the term: in one go, and one after the other.
use Prim.Native.Nat.{ℕ, suc, ◌+◌, ◌-◌, ◌≤◌}
use native.Mathlib.Nat.{add-zero}
use native.Mathlib.Omega.{arith}
use mathlib.Core.Path.{◌≡◌, refl, sym, ap, ◌∙◌, subst}
use mathlib.Core.List.{List, [], ◌∷◌, ◌++◌, append_assoc}
use lib.ListN.{length, take, drop, set, length-append, length-drop, drop_of_length-le}
use lib.Seq.{length-sets, sets-eq, drop_at, drop-drop, take-take, take-append-le, drop-append-le, length-take-le}
use Rattle.buffers.specs.Words.{over}
use Rattle.buffers.specs.moves.Parts.{part}
use Rattle.buffers.proofs.Over.{length_part, part-above, take-over, drop-over}
use Rattle.system.specs.Limits.{term_words}
use Rattle.system.specs.Signature.{Signature, arity, span}
use Rattle.system.proofs.words.SpanSteps.{span-le}
use Rattle.rows.specs.declared.gap.Gap.{Gap}
use Rattle.rows.specs.Rows.{counts_at, word_row, length_row, closed, term_in, lengths_in}
use Rattle.rows.specs.gap.Gaps.{behind, even}
use Rattle.system.specs.Spans.{spans}
use Rattle.rows.specs.Measured.{Measured}
use Rattle.rows.specs.lengths.Later.{Onward}
use Rattle.rows.specs.lengths.Written.{Written, Copyable}
use Rattle.system.proofs.Spans.{spans-word, spans-append}
use Rattle.rows.proofs.gap.Rows.{take-over-lt, drop-over-add, word-row-length, length-row-length}
use Rattle.rows.proofs.gap.Closed.{closed-row-length}
use Rattle.rows.proofs.lengths.Measures.{row-behind, row-even, words-length}

-- ---- written over a list, as the rest of it sees it

pub over-behind : (l : List ℕ) (i : ℕ) (vs : List ℕ) → i + length vs ≤ length l → drop i (over l i vs) ≡ vs ++ drop (i + length vs) l
over-behind l i vs h =
    ap (drop i) (sets-eq vs l i h ∙ append_assoc (take i l) vs (drop (i + length vs) l))
    ∙ drop_at (take i l) (vs ++ drop (i + length vs) l) i (length-take-le i l (omega arith))

-- ---- written over a row before the gap in it

row-over : (gap : Gap) (row : List ℕ) (i : ℕ) (vs : List ℕ) → i + length vs ≤ gap.front → gap.front ≤ gap.back → gap.back ≤ length row →
    closed gap (over row i vs) ≡ over (closed gap row) i vs
unfolding closed
row-over gap row i vs h low high =
    let f = take gap.front row in
    let r = drop gap.back row in
    let long : length f ≡ gap.front = length-take-le gap.front row (omega arith) in
    let m : i + length vs ≤ length (f ++ r) = (let z = length-append f r in omega arith) in
    (λ j. take-over-lt gap.front row i vs h j ++ drop-over gap.back row i vs (omega arith) j)
    ∙ ap (λ z. z ++ r) (sets-eq vs f i (omega arith)) ∙ append_assoc (take i f ++ vs) (drop (i + length vs) f) r
    ∙ (λ j. (sym (take-append-le i f r (omega arith)) j ++ vs) ++ sym (drop-append-le (i + length vs) f r (omega arith)) j)
    ∙ sym (sets-eq vs (f ++ r) i m)

-- ---- the words `new` and beside them the numbers `ls`, written from `at` on

module _ (ws : List ℕ) (at : ℕ) (new ls : List ℕ) (same : length ls ≡ length new) (fits : at + length new ≤ term_words) (room : counts_at ≤ length ws) where
  abbrev both : List ℕ
  both = over (over ws at new) (term_words + at) ls

  both-length : length both ≡ length ws
  both-length = length-sets (over ws at new) (term_words + at) ls ∙ length-sets ws at new

  both_words : word_row both ≡ over (word_row ws) at new
  both_words = take-over term_words (over ws at new) (term_words + at) ls (omega arith) ∙ take-over-lt term_words ws at new fits

  both-lengths : length_row both ≡ over (length_row ws) at ls
  both-lengths =
      ap (take term_words) (drop-over-add term_words (over ws at new) at ls ∙ ap (λ z. over z at ls) (drop-over term_words ws at new fits))
      ∙ take-over-lt term_words (drop term_words ws) at ls (omega arith)

  both-counts : drop counts_at both ≡ drop counts_at ws
  both-counts = drop-over counts_at (over ws at new) (term_words + at) ls (omega arith) ∙ drop-over counts_at ws at new (omega arith)

  module _ {g : Signature} {gap : Gap} {to : ℕ} (size : at + length new ≡ to) (o : Onward g ws gap to) where
    -- one row from there on, around the gap
    later : (row vs : List ℕ) → length row ≡ term_words → length vs ≡ length new → drop at (closed gap (over row at vs)) ≡ vs ++ drop to (closed gap row)
    later row vs long n =
        let lies = o.measured.gapped.lies in
        let before = o.before in
        let low = lies.low in
        let high = lies.high in
        let e : at + length vs ≡ to = omega arith in
        ap (drop at) (row-over gap row at vs (omega arith) low (omega arith))
        ∙ over-behind (closed gap row) at vs (let z = closed-row-length gap row lies long in omega arith)
        ∙ ap (λ b. vs ++ drop b (closed gap row)) e

    both-term : drop at (term_in both gap) ≡ new ++ drop to (term_in ws gap)
    both-term = ap (λ z. drop at (closed gap z)) both_words ∙ later (word_row ws) new (word-row-length ws room) refl

    both_later : drop at (lengths_in both gap) ≡ ls ++ spans g (drop to (term_in ws gap))
    both_later =
        ap (λ z. drop at (closed gap z)) both-lengths ∙ later (length_row ws) ls (length-row-length ws room) same
        ∙ ap (λ z. ls ++ z) o.measured.lengths

    -- they are the lengths of the words
    pub written_over : ls ++ spans g (drop to (term_in ws gap)) ≡ spans g (new ++ drop to (term_in ws gap)) →
        Written g ws gap to (over (over ws at new) (term_words + at) ls) at new
    written_over e = record {
      size = size;
      onward = record {
        measured = record {
          gapped = record { room = let z = both-length in omega arith; lies = o.measured.gapped.lies };
          lengths = both_later ∙ e ∙ ap (spans g) (sym both-term);
        };
        before = let z = o.before in omega arith;
      };
      words = both-term;
      front = ap (take at) both_words ∙ take-over at (word_row ws) at new (omega arith);
      front-lengths = ap (take at) both-lengths ∙ take-over at (length_row ws) at ls (omega arith);
      behind = ap (drop to) both_words ∙ drop-over to (word_row ws) at new (omega arith);
      behind-lengths = ap (drop to) both-lengths ∙ drop-over to (length_row ws) at ls (omega arith);
      total = both-length;
      counts = both-counts;
    }

-- ---- one word: its length is told by those behind it

module _ {g : Signature} {ws : List ℕ} {gap : Gap} {to : ℕ} (o : Onward g ws gap to) (w k end : ℕ) (counts : k ≡ arity g w)
    (ends : end ≡ to + span g (drop to (term_in ws gap)) k) where
  pub push-small : (to ≤ end) × (end ≤ term_words)
  push-small =
      let x = span-le g (drop to (term_in ws gap)) k in
      let y = words-length o.measured.gapped in
      let n = length-drop to (term_in ws gap) in
      let z = o.measured.gapped.lies.high in
      let l = o.measured.gapped.lies.low in
      let b = o.before in
      (omega arith, omega arith)

  pub written-word : (at : ℕ) → at + 1 ≡ to → Written g ws gap to (set (set ws at w) (term_words + at) (end - at)) at (w ∷ [])
  written-word at e =
      let t = drop to (term_in ws gap) in
      let lies = o.measured.gapped.lies in
      let low = lies.low in
      let high = lies.high in
      let before = o.before in
      let n : suc (span g t (arity g w)) ≡ end - at = (let z = ap (span g t) counts in omega arith) in
      written_over ws at (w ∷ []) ((end - at) ∷ []) refl (omega arith) o.measured.gapped.room e o
      (sym (spans-word g w t ∙ ap (λ z. z ∷ spans g t) n))

-- ---- one after the other

pub written_none : {g : Signature} {ws : List ℕ} {gap : Gap} {to : ℕ} → Onward g ws gap to → Written g ws gap to ws to []
written_none {to} o = record {
  size = add-zero to;
  onward = o;
  words = refl;
  front = refl;
  front-lengths = refl;
  behind = refl;
  behind-lengths = refl;
  total = refl;
  counts = refl;
}

module _ {g : Signature} {ws ws' : List ℕ} {gap : Gap} {to to' : ℕ} {new : List ℕ} (v : Written g ws gap to ws' to' new) where
  pub written_then : {ws'' : List ℕ} {to'' : ℕ} {new' : List ℕ} → Written g ws' gap to' ws'' to'' new' → Written g ws gap to ws'' to'' (new' ++ new)
  written_then {ws''} {to''} {new'} u =
      let l : to'' ≤ to' = (let z = u.size in omega arith) in
      let k : to' + (to - to') ≡ to = (let z = v.size in omega arith) in
      let front : (a b c : List ℕ) → take to'' c ≡ take to'' b → take to' b ≡ take to' a → take to'' c ≡ take to'' a =
      λ a b c x y. x ∙ sym (take-take to'' to' b l) ∙ ap (take to'') y ∙ take-take to'' to' a l in
      let rest : (z : List ℕ) → drop to z ≡ drop (to - to') (drop to' z) = λ z. ap (λ i. drop i z) (sym k) ∙ sym (drop-drop (to - to') to' z) in
      let behind : (a b c : List ℕ) → drop to' c ≡ drop to' b → drop to b ≡ drop to a → drop to c ≡ drop to a =
      λ a b c x y. rest c ∙ ap (drop (to - to')) x ∙ sym (rest b) ∙ y in
      record {
        size = let x = u.size in let y = v.size in let z = length-append new' new in omega arith;
        onward = u.onward;
        words = u.words ∙ ap (λ z. new' ++ z) v.words ∙ sym (append_assoc new' new (drop to (term_in ws gap)));
        front = front (word_row ws) (word_row ws') (word_row ws'') u.front v.front;
        front-lengths = front (length_row ws) (length_row ws') (length_row ws'') u.front-lengths v.front-lengths;
        behind = behind (word_row ws) (word_row ws') (word_row ws'') u.behind v.behind;
        behind-lengths = behind (length_row ws) (length_row ws') (length_row ws'') u.behind-lengths v.behind-lengths;
        total = u.total ∙ v.total;
        counts = u.counts ∙ v.counts;
      }

-- ---- a whole subterm, copied with its lengths

module _ {g : Signature} {ws : List ℕ} {gap : Gap} {to from n : ℕ} (few : n ≤ to) (within : from + n ≤ term_words) (c : Copyable g ws gap to from n) where
  pub written-copy : {first second : List ℕ} → first ≡ over ws (to - n) (part from n ws) →
      second ≡ over first (term_words + (to - n)) (part (term_words + from) n first) → Written g ws gap to second (to - n) (part from n ws)
  written-copy {first} e e' =
      let at = to - n in
      let new = part from n ws in
      let ls = part (term_words + from) n ws in
      let t = drop to (term_in ws gap) in
      let h = c.onward.measured.gapped in
      let room = h.room in
      let low = h.lies.low in
      let high = h.lies.high in
      let before = c.onward.before in
      let long : length new ≡ n = length_part from n ws (omega arith) in
      let long' : length ls ≡ n = length_part (term_words + from) n ws (omega arith) in
      let kept : part (term_words + from) n first ≡ ls = ap (part (term_words + from) n) e ∙ part-above (term_words + from) n ws at new (omega arith) in
      subst (λ z. Written g ws gap to z at new) (sym (e' ∙ (λ i. over (e i) (term_words + at) (kept i))))
      (written_over ws at new ls (omega arith) (omega arith) room (omega arith) c.onward
      (ap (λ z. z ++ spans g t) c.lengths ∙ sym (spans-append g t c.whole)))

-- ---- words behind a gap, seen without one

module _ {g : Signature} {ws : List ℕ} {b : ℕ} where
  pub behind-onward : Measured g ws (behind b) → Onward g ws (even b) b
  behind-onward m =
      let h = m.gapped in
      let e : (row : List ℕ) → drop b (closed (even b) row) ≡ closed (behind b) row = λ row. ap (drop b) (row-even b row) ∙ sym (row-behind b row) in
      record {
        measured = record {
          gapped = record { room = h.room; lies = record { low = omega arith; high = h.lies.high } };
          lengths = e (length_row ws) ∙ m.lengths ∙ ap (spans g) (sym (e (word_row ws)));
        };
        before = omega arith;
      }

  module _ {to : ℕ} (o : Onward g ws (even b) to) where
    from-even : (row : List ℕ) → closed (behind to) row ≡ drop to (closed (even b) row)
    from-even row = row-behind to row ∙ ap (drop to) (sym (row-even b row))

    pub onward-term : term_in ws (behind to) ≡ drop to (term_in ws (even b))
    onward-term = from-even (word_row ws)

    pub onward-behind : Measured g ws (behind to)
    onward-behind =
        let h = o.measured.gapped in
        let high = h.lies.high in
        let before = o.before in
        record {
          gapped = record { room = h.room; lies = record { low = omega arith; high = omega arith } };
          lengths = from-even (length_row ws) ∙ o.measured.lengths ∙ ap (spans g) (sym onward-term);
        }

-- ---- a term at the end of its row

module _ (ws : List ℕ) (room : counts_at ≤ length ws) where
  row-end : (row : List ℕ) → length row ≡ term_words → drop term_words (closed (even term_words) row) ≡ []
  row-end row long = ap (drop term_words) (row-even term_words row) ∙ drop_of_length-le row {i = term_words} (omega arith)

  pub even-end : drop term_words (term_in ws (even term_words)) ≡ []
  even-end = row-end (word_row ws) (word-row-length ws room)

  pub term-end : term_in ws (behind term_words) ≡ []
  term-end = row-behind term_words (word_row ws) ∙ ap (drop term_words) (sym (row-even term_words (word_row ws))) ∙ even-end

  pub onward-end : {g : Signature} → Onward g ws (even term_words) term_words
  unfolding spans
  onward-end {g} = record {
    measured = record {
      gapped = record { room = room; lies = record { low = omega arith; high = omega arith } };
      lengths = row-end (length_row ws) (length-row-length ws room) ∙ ap (spans g) (sym even-end);
    };
    before = omega arith;
  }
