-- The gap moved: words of each row go to its other side, and neither row without its gap changes. Assumes nothing.
use mathlib.Core.Path.{◌≡◌, refl, sym, ap, ◌∙◌}
use mathlib.Core.List.{List, ◌++◌, append_assoc}
use Prim.Native.Nat.{ℕ, ◌+◌, ◌≤◌}
use native.Mathlib.Omega.{arith}
use lib.ListN.{length, take, drop, length-append, take-append-drop}
use lib.Seq.{length-take-le, length-sets, sets-eq, take-add, drop-drop, take_at, drop_at}
use Rattle.buffers.specs.Words.{over}
use Rattle.buffers.specs.moves.Parts.{part}
use Rattle.buffers.proofs.Over.{length_part, take-over, drop-over}
use Rattle.system.specs.Limits.{term_words}
use Rattle.rows.specs.Rows.{counts_at, word_row, length_row, Lies, Gapped, closed}
use Rattle.rows.specs.gap.Gaps.{words_in, Moved}
use Rattle.rows.specs.declared.gap.Gap.{Gap}
use Rattle.rows.proofs.gap.Rows.{word-row-length, length-row-length, word-row-part, length-row-part, RowsOf, word-over-row, length-over-row}

-- ---- over one row

-- n words before the gap go behind it
pub closed-moved-back : (g g' : Gap) (n : ℕ) (row : List ℕ) → Lies g → length row ≡ term_words → g'.front + n ≡ g.front → g'.back + n ≡ g.back →
    closed g' (over row g'.back (part g'.front n row)) ≡ closed g row
unfolding closed
closed-moved-back g g' n row lies whole ef eb =
    let low = lies.low in
    let high = lies.high in
    let a = g'.front in
    let b = g'.back in
    let p = part a n row in
    let np : length p ≡ n = length_part a n row (omega arith) in
    let nb : length (take b row) ≡ b = length-take-le b row (omega arith) in
    let w : over row b p ≡ take b row ++ (p ++ drop (b + n) row) = sets-eq p row b (rw np (omega arith)) ∙ rw (np, append_assoc) in
    let front : take a (over row b p) ≡ take a row = take-over a row b p (omega arith) in
    let back : drop b (over row b p) ≡ p ++ drop (b + n) row = ap (λ (l : List ℕ). drop b l) w ∙ drop_at (take b row) (p ++ drop (b + n) row) b nb in
    rw (front, back, ← append_assoc (take a row), ← take-add a n row, ef, eb)

-- n words behind it go before it
pub closed-moved-on : (g g' : Gap) (n : ℕ) (row : List ℕ) → Lies g → length row ≡ term_words → g.front + n ≡ g'.front → g.back + n ≡ g'.back →
    g'.back ≤ term_words → closed g' (over row g.front (part g.back n row)) ≡ closed g row
unfolding closed
closed-moved-on g g' n row lies whole ef eb high' =
    let low = lies.low in
    let high = lies.high in
    let a = g.front in
    let b = g.back in
    let p = part b n row in
    let np : length p ≡ n = length_part b n row (omega arith) in
    let nf : length (take a row ++ p) ≡ a + n = rw (length-append (take a row), np, length-take-le a row (omega arith)) in
    let w : over row a p ≡ (take a row ++ p) ++ drop (a + n) row = sets-eq p row a (rw np (omega arith)) ∙ rw np in
    let front : take (a + n) (over row a p) ≡ take a row ++ p = ap (λ (l : List ℕ). take (a + n) l) w ∙ take_at (take a row ++ p) (drop (a + n) row) (a + n) nf in
    let back : drop (b + n) (over row a p) ≡ drop (b + n) row = drop-over (b + n) row a p (rw np (omega arith)) in
    rw (← ef, ← eb, front, back, append_assoc (take a row), ← drop-drop n b row, take-append-drop n (drop b row))

-- ---- over an area: the same words moved in both rows

module _ (ws ws₁ ws₂ : List ℕ) (from to n : ℕ) (room : counts_at ≤ length ws) (source : from + n ≤ term_words) (target : to + n ≤ term_words)
    (first : ws₁ ≡ over ws to (part from n ws)) (second : ws₂ ≡ over ws₁ (term_words + to) (part (term_words + from) n ws₁)) where
  pub length₁ : length ws₁ ≡ length ws
  length₁ = ap (λ (l : List ℕ). length l) first ∙ length-sets ws to (part from n ws)

  pub rows-total : length ws₂ ≡ length ws
  rows-total = ap (λ (l : List ℕ). length l) second ∙ length-sets ws₁ (term_words + to) (part (term_words + from) n ws₁) ∙ length₁

  pub words₁ : RowsOf ws₁ (over (word_row ws) to (part from n ws)) (length_row ws) (drop counts_at ws)
  words₁ = rw first (word-over-row ws to (part from n ws) (rw (length_part from n ws (omega arith)) target))

  pub lengths₂ : RowsOf ws₂ (word_row ws₁) (over (length_row ws₁) to (part (term_words + from) n ws₁)) (drop counts_at ws₁)
  lengths₂ = rw second (length-over-row ws₁ to (part (term_words + from) n ws₁) (rw (length_part (term_words + from) n ws₁ (omega (arith, length₁))) target))

  pub rows-moved : RowsOf ws₂ (over (word_row ws) to (part from n (word_row ws))) (over (length_row ws) to (part from n (length_row ws))) (drop counts_at ws)
  rows-moved =
      let same = words₁.lengths-are in
      record {
        words_are = lengths₂.words_are ∙ words₁.words_are ∙ ap (λ (p : List ℕ). over (word_row ws) to p) (sym (word-row-part ws from n source));
        lengths-are = lengths₂.lengths-are ∙ ap (λ (p : List ℕ). over (length_row ws₁) to p) (sym (length-row-part ws₁ from n source))
            ∙ ap (λ (row : List ℕ). over row to (part from n row)) same;
        counts-are = lengths₂.counts-are ∙ words₁.counts-are;
      }

-- both rows without their gap are what they were
pub moved_by : (ws ws₂ : List ℕ) (g g' : Gap) (words lengths : List ℕ) → Gapped ws g → Lies g' → words_in g' ≡ words_in g → length ws₂ ≡ length ws →
    RowsOf ws₂ words lengths (drop counts_at ws) → closed g' words ≡ closed g (word_row ws) → closed g' lengths ≡ closed g (length_row ws) →
    Moved ws g g'.front g' ws₂
moved_by ws ws₂ g g' words lengths h lies size total rows ew el = record {
  front = refl;
  size = size;
  gapped = record { room = omega (arith, h.room, total); lies = lies };
  words = ap (λ (row : List ℕ). closed g' row) rows.words_are ∙ ew;
  lengths = ap (λ (row : List ℕ). closed g' row) rows.lengths-are ∙ el;
  total = total;
  counts = rows.counts-are;
}

pub moved_back : (ws ws₁ ws₂ : List ℕ) (g g' : Gap) (n : ℕ) → Gapped ws g → g'.front + n ≡ g.front → g'.back + n ≡ g.back →
    ws₁ ≡ over ws g'.back (part g'.front n ws) → ws₂ ≡ over ws₁ (term_words + g'.back) (part (term_words + g'.front) n ws₁) →
    Moved ws g g'.front g' ws₂
moved_back ws ws₁ ws₂ g g' n h ef eb e₁ e₂ =
    let low = h.lies.low in
    let high = h.lies.high in
    let room = h.room in
    let source : g'.front + n ≤ term_words = omega arith in
    let target : g'.back + n ≤ term_words = omega arith in
    moved_by ws ws₂ g g' _ _ h (record { low = omega arith; high = omega arith }) (omega arith)
    (rows-total ws ws₁ ws₂ g'.front g'.back n room source target e₁ e₂) (rows-moved ws ws₁ ws₂ g'.front g'.back n room source target e₁ e₂)
    (closed-moved-back g g' n (word_row ws) h.lies (word-row-length ws room) ef eb)
    (closed-moved-back g g' n (length_row ws) h.lies (length-row-length ws room) ef eb)

pub moved_on : (ws ws₁ ws₂ : List ℕ) (g g' : Gap) (n : ℕ) → Gapped ws g → g.front + n ≡ g'.front → g.back + n ≡ g'.back → g'.back ≤ term_words →
    ws₁ ≡ over ws g.front (part g.back n ws) → ws₂ ≡ over ws₁ (term_words + g.front) (part (term_words + g.back) n ws₁) →
    Moved ws g g'.front g' ws₂
moved_on ws ws₁ ws₂ g g' n h ef eb high' e₁ e₂ =
    let low = h.lies.low in
    let high = h.lies.high in
    let room = h.room in
    let source : g.back + n ≤ term_words = omega arith in
    let target : g.front + n ≤ term_words = omega arith in
    moved_by ws ws₂ g g' _ _ h (record { low = omega arith; high = omega arith }) (omega arith)
    (rows-total ws ws₁ ws₂ g.back g.front n room source target e₁ e₂) (rows-moved ws ws₁ ws₂ g.back g.front n room source target e₁ e₂)
    (closed-moved-on g g' n (word_row ws) h.lies (word-row-length ws room) ef eb high')
    (closed-moved-on g g' n (length_row ws) h.lies (length-row-length ws room) ef eb high')
