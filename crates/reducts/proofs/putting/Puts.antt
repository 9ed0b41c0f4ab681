-- The reduct is written before what follows the words of u: the term in which it is put stands around the gap.
use Prim.Native.Nat.{ℕ, suc, ◌+◌, ◌-◌, ◌≤◌, ◌<◌}
use native.Mathlib.Omega.{arith}
use mathlib.Core.Path.{◌≡◌, refl, sym, ap, ◌∙◌, subst}
use mathlib.Core.List.{List, [], ◌∷◌, ◌++◌, append_assoc}
use lib.ListN.{length, take, drop, set, length-append, length-take, length-drop, take-append-drop}
use lib.Seq.{take-take, drop-drop, length-sets, length-take-le}
use Rattle.buffers.specs.Words.{over}
use Rattle.buffers.specs.moves.Parts.{part}
use Rattle.buffers.proofs.Over.{take-over, drop-over, part-below}
use Rattle.system.specs.Limits.{area_words, term_words, variable}
use Rattle.system.specs.Signature.{Signature, arity, span}
use Rattle.system.specs.System.{instance}
use Rattle.rows.specs.declared.gap.Gap.{Gap}
use Rattle.rows.specs.Rows.{counts_at, word_row, length_row, Lies, Gapped, closed, term_in}
use Rattle.rows.specs.gap.Gaps.{words_in, even, Moved}
use Rattle.system.specs.Spans.{spans}
use Rattle.rows.specs.lengths.Later.{Onward}
use Rattle.rows.specs.lengths.Written.{Written}
use Rattle.system.proofs.Forests.{span-zero}
use Rattle.system.proofs.Spans.{spans-word}
use Rattle.rows.proofs.gap.Rows.{word-row-length, length-row-length}
use Rattle.rows.proofs.gap.Closed.{closed-behind}
use Rattle.rows.proofs.lengths.Measures.{words-length, row-even, row_first, measured-moved, measured-after, word-row-same, length-row-same}
use Rattle.rows.proofs.lengths.Writes.{written_over}
use Rattle.matching.specs.rules.Searches.{reduct_length}
use Rattle.matching.proofs.Matched.{instance-nil, instance-symbol}
use Rattle.sides.specs.sides.Sides.{Stretches}
use Rattle.reducts.specs.declared.putting.Subterm.{Subterm}
use Rattle.sides.specs.writing.Reduct.{reduct}
use Rattle.reducts.specs.putting.Replaced.{filling, Filled, Puttable, Crowdable, lengths_aside, spliced, Placed, Done, TooLong, Put, fits, exceeds}
use Rattle.reducts.proofs.putting.Asides.{gap_size, placed_behind}
use Rattle.reducts.proofs.putting.Writables.{reduct-counted, opened, filled-behind}

-- ---- the gap moved to an edge of u

module _ {g : Signature} {side ws : List ℕ} {gap : Gap} {u : Subterm} {c : Stretches} (p : Puttable g side ws gap u c) {ws' : List ℕ} {gap' : Gap} {to : ℕ}
    (v : Moved ws gap to gap' ws') where
  pub moved-puttable : Puttable g side ws' gap' u c
  moved-puttable = record {
    total = v.total ∙ p.total;
    measured = measured-moved p.measured v;
    within = omega (arith, v.size, p.within);
    around = p.around;
    sided = p.sided;
    starts = p.starts;
    lengths = p.lengths;
    filled = λ x m. subst (λ t. Filled g t u c x) (sym v.words) (p.filled x m);
  }

  -- the gap has as many words as before
  pub moved-size : gap_size gap' ≡ gap_size gap
  moved-size =
      let a = p.measured.gapped.lies in
      let b = v.gapped.lies in
      omega (arith, v.size, a.low, a.high, b.low, b.high)

-- ---- the area in which the reduct is written: both rows are those of ws, and so are the counts of `level` levels and what stands behind the words
-- or lengths set aside

pub record Spared (ws : List ℕ) (u : Subterm) (ws₁ : List ℕ) : Type 0 where
  pub rows : take counts_at ws₁ ≡ take counts_at ws
  pub total : length ws₁ ≡ length ws
  pub outer : take u.level (drop counts_at ws₁) ≡ take u.level (drop counts_at ws)
  pub rest : (n : ℕ) → u.level + u.width ≤ n → drop n (drop counts_at ws₁) ≡ drop n (drop counts_at ws)

pub spared-none : (ws : List ℕ) (u : Subterm) → Spared ws u ws
spared-none ws u = record { rows = refl; total = refl; outer = refl; rest = λ n h. refl }

pub spared-aside : (ws : List ℕ) (u : Subterm) → Spared ws u (lengths_aside ws u)
spared-aside ws u =
    let base = counts_at + u.level in
    let ls = part (term_words + u.at) u.width ws in
    record {
      rows = take-over counts_at ws base ls (omega arith);
      total = length-sets ws base ls;
      outer = part-below counts_at u.level ws base ls (omega arith);
      rest = λ n h.
          let m = length-take u.width (drop (term_words + u.at) ws) in
          drop-drop n counts_at (over ws base ls) ∙ drop-over (counts_at + n) ws base ls (omega arith) ∙ sym (drop-drop n counts_at ws);
    }

-- ---- the reduct is written, before some gap: what stands around another one then

module _ {g : Signature} {side ws : List ℕ} {gap : Gap} {u : Subterm} {c : Stretches} (p : Puttable g side ws gap u c) where
  abbrev t : List ℕ
  t = term_in ws gap

  abbrev new : List ℕ
  new = instance (filling t u c) side

  -- how long the term becomes
  pub spliced-length : length (spliced side t u c) + u.width ≡ words_in gap + reduct_length c.lengths side
  spliced-length =
      let long = words-length p.measured.gapped in
      let x = length-append (take u.at t ++ new) (drop (u.at + u.width) t) in
      let y = length-append (take u.at t) new in
      let within = p.within in
      let z = length-take-le u.at t (omega arith) in
      let w = length-drop (u.at + u.width) t in
      omega (arith, reduct-counted p)

  -- what follows the words of u, without a gap that is behind them
  pub follows : (h : Gap) → Gapped ws h → gap.back + (u.at + u.width - gap.front) ≡ h.back → gap.front ≤ u.at + u.width →
      drop h.front (term_in ws h) ≡ drop (u.at + u.width) t
  follows h o e l =
      let lies = p.measured.gapped.lies in
      let row = word_row ws in
      let long = word-row-length ws o.room in
      let i = u.at + u.width - gap.front in
      let there : gap.front + i ≡ u.at + u.width = omega arith in
      closed-behind h row o.lies long ∙ ap (λ b. drop b row) (sym e) ∙ sym (drop-drop i gap.back row)
      ∙ ap (drop i) (sym (closed-behind gap row lies long)) ∙ drop-drop i gap.front t ∙ ap (λ b. drop b t) there

  module _ {ws₁ ws₂ : List ℕ} {there left : Gap} {b : ℕ} (r : Spared ws u ws₁) (w : Written g ws₁ there there.front ws₂ b new)
      (before : u.at ≤ gap.front) (fits : u.at ≤ b) (rest : drop there.front (term_in ws there) ≡ drop (u.at + u.width) t)
      (front : u.at ≤ left.front) (lies : Lies left)
      (same : (row : List ℕ) → length row ≡ term_words → drop u.at (closed left row) ≡ drop b (closed there row)) where
    total : length ws₂ ≡ area_words
    total = w.total ∙ r.total ∙ p.total

    abbrev room : counts_at ≤ length ws₂
    room = omega (arith, total)

    -- the front of a row is that of the term or of its lengths
    before_same : (row row₁ row₂ : List ℕ) → length row ≡ term_words → take b row₂ ≡ take b row₁ → row₁ ≡ row → take u.at row₂ ≡ take u.at (closed gap row)
    before_same row row₁ row₂ long e e' =
        let high = p.measured.gapped.lies.high in
        let low = p.measured.gapped.lies.low in
        sym (take-take u.at b row₂ fits) ∙ ap (take u.at) e ∙ take-take u.at b row₁ fits ∙ ap (take u.at) e'
        ∙ sym (row_first gap u.at before row (omega arith))

    words-before : take u.at (word_row ws₂) ≡ take u.at t
    words-before = before_same (word_row ws) (word_row ws₁) (word_row ws₂) (word-row-length ws p.measured.gapped.room) w.front (word-row-same ws ws₁ r.rows)

    lengths-before : take u.at (length_row ws₂) ≡ take u.at (spans g t)
    lengths-before =
        before_same (length_row ws) (length_row ws₁) (length_row ws₂) (length-row-length ws p.measured.gapped.room) w.front-lengths (length-row-same ws ws₁ r.rows)
        ∙ ap (take u.at) p.measured.lengths

    words-later : drop u.at (term_in ws₂ left) ≡ new ++ drop (u.at + u.width) t
    words-later =
        same (word_row ws₂) (word-row-length ws₂ room) ∙ w.words
        ∙ ap (λ z. new ++ drop there.front (closed there z)) (word-row-same ws ws₁ r.rows) ∙ ap (λ z. new ++ z) rest

    term-placed : term_in ws₂ left ≡ spliced side t u c
    term-placed =
        let high = lies.high in
        let low = lies.low in
        let first = row_first left u.at front (word_row ws₂) (let z = word-row-length ws₂ room in omega arith) in
        sym (take-append-drop u.at (term_in ws₂ left)) ∙ (λ i. (first ∙ words-before) i ++ words-later i)
        ∙ sym (append_assoc (take u.at t) new (drop (u.at + u.width) t))

    pub placed-written : Placed g ws t (spliced side t u c) u.at u.level left ws₂
    placed-written = record {
      front = front;
      total = total;
      term = term-placed;
      later = record {
        gapped = record { room = room; lies = lies };
        lengths = same (length_row ws₂) (length-row-length ws₂ room) ∙ w.onward.measured.lengths
            ∙ ap (spans g) (sym (same (word_row ws₂) (word-row-length ws₂ room)));
      };
      before = lengths-before;
      outer = ap (take u.level) w.counts ∙ r.outer;
      rest = λ n h. ap (drop n) w.counts ∙ r.rest n (let z = words-length p.measured.gapped in omega (arith, p.within));
    }

-- ---- the ways out, seen from where the gap was

module _ {g : Signature} {side ws : List ℕ} {gap : Gap} {u : Subterm} {c : Stretches} (p : Puttable g side ws gap u c) where
  abbrev k : ℕ
  k = reduct_length c.lengths side

  -- what is placed in the area whose gap was moved is placed in that of before
  placed-moved : {ws' : List ℕ} {gap' : Gap} {to : ℕ} → Moved ws gap to gap' ws' → {left : Gap} {ws₂ : List ℕ} →
      Placed g ws' (term_in ws' gap') (spliced side (term_in ws' gap') u c) u.at u.level left ws₂ →
      length (spliced side (term_in ws gap) u c) ≤ term_words → Put g side ws gap u c (Done left) ws₂
  placed-moved v {left} d few = fits few left refl (record {
    front = d.front;
    total = d.total;
    term = d.term ∙ ap (λ t. spliced side t u c) v.words;
    later = d.later;
    before = d.before ∙ ap (λ t. take u.at (spans g t)) v.words;
    outer = d.outer ∙ ap (take u.level) v.counts;
    rest = λ n h. d.rest n (let z = ap length v.words in omega arith) ∙ ap (drop n) v.counts;
  })

  -- the gap before the words of u
  module _ {ws' : List ℕ} {gap' : Gap} (v : Moved ws gap u.at gap' ws') (few : k ≤ gap_size gap') where
    abbrev q : Puttable g side ws' gap' u c
    q = moved-puttable p v

    abbrev between : Gap
    between = record { front = u.at + k; back = gap'.back + u.width }

    pub put-before : {ws₂ : List ℕ} {b : ℕ} → Written g ws' between (u.at + k) ws₂ b (reduct side c (placed_behind gap' u) ws') → Put g side ws gap u c (Done between) ws₂
    put-before {ws₂} {b} w₀ =
        let stand = sym v.front in
        let w = subst (Written g ws' between (u.at + k) ws₂ b) (filled-behind q few stand) w₀ in
        let e : b ≡ u.at = (let z = w.size in omega (arith, reduct-counted q)) in
        let o = opened q few stand in
        let a = p.measured.gapped.lies in
        let d = v.gapped.lies in
        placed-moved v
        (placed-written q (spared-none ws' u) w (omega arith) (omega arith) (follows q between o (omega (arith, v.front)) (omega arith)) (omega arith) o.lies
        (λ row n. ap (λ i. drop i (closed between row)) (sym e)))
        (omega (arith, spliced-length p, v.size, v.front, d.low, d.high, p.within))

  -- the gap behind them
  module _ {ws' : List ℕ} {gap' : Gap} (v : Moved ws gap (u.at + u.width) gap' ws') where
    abbrev q' : Puttable g side ws' gap' u c
    q' = moved-puttable p v

    length_moved : length (spliced side (term_in ws gap) u c) + gap'.back ≡ u.at + k + term_words
    length_moved = let d = v.gapped.lies in omega (arith, spliced-length p, v.size, v.front, d.low, d.high, p.within)

    pub moved-stands : u.at + u.width ≡ gap'.front
    moved-stands = sym v.front

    pub moved-crowdable : k ≤ gap'.back → Crowdable g side ws' gap' u c
    moved-crowdable room = record { puttable = q'; stand = moved-stands; room = room }

    pub put-long : gap'.back < u.at + k → Put g side ws gap u c (TooLong gap') ws'
    put-long h = exceeds (omega (arith, length_moved)) gap' refl (record { measured = q'.measured; total = q'.total; term = v.words; counts = v.counts })

    pub put-behind : {ws₁ ws₂ : List ℕ} {b : ℕ} → Spared ws' u ws₁ →
        Written g ws₁ (even gap'.back) gap'.back ws₂ b (instance (filling (term_in ws' gap') u c) side) →
        u.at + k ≤ gap'.back → Put g side ws gap u c (Done (record { front = u.at; back = b })) ws₂
    put-behind {ws₂} {b} r w room =
        let d = v.gapped.lies in
        let size : b + k ≡ gap'.back = (let z = w.size in omega (arith, reduct-counted q')) in
        let o : Gapped ws' (even gap'.back) = record { room = v.gapped.room; lies = record { low = omega arith; high = d.high } } in
        let lies : Lies (record { front = u.at; back = b }) = record { low = omega arith; high = omega (arith, d.high) } in
        placed-moved v
        (placed-written q' r w (omega (arith, v.front)) (omega arith) (follows q' (even gap'.back) o (omega (arith, v.front)) (omega (arith, v.front))) (omega arith) lies
        (λ row n. closed-behind (record { front = u.at; back = b }) row lies n ∙ ap (drop b) (sym (row-even gap'.back row))))
        (omega (arith, length_moved))

    -- a word without arguments, written over the first of them
    module _ {w : ℕ} (word : side ≡ w ∷ []) (symbol : w < variable) (none : arity g w ≡ 0) (some : 0 < u.width) where
      abbrev after : Gap
      after = record { front = u.at + 1; back = gap'.back }

      pub put_one : Put g side ws gap u c (Done after) (set (set ws' u.at w) (term_words + u.at) 1)
      put_one =
          let d = v.gapped.lies in
          let σ = filling (term_in ws' gap') u c in
          let is : w ∷ [] ≡ instance σ side = sym (ap (instance σ) word ∙ instance-symbol σ w [] symbol ∙ ap (λ r. w ∷ r) (instance-nil σ)) in
          let n = ap length is in
          let o : Gapped ws' after = record { room = v.gapped.room; lies = record { low = omega (arith, v.front, d.low); high = d.high } } in
          let t = drop (u.at + 1) (term_in ws' after) in
          let told : 1 ∷ spans g t ≡ spans g (w ∷ t) = sym (spans-word g w t ∙ ap (λ z. suc z ∷ spans g t) (ap (span g t) none ∙ span-zero g t)) in
          let begins : Onward g ws' after (u.at + 1) = record { measured = measured-after q'.measured after o (omega arith); before = omega arith } in
          let written = written_over ws' u.at (w ∷ []) (1 ∷ []) refl (omega (arith, o.lies.low, d.high)) v.gapped.room refl begins told in
          placed-moved v
          (placed-written q' (spared-none ws' u)
          (subst (Written g ws' after (u.at + 1) (set (set ws' u.at w) (term_words + u.at) 1) u.at) is written) (omega (arith, v.front)) (omega arith)
          (follows q' after o (omega (arith, v.front)) (omega (arith, v.front))) (omega arith) o.lies (λ row m. refl))
          (omega (arith, length_moved, reduct-counted q', o.lies.low))
