-- What the variables stand for, as it is read where the words of the redex are: in place, or behind the counts.
use Prim.Native.Nat.{ℕ, ◌+◌, ◌-◌, ◌≤◌, ◌<◌}
use native.Mathlib.Omega.{arith}
use native.Mathlib.Decide.{dec_lt}
use mathlib.Core.Path.{◌≡◌, sym, ap, ◌∙◌, subst}
use mathlib.Core.Logic.{◌⊎◌, inl, inr}
use mathlib.Core.List.{List}
use lib.ListN.{length, get_or}
use lib.Seq.{length-sets}
use Rattle.buffers.specs.Words.{over}
use Rattle.buffers.specs.moves.Parts.{part}
use Rattle.buffers.proofs.Over.{length_part, part-below, part-above}
use Rattle.system.specs.Limits.{term_words, variable}
use Rattle.system.specs.Signature.{Signature}
use Rattle.system.specs.Terms.{Member}
use Rattle.rows.proofs.lengths.Measures.{words-length}
use Rattle.rows.specs.declared.gap.Gap.{Gap}
use Rattle.rows.specs.Rows.{counts_at, term_in}
use Rattle.rows.specs.gap.Gaps.{words_in}
use Rattle.sides.specs.sides.Sides.{Stretches}
use Rattle.reducts.specs.declared.putting.Subterm.{Subterm}
use Rattle.sides.specs.writing.Reduct.{stretch_at, stretch, Unwritten}
use Rattle.sides.specs.crowded.Passes.{Beyond, Told}
use Rattle.reducts.specs.putting.Replaced.{filling, Filled, Puttable, lengths_aside}
use Rattle.sides.proofs.Overs.{over-read, part-part}
use Rattle.sides.proofs.writing.Places.{stretch-before, stretch-later}
use Rattle.reducts.proofs.putting.Asides.{gap_size, placed_behind, placed, words_away, lengths_away}
use Rattle.reducts.proofs.putting.Standing.{Standing, stands-before, stands-behind, standing-whole, standing-told, standing-lengths}

-- ---- the stretch of one variable

module _ {g : Signature} {side ws : List ℕ} {gap : Gap} {u : Subterm} {c : Stretches} (p : Puttable g side ws gap u c) (v : ℕ) (member : Member (variable + v) side) where
  abbrev f₀ : Filled g (term_in ws gap) u c v
  f₀ = p.filled v member

  abbrev start₀ : ℕ
  start₀ = get_or c.starts v 0

  abbrev n₀ : ℕ
  n₀ = get_or c.lengths v 0

  -- it ends in the term
  inside₀ : u.at + start₀ + n₀ ≤ words_in gap
  inside₀ = let z = words-length p.measured.gapped in let y = f₀.within in omega arith

  pub filling-length : length (filling (term_in ws gap) u c v) ≡ n₀
  filling-length = length_part (u.at + start₀) n₀ (term_in ws gap) f₀.within

  pub filling-small : n₀ ≤ term_words
  filling-small = let low = p.measured.gapped.lies.low in let high = p.measured.gapped.lies.high in let z = inside₀ in omega arith

  -- ---- the gap being before the words of u

  module _ (stand : u.at ≡ gap.front) where
    stretch-behind : stretch_at (placed_behind gap u) start₀ ≡ gap.back + start₀
    stretch-behind = elim (dec_lt start₀ u.width) [
      | yes h ↦ stretch-before (placed_behind gap u) start₀ h
      | no h ↦ stretch-later (placed_behind gap u) start₀ (omega arith)
    ]

    stands-there : Standing ws gap (stretch_at (placed_behind gap u) start₀) (u.at + start₀) n₀
    stands-there =
        let low = p.measured.gapped.lies.low in
        let e : u.at + start₀ + gap_size gap ≡ gap.back + start₀ = omega arith in
        subst (λ i. Standing ws gap i (u.at + start₀) n₀) (e ∙ sym stretch-behind)
        (stands-behind p.measured.gapped (u.at + start₀) n₀ (omega arith) inside₀)

    pub read_behind : stretch ws c (placed_behind gap u) v ≡ filling (term_in ws gap) u c v
    read_behind = stands-there.words

    pub unwritten-behind : (k : ℕ) → k ≤ gap_size gap → Unwritten g ws (u.at + k - k) (u.at + k) (stretch_at (placed_behind gap u) start₀) n₀
    unwritten-behind k few = record {
      whole = standing-whole p.measured stands-there f₀.whole;
      lengths = standing-lengths p.measured stands-there f₀.whole inside₀;
      apart = inr (let low = p.measured.gapped.lies.low in let high = p.measured.gapped.lies.high in let e = stretch-behind in let z = inside₀ in (omega arith, omega arith));
    }

-- ---- the same, the gap being behind the words of u

module _ {g : Signature} {side ws : List ℕ} {gap : Gap} {u : Subterm} {c : Stretches} (p : Puttable g side ws gap u c) (stand : u.at + u.width ≡ gap.front)
    (v : ℕ) (member : Member (variable + v) side) where
  abbrev f : Filled g (term_in ws gap) u c v
  f = p.filled v member

  abbrev start : ℕ
  start = get_or c.starts v 0

  abbrev n : ℕ
  n = get_or c.lengths v 0

  inside : u.at + start + n ≤ words_in gap
  inside = inside₀ p v member

  -- among the words of u, or behind them
  either : ((start < u.width) × (start + n ≤ u.width)) ⊎ (u.width ≤ start)
  either = elim (dec_lt start u.width) [
    | yes h ↦ elim f.parted [
      | inl k ↦ inl (h, k)
      | inr k ↦ absurd (omega arith)
    ]
    | no h ↦ inr (omega arith)
  ]

  -- in place
  stands : Standing ws gap (stretch_at (placed gap u) start) (u.at + start) n
  stands = elim either [
    | inl h ↦
        let l : u.at + start + n ≤ gap.front = (let z = h.1 in omega arith) in
        subst (λ i. Standing ws gap i (u.at + start) n) (sym (stretch-before (placed gap u) start h.0))
        (stands-before p.measured.gapped (u.at + start) n l)
    | inr h ↦
        let e : u.at + start + gap_size gap ≡ u.at + gap_size gap + start = omega arith in
        subst (λ i. Standing ws gap i (u.at + start) n) (e ∙ sym (stretch-later (placed gap u) start h))
        (stands-behind p.measured.gapped (u.at + start) n (omega arith) inside)
  ]

  pub read-placed : stretch ws c (placed gap u) v ≡ filling (term_in ws gap) u c v
  read-placed = stands.words

  pub unwritten : (k : ℕ) → k ≤ gap_size gap → Unwritten g ws (gap.back - k) gap.back (stretch_at (placed gap u) start) n
  unwritten k few = record {
    whole = standing-whole p.measured stands f.whole;
    lengths = standing-lengths p.measured stands f.whole inside;
    apart = elim either [
      | inl h ↦ inl (let z = h.1 in let e = stretch-before (placed gap u) start h.0 in let low = p.measured.gapped.lies.low in omega arith)
      | inr h ↦
          let e = stretch-later (placed gap u) start h in
          let low = p.measured.gapped.lies.low in
          let high = p.measured.gapped.lies.high in
          let z = inside in
          inr (omega arith, omega arith)
    ];
  }

  -- behind the counts
  abbrev ws₁ : List ℕ
  ws₁ = over ws (counts_at + u.level) (part u.at u.width ws)

  pub read-removed : stretch ws₁ c (words_away gap u) v ≡ filling (term_in ws gap) u c v
  read-removed =
      let low = p.measured.gapped.lies.low in
      let high = p.measured.gapped.lies.high in
      let total = p.total in
      let around = p.around in
      elim either [
        | inl h ↦
            let k = h.1 in
            let l : u.at + start + n ≤ gap.front = omega arith in
            let long : length (part u.at u.width ws) ≡ u.width = length_part u.at u.width ws (omega arith) in
            ap (λ i. part i n ws₁) (stretch-before (words_away gap u) start h.0)
            ∙ over-read ws (counts_at + u.level) (part u.at u.width ws) start n (omega arith) (omega arith)
            ∙ part-part ws u.at u.width start n k
            ∙ (stands-before p.measured.gapped (u.at + start) n l).words
        | inr h ↦
            let z = inside in
            let e : u.at + gap_size gap + start ≡ u.at + start + gap_size gap = omega arith in
            ap (λ i. part i n ws₁) (stretch-later (words_away gap u) start h ∙ e)
            ∙ part-below (u.at + start + gap_size gap) n ws (counts_at + u.level) (part u.at u.width ws) (omega arith)
            ∙ (stands-behind p.measured.gapped (u.at + start) n (omega arith) inside).words
      ]

  pub beyond-removed : Beyond ws₁ gap.back (stretch_at (words_away gap u) start) n
  beyond-removed =
      let low = p.measured.gapped.lies.low in
      let high = p.measured.gapped.lies.high in
      let total = p.total in
      let around = p.around in
      let z = inside in
      let long : length ws₁ ≡ length ws = length-sets ws (counts_at + u.level) (part u.at u.width ws) in
      elim either [
        | inl h ↦ let k = h.1 in let e = stretch-before (words_away gap u) start h.0 in record { later = omega arith; fits = omega arith }
        | inr h ↦ let e = stretch-later (words_away gap u) start h in record { later = omega arith; fits = omega arith }
      ]

  -- ---- their lengths

  pub beyond-lengths : (ws' : List ℕ) → length ws' ≡ length ws → Beyond ws' (term_words + gap.back) (stretch_at (lengths_away gap u) start) n
  beyond-lengths ws' long =
      let low = p.measured.gapped.lies.low in
      let high = p.measured.gapped.lies.high in
      let total = p.total in
      let around = p.around in
      let z = inside in
      elim either [
        | inl h ↦ let k = h.1 in let e = stretch-before (lengths_away gap u) start h.0 in record { later = omega arith; fits = omega arith }
        | inr h ↦ let e = stretch-later (lengths_away gap u) start h in record { later = omega arith; fits = omega arith }
      ]

  -- read where the lengths of u are set aside, whatever words are written before the gap's end
  pub told-lengths : (new : List ℕ) (to : ℕ) → to + length new ≤ gap.back →
      Told g (over (lengths_aside ws u) to new) (stretch_at (lengths_away gap u) start) n (filling (term_in ws gap) u c v)
  told-lengths new to fits =
      let low = p.measured.gapped.lies.low in
      let high = p.measured.gapped.lies.high in
      let total = p.total in
      let around = p.around in
      let z = inside in
      let ls = part (term_words + u.at) u.width ws in
      let long : length ls ≡ u.width = length_part (term_words + u.at) u.width ws (omega arith) in
      let kept : (i : ℕ) → gap.back ≤ i → part i n (over (lengths_aside ws u) to new) ≡ part i n (lengths_aside ws u) =
      λ i l. part-above i n (lengths_aside ws u) to new (omega arith) in
      record {
        whole = f.whole;
        lengths = elim either [
          | inl h ↦
              let k = h.1 in
              let l : u.at + start + n ≤ gap.front = omega arith in
              let e : term_words + u.at + start ≡ term_words + (u.at + start) = omega arith in
              ap (λ i. part i n (over (lengths_aside ws u) to new)) (stretch-before (lengths_away gap u) start h.0)
              ∙ kept (counts_at + u.level + start) (omega arith)
              ∙ over-read ws (counts_at + u.level) ls start n (omega arith) (omega arith)
              ∙ part-part ws (term_words + u.at) u.width start n k ∙ ap (λ i. part i n ws) e
              ∙ standing-told p.measured (stands-before p.measured.gapped (u.at + start) n l) f.whole inside
          | inr h ↦
              let e : term_words + (u.at + gap_size gap) + start ≡ term_words + (u.at + start + gap_size gap) = omega arith in
              ap (λ i. part i n (over (lengths_aside ws u) to new)) (stretch-later (lengths_away gap u) start h ∙ e)
              ∙ kept (term_words + (u.at + start + gap_size gap)) (omega arith)
              ∙ part-below (term_words + (u.at + start + gap_size gap)) n ws (counts_at + u.level) ls (omega arith)
              ∙ standing-told p.measured (stands-behind p.measured.gapped (u.at + start) n (omega arith) inside) f.whole inside
        ];
      }
