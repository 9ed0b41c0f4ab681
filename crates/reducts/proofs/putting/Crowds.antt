-- The reduct has no room beside the words of u: it is written row by row, the words of u and then their lengths being set aside behind the counts.
use Prim.Native.Nat.{ℕ, ◌+◌, ◌-◌}
use native.Mathlib.Omega.{arith}
use mathlib.Core.Path.{◌≡◌, sym, ap, ◌∙◌, subst}
use mathlib.Core.List.{List}
use lib.ListN.{length, get_or, take, drop}
use lib.Seq.{length-sets, take_at}
use Rattle.buffers.specs.Words.{over}
use Rattle.buffers.specs.moves.Parts.{part}
use Rattle.buffers.proofs.Over.{length_part, take-over, part-below, part-above}
use Rattle.system.specs.Limits.{term_words}
use Rattle.system.specs.Signature.{Signature}
use Rattle.system.specs.System.{instance}
use Rattle.rows.specs.declared.gap.Gap.{Gap}
use Rattle.rows.specs.Rows.{counts_at, term_in}
use Rattle.rows.specs.gap.Gaps.{behind, even}
use Rattle.rows.specs.Measured.{Measured}
use Rattle.rows.specs.lengths.Written.{Written}
use Rattle.rows.specs.lengths.Lengthened.{Lengthened}
use Rattle.rows.proofs.lengths.Measures.{measured-behind, measured-counts}
use Rattle.rows.proofs.lengths.Writes.{over-behind}
use Rattle.rows.proofs.lengths.Lengthens.{measured-over, written-lengthened}
use Rattle.matching.specs.rules.Searches.{reduct_length}
use Rattle.sides.specs.sides.Sides.{Stretches}
use Rattle.reducts.specs.declared.putting.Subterm.{Subterm}
use Rattle.sides.specs.writing.Reduct.{stretch_at, stretch, reduct}
use Rattle.sides.specs.crowded.Passes.{Beyond, Passable, Told, Lengthable}
use Rattle.reducts.specs.putting.Replaced.{filling, Puttable, Crowdable, lengths_aside}
use Rattle.sides.proofs.Overs.{over-aside}
use Rattle.reducts.proofs.putting.Asides.{words_away, lengths_away}
use Rattle.reducts.proofs.putting.Sources.{read-removed, beyond-removed, beyond-lengths, told-lengths}
use Rattle.reducts.proofs.putting.Writables.{same-filled, reduct-counted}

module _ {g : Signature} {side ws : List ℕ} {gap : Gap} {u : Subterm} {c : Stretches} (q : Crowdable g side ws gap u c) where
  abbrev p : Puttable g side ws gap u c
  p = q.puttable

  abbrev k : ℕ
  k = reduct_length c.lengths side

  abbrev new : List ℕ
  new = instance (filling (term_in ws gap) u c) side

  abbrev base : ℕ
  base = counts_at + u.level

  -- where the reduct will start
  abbrev to : ℕ
  to = gap.back - k

  size : to + length new ≡ gap.back
  size = let z = reduct-counted p in let r = q.room in omega arith

  module _ {ws₁ : List ℕ} (e₁ : ws₁ ≡ over ws base (part u.at u.width ws)) where
    -- ---- the first pass

    pub first-passable : Passable side ws₁ gap.back gap.back c (words_away gap u)
    first-passable =
        let low = p.measured.gapped.lies.low in
        let high = p.measured.gapped.lies.high in
        let around = p.around in
        let total = p.total in
        let long = ap length e₁ ∙ length-sets ws base (part u.at u.width ws) in
        record {
          area = omega arith;
          sided = p.sided;
          starts = p.starts;
          lengths = p.lengths;
          based = omega arith;
          later = omega arith;
          high = high;
          room = q.room;
          beyond = λ v m.
              subst (λ z. Beyond z gap.back (stretch_at (words_away gap u) (get_or c.starts v 0)) (get_or c.lengths v 0)) (sym e₁)
              (beyond-removed p q.stand v m);
        }

    module _ {ws₂ : List ℕ} (e₂ : ws₂ ≡ over ws₁ to (reduct side c (words_away gap u) ws₁)) where
      -- the words of the reduct stand there
      filled : ws₂ ≡ over (over ws base (part u.at u.width ws)) to new
      filled =
          let same = same-filled p (stretch (over ws base (part u.at u.width ws)) c (words_away gap u)) (λ v m. read-removed p q.stand v m) in
          e₂ ∙ (λ i. over (e₁ i) to (reduct side c (words_away gap u) (e₁ i))) ∙ ap (over (over ws base (part u.at u.width ws)) to) same

      -- and the lengths of u as they did
      whole : part (term_words + u.at) u.width ws₂ ≡ part (term_words + u.at) u.width ws
      whole =
          let high = p.measured.gapped.lies.high in
          let low = p.measured.gapped.lies.low in
          let stand = q.stand in
          let s = size in
          let a = term_words + u.at in
          ap (part a u.width) filled
          ∙ part-above a u.width (over ws base (part u.at u.width ws)) to new (omega arith)
          ∙ part-below a u.width ws base (part u.at u.width ws) (omega arith)

      module _ {ws₃ : List ℕ} (e₃ : ws₃ ≡ over ws₂ base (part (term_words + u.at) u.width ws₂)) where
        -- as if the lengths alone had been set aside
        aside : ws₃ ≡ over (lengths_aside ws u) to new
        aside =
            let high = p.measured.gapped.lies.high in
            let low = p.measured.gapped.lies.low in
            let stand = q.stand in
            let total = p.total in
            let s = size in
            let x = length_part u.at u.width ws (omega arith) in
            let y = length_part (term_words + u.at) u.width ws (omega arith) in
            e₃ ∙ (λ i. over (filled i) base (whole i))
            ∙ over-aside ws to new base (part u.at u.width ws) (part (term_words + u.at) u.width ws) (omega arith) (omega arith)

        abbrev ls : List ℕ
        ls = part (term_words + u.at) u.width ws

        aside-measured : Measured g (lengths_aside ws u) (behind gap.back)
        aside-measured =
            measured-counts ws (lengths_aside ws u) (take-over counts_at ws base ls (omega arith)) (length-sets ws base ls) (measured-behind p.measured)

        aside-total : length ws₃ ≡ length ws
        aside-total = ap length aside ∙ length-sets (lengths_aside ws u) to new ∙ length-sets ws base ls

        stood : part to k (over (lengths_aside ws u) to new) ≡ new
        stood =
            let high = p.measured.gapped.lies.high in
            let total = p.total in
            let s = size in
            let l = length-sets ws base ls in
            ap (take k) (over-behind (lengths_aside ws u) to new (omega arith))
            ∙ take_at new (drop (to + length new) (lengths_aside ws u)) k (reduct-counted p)

        -- ---- the second pass

        pub second-lengthable : Lengthable g side ws₃ gap.back c (lengths_away gap u)
        second-lengthable =
            let low = p.measured.gapped.lies.low in
            let high = p.measured.gapped.lies.high in
            let around = p.around in
            let total = p.total in
            let stand = q.stand in
            let long = aside-total in
            let s = size in
            let n = reduct-counted p in
            let l = length-sets ws base ls in
            record {
              passable = record {
                area = omega arith;
                sided = p.sided;
                starts = p.starts;
                lengths = p.lengths;
                based = omega arith;
                later = omega arith;
                high = high;
                room = q.room;
                beyond = λ v m. beyond-lengths p q.stand v m ws₃ long;
              };
              measured = subst (λ z. Measured g z (behind gap.back)) (sym aside) (measured-over aside-measured to new size);
              filled = filling (term_in ws gap) u c;
              words = ap (part to k) aside ∙ stood;
              told = λ v m.
                  subst (λ z. Told g z (stretch_at (lengths_away gap u) (get_or c.starts v 0)) (get_or c.lengths v 0) (filling (term_in ws gap) u c v)) (sym aside)
                  (told-lengths p q.stand v m new to (omega arith));
            }

        pub crowded-written : {ws₄ : List ℕ} {r : ℕ} → r + k ≡ gap.back → Lengthened g ws₃ gap.back ws₄ r →
            Written g (lengths_aside ws u) (even gap.back) gap.back ws₄ r new
        crowded-written {ws₄} {r} e v =
            let room = q.room in
            let here : r ≡ to = omega arith in
            subst (λ b. Written g (lengths_aside ws u) (even gap.back) gap.back ws₄ b new) (sym here)
            (written-lengthened aside-measured to new size (subst (λ b. Lengthened g (over (lengths_aside ws u) to new) gap.back ws₄ b) here
            (subst (λ z. Lengthened g z gap.back ws₄ r) aside v)))
