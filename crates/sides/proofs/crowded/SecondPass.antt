-- Lengths put beside the words of a reduct, from its end to its front: where the pass of `crowded::write_lengths` starts and
-- ends, and its turns.
use Prim.Native.Nat.{ℕ, ◌+◌, ◌-◌, ◌≤◌, ◌<◌}
use native.Mathlib.Omega.{arith}
use mathlib.Core.Path.{◌≡◌, refl, sym, ap, ◌∙◌, subst, subst₂}
use mathlib.Core.List.{List, ◌++◌}
use lib.ListN.{length, get_or, take, drop, take-append-drop}
use lib.Seq.{take_at, drop_at}
use Rattle.buffers.specs.Words.{over}
use Rattle.buffers.specs.moves.Parts.{part}
use Rattle.buffers.proofs.Over.{length_part}
use Rattle.system.specs.Limits.{variable, term_words}
use Rattle.system.specs.Signature.{Signature}
use Rattle.system.specs.Spans.{spans}
use Rattle.system.specs.System.{instance}
use Rattle.system.specs.Terms.{Member}
use Rattle.system.proofs.Members.{member-front}
use Rattle.system.proofs.Spans.{spans-length}
use Rattle.rows.specs.Rows.{counts_at}
use Rattle.rows.specs.gap.Gaps.{behind}
use Rattle.rows.specs.Measured.{Measured}
use Rattle.rows.specs.lengths.Lengthened.{Lengthened}
use Rattle.rows.proofs.lengths.Lengthens.{lengthened-none, lengthened-total, lengthened-words, lengthened-kept, lengthened-then, lengthened-measured, lengthened-copy}
use Rattle.matching.specs.rules.Searches.{reduct_length}
use Rattle.matching.proofs.Matched.{instance-variable}
use Rattle.matching.proofs.Words.{instance-append}
use Rattle.sides.specs.passes.Tasks.{Task, AtSymbol, AtVariable}
use Rattle.sides.specs.writing.Reduct.{stretch_at}
use Rattle.sides.specs.crowded.Passes.{Beyond, Told, Lengthable}
use Rattle.sides.specs.crowded.Rows.{Lengthening}
use Rattle.sides.proofs.Overs.{part-part}
use Rattle.sides.proofs.Counted.{instance-counted}
use Rattle.sides.proofs.passes.Lefts.{left-starts, left-parts, left-named, left-member, symbol-room, left-symbol}
use Rattle.sides.proofs.passes.Lefts.{variable-left, variable-room, left-variable}

pub lengthening-starts : (g : Signature) (t : Task) → Lengthable g t.side t.area t.back t.stretches t.source → Lengthening g t t.side t.area t.back
lengthening-starts g t asked = record { asked = asked; left = left-starts t; lengthened = lengthened-none g t.area t.back }

module _ {g : Signature} {t : Task} {rest ws : List ℕ} {to : ℕ} (v : Lengthening g t rest ws to) where
  abbrev room : counts_at ≤ length t.area
  room = v.asked.passable.area

  abbrev high : t.back ≤ term_words
  high = v.asked.passable.high

  -- what fills a variable is as long as is told
  counted : (y : ℕ) → Member (variable + y) t.side → length (v.asked.filled y) ≡ get_or t.stretches.lengths y 0
  counted y m =
      let from = stretch_at t.source (get_or t.stretches.starts y 0) in
      sym (spans-length g (v.asked.filled y)) ∙ ap length (sym (v.asked.told y m).lengths)
      ∙ length_part from (get_or t.stretches.lengths y 0) t.area (v.asked.passable.beyond y m).fits

  pub lengthening-total : length ws ≡ length t.area
  lengthening-total = lengthened-total room high v.lengthened

  pub lengthening-measured : Measured g ws (behind to)
  lengthening-measured = lengthened-measured room high v.lengthened v.asked.measured

  module _ {rest' : List ℕ} where
    module _ {w : ℕ} (k : AtSymbol t rest rest' w) where
      pub lengths-room : 0 < to
      lengths-room = symbol-room v.left k v.asked.passable.room

      pub lengths-symbol : {ws' : List ℕ} {to' : ℕ} → to' + 1 ≡ to → Lengthened g ws to ws' to' → Lengthening g t rest' ws' to'
      lengths-symbol e u = record { asked = v.asked; left = left-symbol v.left k e; lengthened = lengthened-then room high v.lengthened u }

    module _ {f n : ℕ} (k : AtVariable t rest rest' f n) where
      abbrev x : List ℕ
      x = v.asked.filled (k.word - variable)

      abbrev member : Member (variable + (k.word - variable)) t.side
      member = left-member v.left k

      beyond : Beyond t.area (term_words + t.back) f n
      beyond =
          subst₂ (λ x y. Beyond t.area (term_words + t.back) x y) (sym k.start) (sym k.long) (v.asked.passable.beyond (k.word - variable) member)

      told : Told g t.area f n x
      told = subst₂ (λ y z. Told g t.area y z x) (sym k.start) (sym k.long) (v.asked.told (k.word - variable) member)

      -- what fills it stands where its turn comes
      abbrev before : List ℕ
      before = take (length rest') t.side

      abbrev front : List ℕ
      front = instance v.asked.filled before

      abbrev behind-it : List ℕ
      behind-it = instance v.asked.filled (drop (length rest) t.side)

      parts : instance v.asked.filled t.side ≡ front ++ (x ++ behind-it)
      parts =
          ap (instance v.asked.filled) (sym (take-append-drop (length rest') t.side))
          ∙ instance-append v.asked.filled before (drop (length rest') t.side)
          ∙ ap (λ z. front ++ z) (ap (instance v.asked.filled) k.turn.split
          ∙ instance-variable v.asked.filled k.word (k.word - variable) (drop (length rest) t.side) (left-named v.left k))

      front_long : length front ≡ reduct_length t.stretches.lengths before
      front_long =
          instance-counted t.stretches.lengths v.asked.filled before
          (λ y m. counted y (subst (Member (variable + y)) (take-append-drop (length rest') t.side) (member-front (drop (length rest') t.side) m)))

      stands : part (to - n) n t.area ≡ x
      stands =
          let c = reduct_length t.stretches.lengths t.side in
          let r = v.asked.passable.room in
          let y = front_long in
          let p = left-parts v.left rest' in
          let l = v.left.written in
          let a = variable-left v.left k in
          let e : to - n ≡ (t.back - c) + length front = omega arith in
          let long : length x ≡ n = counted (k.word - variable) member ∙ sym k.long in
          ap (λ i. part i n t.area) e ∙ sym (part-part t.area (t.back - c) c (length front) n (omega arith)) ∙ ap (part (length front) n) (v.asked.words ∙ parts)
          ∙ ap (take n) (drop_at front (x ++ behind-it) (length front) refl) ∙ take_at x behind-it n long

      pub lengths-fit : n ≤ to
      lengths-fit = variable-room v.left k v.asked.passable.room

      pub lengths-within : f + n ≤ length ws
      lengths-within = let z = beyond.fits in let y = lengthening-total in omega arith

      pub lengths-variable : {ws' : List ℕ} → ws' ≡ over ws (term_words + (to - n)) (part f n ws) → Lengthening g t rest' ws' (to - n)
      lengths-variable e =
          let r = lengths-fit in
          let l = v.lengthened.before in
          let s = lengthening-total in
          let b = beyond.later in
          let told-there : part f n ws ≡ spans g x = lengthened-kept room high v.lengthened f n (omega arith) ∙ told.lengths in
          let words-there : part (to - n) n ws ≡ x = lengthened-words room high v.lengthened (to - n) n (omega arith) ∙ stands in
          record {
            asked = v.asked;
            left = left-variable v.left k (omega arith);
            lengthened = lengthened-then room high v.lengthened
                (lengthened-copy (omega arith) r (omega arith) told.whole words-there (e ∙ ap (over ws (term_words + (to - n))) told-there));
          }
