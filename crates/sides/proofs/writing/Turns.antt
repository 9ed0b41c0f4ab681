-- Writing a reduct from its end to its front: where the pass of `writing::write_reduct` starts and ends, and its turns.
use Prim.Native.Nat.{ℕ, ◌+◌, ◌-◌, ◌≤◌, ◌<◌}
use native.Mathlib.Omega.{arith}
use mathlib.Core.Path.{◌≡◌, sym, ap, ◌∙◌, subst, subst₂}
use mathlib.Core.List.{List, [], ◌∷◌, ◌++◌}
use lib.ListN.{length, drop}
use lib.Seq.{drop-length}
use Rattle.buffers.specs.moves.Parts.{part}
use Rattle.system.specs.Limits.{variable, term_words}
use Rattle.system.specs.Signature.{Signature}
use Rattle.system.specs.System.{instance}
use Rattle.rows.specs.declared.gap.Gap.{Gap}
use Rattle.rows.specs.lengths.Later.{MeasuredFrom}
use Rattle.rows.specs.lengths.Written.{Written, Copyable}
use Rattle.rows.proofs.lengths.Writes.{written_none, written_then}
use Rattle.matching.specs.rules.Searches.{reduct_length}
use Rattle.matching.proofs.Matched.{instance-nil, instance-symbol, instance-variable}
use Rattle.sides.specs.writing.Reduct.{stretch, Unwritten, Writable}
use Rattle.sides.specs.writing.Both.{Writing}
use Rattle.sides.specs.passes.Tasks.{Task, AtSymbol, AtVariable}
use Rattle.sides.proofs.writing.Kept.{unwritten-within, unwritten-words, unwritten-copyable, unwritten-length}
use Rattle.sides.proofs.passes.Lefts.{left-starts, left-named, left-member, symbol-room, left-symbol, variable-room, variable-down, left-variable}

abbrev σ : Task → ℕ → List ℕ
σ t = stretch t.area t.stretches t.source

pub writing-starts : {g : Signature} (gap : Gap) (t : Task) → t.back ≡ gap.front → Writable g t.side t.area gap t.stretches t.source →
    Writing g gap t t.side t.area t.back
writing-starts {g} gap t e asked =
    let nothing : [] ≡ instance (σ t) (drop (length t.side) t.side) = sym (ap (instance (σ t)) (drop-length t.side) ∙ instance-nil (σ t)) in
    record {
      asked = asked;
      back = e;
      left = left-starts t;
      written = subst (Written g t.area gap t.back t.area t.back) nothing
          (written_none (record { measured = subst (λ b. MeasuredFrom g t.area gap b) (sym e) asked.measured; before = omega arith }));
    }

module _ {g : Signature} {gap : Gap} {t : Task} {rest ws : List ℕ} {to : ℕ} (v : Writing g gap t rest ws to) where
  -- no word before this one is written
  abbrev low : ℕ
  low = gap.front - reduct_length t.stretches.lengths t.side

  room : reduct_length t.stretches.lengths t.side ≤ t.back
  room = let r = v.asked.room in let b = v.back in omega arith

  module _ {rest' : List ℕ} where
    module _ {w : ℕ} (k : AtSymbol t rest rest' w) where
      pub writes-room : 0 < to
      writes-room = symbol-room v.left k room

      pub writes-symbol : {ws' : List ℕ} {to' : ℕ} → Written g ws gap to ws' to' (w ∷ []) → Writing g gap t rest' ws' to'
      writes-symbol {ws'} {to'} u = record {
        asked = v.asked;
        back = v.back;
        left = left-symbol v.left k u.size;
        written = subst (Written g t.area gap t.back ws' to')
            (sym (ap (instance (σ t)) k.turn.split ∙ instance-symbol (σ t) w (drop (length rest) t.side) k.symbol)) (written_then v.written u);
      }

    module _ {f n : ℕ} (k : AtVariable t rest rest' f n) where
      down : low ≤ to
      down = let z = variable-down v.left k in let b = v.back in omega arith

      stays : Unwritten g t.area low t.back f n
      stays =
          subst (λ b. Unwritten g t.area low b f n) (sym v.back)
          (subst₂ (λ x y. Unwritten g t.area low gap.front x y) (sym k.start) (sym k.long) (v.asked.stays (k.word - variable) (left-member v.left k)))

      pub variable-fits : n ≤ to
      variable-fits = variable-room v.left k room

      pub variable-within : f + n ≤ term_words
      variable-within = unwritten-within v.asked.measured.gapped v.written f n low down stays

      pub variable-copyable : Copyable g ws gap to f n
      variable-copyable = unwritten-copyable v.asked.measured.gapped v.written f n low down stays

      pub writes-variable : {ws' : List ℕ} {to' : ℕ} → Written g ws gap to ws' to' (part f n ws) → Writing g gap t rest' ws' to'
      writes-variable {ws'} {to'} u =
          let s = drop (length rest) t.side in
          let there : part f n t.area ≡ σ t (k.word - variable) = (λ i. part (k.start i) (k.long i) t.area) in
          let e : part f n ws ≡ σ t (k.word - variable) = unwritten-words v.asked.measured.gapped v.written f n low down stays ∙ there in
          let q = ap (instance (σ t)) k.turn.split ∙ instance-variable (σ t) k.word (k.word - variable) s (left-named v.left k) in
          let y = unwritten-length v.asked.measured.gapped v.written f n low down stays in
          record {
            asked = v.asked;
            back = v.back;
            left = left-variable v.left k (let z = u.size in omega arith);
            written = subst (Written g t.area gap t.back ws' to') (ap (λ z. z ++ instance (σ t) s) e ∙ sym q) (written_then v.written u);
          }
