-- The words of a reduct, written from its end to its front: where the pass of `crowded::write_words` starts and ends, and its turns.
use Prim.Native.Nat.{ℕ, ◌+◌, ◌-◌, ◌≤◌, ◌<◌}
use native.Mathlib.Omega.{arith}
use mathlib.Core.Path.{◌≡◌, refl, sym, ap, ◌∙◌}
use mathlib.Core.List.{List, [], ◌∷◌, ◌++◌}
use lib.ListN.{length, drop, set, length-append}
use lib.Seq.{length-sets, drop-length}
use Rattle.buffers.specs.Words.{over}
use Rattle.buffers.specs.moves.Parts.{part}
use Rattle.buffers.proofs.Over.{length_part, part-above}
use Rattle.system.specs.Limits.{variable, term_words}
use Rattle.system.specs.System.{instance}
use Rattle.rows.specs.Rows.{counts_at}
use Rattle.rows.proofs.lengths.Lengthens.{over-before}
use Rattle.matching.specs.rules.Searches.{reduct_length}
use Rattle.matching.proofs.Matched.{instance-nil, instance-symbol, instance-variable}
use Rattle.sides.specs.writing.Reduct.{stretch, reduct}
use Rattle.sides.specs.passes.Tasks.{Task, AtSymbol, AtVariable, Left}
use Rattle.sides.specs.crowded.Passes.{Beyond, Passable}
use Rattle.sides.specs.crowded.Rows.{Wording, done}
use Rattle.sides.proofs.passes.Lefts.{left-starts, left-named, left-member, symbol-room, left-symbol, variable-room, left-variable}

abbrev σ : Task → ℕ → List ℕ
σ t = stretch t.area t.stretches t.source

pub wording-starts : (t : Task) → Passable t.side t.area t.back t.back t.stretches t.source → Wording t t.side t.area t.back
wording-starts t asked =
    let e : done t t.side ≡ [] = ap (instance (σ t)) (drop-length t.side) ∙ instance-nil (σ t) in
    record { asked = asked; left = left-starts t; size = let z = ap length e in omega arith; area = sym (ap (over t.area t.back) e) }

pub wording-ends : {t : Task} {ws : List ℕ} {to : ℕ} → Wording t [] ws to →
    ws ≡ over t.area (t.back - reduct_length t.stretches.lengths t.side) (reduct t.side t.stretches t.source t.area)
wording-ends {t} {ws} {to} v =
    let l : to ≡ t.back - reduct_length t.stretches.lengths t.side = (let z = v.left.written in omega arith) in
    v.area ∙ ap (λ i. over t.area i (reduct t.side t.stretches t.source t.area)) l

module _ {t : Task} {rest ws : List ℕ} {to : ℕ} (v : Wording t rest ws to) where
  -- all of it stands in the first row
  pub wording-high : (to ≤ term_words) × (counts_at ≤ length ws)
  wording-high =
      let h = v.asked.high in
      let r = v.asked.area in
      let s = v.size in
      let e = ap length v.area ∙ length-sets t.area to (done t rest) in
      (omega arith, omega arith)

  module _ {rest' : List ℕ} where
    -- words put right before those that are written
    next : (xs : List ℕ) {to' : ℕ} → to' + length xs ≡ to → Left t rest' to' → xs ++ done t rest ≡ done t rest' →
        {ws' : List ℕ} → ws' ≡ over ws to' xs → Wording t rest' ws' to'
    next xs {to'} s l q e = record {
      asked = v.asked;
      left = l;
      size = let z = v.size in let y = ap length q in let x = length-append xs (done t rest) in omega arith;
      area = e ∙ ap (λ z. over z to' xs) v.area ∙ over-before t.area to' xs to (done t rest) s ∙ ap (over t.area to') q;
    }

    module _ {w : ℕ} (k : AtSymbol t rest rest' w) where
      pub words-room : 0 < to
      words-room = symbol-room v.left k v.asked.room

      pub words-symbol : Wording t rest' (set ws (to - 1) w) (to - 1)
      words-symbol =
          let r = words-room in
          let e : (to - 1) + 1 ≡ to = omega arith in
          next (w ∷ []) e (left-symbol v.left k e) (sym (ap (instance (σ t)) k.turn.split ∙ instance-symbol (σ t) w (drop (length rest) t.side) k.symbol)) refl

    module _ {f n : ℕ} (k : AtVariable t rest rest' f n) where
      -- where the stretch stands, and how long it is
      beyond : Beyond t.area t.back f n
      beyond = let s = k.start in let l = k.long in let b = v.asked.beyond (k.word - variable) (left-member v.left k) in
          let a = b.later in let z = b.fits in record { later = omega arith; fits = omega arith }

      pub words-fit : n ≤ to
      words-fit = variable-room v.left k v.asked.room

      pub words-within : f + n ≤ length ws
      words-within = let z = beyond.fits in let y = ap length v.area ∙ length-sets t.area to (done t rest) in omega arith

      pub words-variable : {ws' : List ℕ} → ws' ≡ over ws (to - n) (part f n ws) → Wording t rest' ws' (to - n)
      words-variable e =
          let r = words-fit in
          let b = beyond.later in
          let s = v.size in
          let there : part f n t.area ≡ σ t (k.word - variable) = (λ i. part (k.start i) (k.long i) t.area) in
          let x : part f n ws ≡ σ t (k.word - variable) =
          ap (part f n) v.area ∙ part-above f n t.area to (done t rest) (omega arith) ∙ there in
          let y : length (σ t (k.word - variable)) ≡ n = ap length (sym there) ∙ length_part f n t.area beyond.fits in
          let q = ap (instance (σ t)) k.turn.split
          ∙ instance-variable (σ t) k.word (k.word - variable) (drop (length rest) t.side) (left-named v.left k) in
          next (σ t (k.word - variable)) (omega arith) (left-variable v.left k (omega arith)) (sym q) (e ∙ ap (over ws (to - n)) x)
