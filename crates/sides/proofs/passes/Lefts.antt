-- How many words are written of a side, filled, from its end to its front: a turn.
use Prim.Native.Nat.{ℕ, ◌+◌, ◌-◌, ◌≤◌, ◌<◌}
use native.Mathlib.Omega.{arith}
use mathlib.Core.Path.{◌≡◌, sym, ap, ◌∙◌, subst}
use mathlib.Core.List.{List}
use lib.ListN.{length, take, drop, take-append-drop}
use lib.Seq.{drop-length}
use Rattle.buffers.proofs.Fronts.{front-all, turn-inside, turn-read}
use Rattle.system.specs.Limits.{variable}
use Rattle.system.specs.Terms.{Member}
use Rattle.system.proofs.Members.{member-get_or}
use Rattle.matching.specs.rules.Searches.{reduct_length}
use Rattle.matching.proofs.Placed.{reduct-append}
use Rattle.sides.specs.passes.Tasks.{Task, AtSymbol, AtVariable, Left}
use Rattle.sides.proofs.Counted.{count_none, count-symbol, count-variable}

module _ (t : Task) where
  abbrev counted : List ℕ → ℕ
  counted = reduct_length t.stretches.lengths

  pub left-starts : Left t t.side t.back
  left-starts = record {
    front = front-all t.side;
    written = let z = ap counted (drop-length t.side) ∙ count_none t.stretches.lengths in omega arith;
  }

module _ {t : Task} {rest : List ℕ} {to : ℕ} (v : Left t rest to) where
  abbrev done : List ℕ
  done = drop (length rest) t.side

  -- the words before a word of the side and those from it on
  pub left-parts : (rest' : List ℕ) → counted t t.side ≡ counted t (take (length rest') t.side) + counted t (drop (length rest') t.side)
  left-parts rest' =
      let n = length rest' in
      ap (counted t) (sym (take-append-drop n t.side)) ∙ reduct-append t.stretches.lengths (take n t.side) (drop n t.side)

  module _ {rest' : List ℕ} where
    -- ---- a symbol

    module _ {w : ℕ} (k : AtSymbol t rest rest' w) where
      symbol-left : counted t (drop (length rest') t.side) ≡ 1 + counted t done
      symbol-left = ap (counted t) k.turn.split ∙ count-symbol t.stretches.lengths w done k.symbol

      pub symbol-room : counted t t.side ≤ t.back → 0 < to
      symbol-room r = let a = symbol-left in let b = left-parts rest' in let l = v.written in omega arith

      pub left-symbol : {to' : ℕ} → to' + 1 ≡ to → Left t rest' to'
      left-symbol e = record { front = k.turn.next; written = let a = symbol-left in let l = v.written in omega arith }

    -- ---- a variable

    module _ {from n : ℕ} (k : AtVariable t rest rest' from n) where
      pub left-named : k.word ≡ variable + (k.word - variable)
      left-named = let h = k.named in omega arith

      pub left-member : Member (variable + (k.word - variable)) t.side
      left-member =
          subst (λ x. Member x t.side) (turn-read v.front k.turn 0 ∙ left-named) (member-get_or t.side (length rest') (turn-inside v.front k.turn))

      pub variable-left : counted t (drop (length rest') t.side) ≡ n + counted t done
      variable-left = let l = k.long in let a = ap (counted t) k.turn.split ∙ count-variable t.stretches.lengths k.word done k.named in omega arith

      pub variable-room : counted t t.side ≤ t.back → n ≤ to
      variable-room r = let a = variable-left in let b = left-parts rest' in let l = v.written in omega arith

      pub variable-down : t.back - counted t t.side ≤ to
      variable-down = let a = variable-left in let b = left-parts rest' in let l = v.written in omega arith

      pub left-variable : {to' : ℕ} → to' + n ≡ to → Left t rest' to'
      left-variable e = record { front = k.turn.next; written = let a = variable-left in let l = v.written in omega arith }
