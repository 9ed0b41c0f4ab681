-- A list read from its end to its front: its turns. Assumes nothing.
use mathlib.Core.Path.{◌≡◌, sym, ap, ◌∙◌}
use mathlib.Core.List.{List, [], ◌∷◌, ◌++◌, append_assoc, append-nil}
use Prim.Native.Nat.{ℕ, ◌≤◌, ◌<◌}
use native.Mathlib.Omega.{arith}
use native.Mathlib.Nat.{add-zero}
use lib.ListN.{length, get_or, drop, length-append}
use lib.Seq.{drop-length, drop-append_seam, get_or-drop}
use Rattle.buffers.specs.moves.Fronts.{Front, Turn}

module _ {A : Type 0} where
  pub front-all : (all : List A) → Front all all
  front-all all = record { whole = rw drop-length (append-nil all) }

  module _ {left all : List A} (v : Front left all) where
    pub front-inside : length left ≤ length all
    front-inside = let e = ap length v.whole in let z = length-append left (drop (length left) all) in omega arith

    -- a turn, in which w is read
    pub front-turn : (left' : List A) (w : A) → left ≡ left' ++ (w ∷ []) → Turn left left' all w
    front-turn left' w e =
        let rest = drop (length left) all in
        let joined : all ≡ left' ++ (w ∷ rest) =
        sym v.whole ∙ ap (λ (z : List A). z ++ rest) e ∙ append_assoc left' (w ∷ []) rest in
        let split : drop (length left') all ≡ w ∷ rest = ap (drop (length left')) joined ∙ drop-append_seam left' (w ∷ rest) in
        record {
          less = let z = ap length e in let y = length-append left' (w ∷ []) in omega arith;
          split = split;
          next = record { whole = ap (λ (z : List A). left' ++ z) split ∙ sym joined };
        }

    module _ {left' : List A} {w : A} (t : Turn left left' all w) where
      pub turn-inside : length left' < length all
      turn-inside = let z = front-inside in let l = t.less in omega arith

      pub turn-read : (d : A) → get_or all (length left') d ≡ w
      turn-read d =
          let i = length left' in
          ap (λ (k : ℕ). get_or all k d) (sym (add-zero i)) ∙ sym (get_or-drop i all 0 d) ∙ ap (λ (z : List A). get_or z 0 d) t.split
