-- Words written over a list: as they are read there, and written over again.
use Prim.Native.Nat.{ℕ, suc, ◌+◌, ◌≤◌}
use native.Mathlib.Omega.{arith}
use mathlib.Core.Path.{◌≡◌, refl, sym, ap, ◌∙◌}
use mathlib.Core.List.{List, [], ◌∷◌, ◌++◌, append_assoc}
use lib.ListN.{length, take, drop, set, length-drop}
use lib.Seq.{set-set, drop-drop, drop_at, sets-eq, length-take-le, take-append-le, drop-append-le}
use Rattle.buffers.specs.Words.{over}
use Rattle.buffers.specs.moves.Parts.{part}
use Rattle.buffers.proofs.Over.{set-over, over-comm}
use Rattle.rows.proofs.gap.Rows.{part-take}

pub over-read : (l : List ℕ) (i : ℕ) (vs : List ℕ) (s n : ℕ) → i + length vs ≤ length l → s + n ≤ length vs → part (i + s) n (over l i vs) ≡ part s n vs
over-read l i vs s n h k =
    let rest = drop (i + length vs) l in
    ap (take n) (sym (drop-drop s i (over l i vs)))
    ∙ ap (λ z. take n (drop s z)) (ap (drop i) (sets-eq vs l i h ∙ append_assoc (take i l) vs rest) ∙ drop_at (take i l) (vs ++ rest) i (length-take-le i l (omega arith)))
    ∙ ap (take n) (drop-append-le s vs rest (omega arith)) ∙ take-append-le n (drop s vs) rest (let z = length-drop s vs in omega arith)

pub part-part : (l : List ℕ) (a w s n : ℕ) → s + n ≤ w → part s n (part a w l) ≡ part (a + s) n l
part-part l a w s n h = part-take w (drop a l) s n h ∙ ap (take n) (drop-drop s a l)

-- what is written over is gone
pub over-again : (l : List ℕ) (i : ℕ) (xs ys : List ℕ) → length xs ≡ length ys → over (over l i xs) i ys ≡ over l i ys
over-again l i [] [] e = refl
over-again l i [] (y ∷ ys) e = absurd (omega arith)
over-again l i (x ∷ xs) [] e = absurd (omega arith)
over-again l i (x ∷ xs) (y ∷ ys) e =
    ap (λ z. over z (suc i) ys) (set-over (set l i x) (suc i) xs i y (omega arith) ∙ ap (λ z. over z (suc i) xs) (set-set l i x y))
    ∙ over-again (set l i y) (suc i) xs ys (omega arith)

-- also where others were written before it in between
pub over-aside : (l : List ℕ) (i : ℕ) (xs : List ℕ) (j : ℕ) (ys zs : List ℕ) → i + length xs ≤ j → length ys ≡ length zs →
    over (over (over l j ys) i xs) j zs ≡ over (over l j zs) i xs
over-aside l i xs j ys zs h e =
    ap (λ z. over z j zs) (over-comm l i xs j ys h) ∙ over-again (over l i xs) j ys zs e ∙ sym (over-comm l i xs j zs h)
