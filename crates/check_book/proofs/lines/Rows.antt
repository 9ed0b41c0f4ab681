-- Laws of the lines, in the terms of the code that puts them piece by piece.
use Prim.Native.Nat.{ℕ, zero, suc}
use Prim.Native.String.{String}
use mathlib.Core.Path.{◌≡◌, refl}
use mathlib.Core.List.{List, ◌++◌, append_assoc}
use Rattle.system.specs.declared.Answer.{Answer}
use Rattle.printing.specs.Text.{ascii, line}
use Rattle.check_book.specs.Verdict.{Row, refusal_line, unsettled_row, order_line}
use Rattle.check_book.specs.lines.Rows.{placed}

-- ---- a refusal's line: what and its word, then the place

pub refused : (page : List ℕ) (what : String) (r : Row) (kind : String) (place : ℕ)
    → page ++ ascii what ++ ascii r.word ++ placed (ascii kind) place (ascii r.when) ≡ page ++ refusal_line what r kind place
unfolding placed refusal_line
refused page what r kind place = simp append_assoc

-- the order test
module _ (page : List ℕ) (r : Answer) where
  pub order-passes : r.number ≡ 0 → page ++ line (ascii "order test: taken, every name passes") ≡ page ++ order_line r
  unfolding order_line
  order-passes z = rw z

  pub order-fails : (r.number ≡ 0 → ⊥) →
      page ++ (ascii "order test: " ++ ascii unsettled_row.word) ++ placed (ascii " at name ") r.place (ascii unsettled_row.when) ≡ page ++ order_line r
  unfolding order_line
  order-fails h = go r.number refl
    where
      go : (n : ℕ) → r.number ≡ n →
          page ++ (ascii "order test: " ++ ascii unsettled_row.word) ++ placed (ascii " at name ") r.place (ascii unsettled_row.when) ≡ page ++ order_line r
      go zero z = absurd (h z)
      go (suc n) z = rw (z, ← append_assoc page (ascii "order test: ") (ascii unsettled_row.word)) (refused page "order test: " unsettled_row " at name " r.place)
