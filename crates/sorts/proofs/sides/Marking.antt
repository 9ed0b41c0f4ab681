-- The marks of a side, word by word.
use Prim.Native.Nat.{ℕ, zero, suc, ◌≤◌, ◌<◌}
use native.Mathlib.Nat.{not-suc-le-zero}
use native.Mathlib.Omega.{arith}
use mathlib.Core.Path.{◌≡◌, refl}
use mathlib.Core.List.{List, [], ◌∷◌}
use lib.ListN.{length, get_or, replicate}
use Rattle.system.specs.Limits.{variable, side_words}
use Rattle.system.specs.Signature.{Signature}
use Rattle.sorts.specs.Sorts.{entries, offset}
use Rattle.sorts.specs.sides.Ran.{MarkOf, Narrow}
use Rattle.sorts.specs.declared.sides.Mark.{Mark}
use Rattle.sorts.specs.declared.sides.Mark.TheVariants.{Nothing}

offset-most : (g : Signature) (w : ℕ) → offset g w ≤ entries g
unfolding offset
offset-most [] w = omega arith
offset-most (a ∷ g) zero = omega arith
offset-most (a ∷ g) (suc w) = let z = offset-most g w in omega arith

pub offset_narrow : (g : Signature) → Narrow g → (w : ℕ) → offset g w < variable
offset_narrow g h w = let z = offset-most g w in let z' = h.indices in omega arith

-- ---- the marks of a side, word by word

-- those of the first j words are written
pub record Marking (g : Signature) (ws : List ℕ) (j : ℕ) (marks : List Mark) : Type 0 where
  pub size : length marks ≡ side_words
  pub word : (i : ℕ) → i < j → MarkOf g (get_or ws i 0) (get_or marks i Nothing)
  pub end : (i : ℕ) → j ≤ i → get_or marks i Nothing ≡ Nothing

unwritten : (n i : ℕ) → get_or (replicate n Nothing) i Nothing ≡ Nothing
unwritten zero i = refl
unwritten (suc n) zero = refl
unwritten (suc n) (suc i) = unwritten n i

pub marking-starts : (g : Signature) (ws : List ℕ) → Marking g ws 0 (replicate side_words Nothing)
marking-starts g ws = record { size = refl; word = λ i l. absurd (not-suc-le-zero l); end = λ i l. unwritten side_words i }
