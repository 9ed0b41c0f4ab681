-- How the test by weights ends for an accepted book.
use Prim.Native.Nat.{ℕ}
use mathlib.Core.Path.{◌≡◌, sym, ap, ◌∙◌}
use mathlib.Core.Bool.{Bool, true, false}
use mathlib.Core.List.{List}
use lib.ListN.{length}
use lib.Dec.{eqb}
use Rattle.reader.specs.declared.Shape.{Shape}
use Rattle.reader.specs.Book.{system_of, Accepted}
use Rattle.system.proofs.BuiltIns.{both}
use Rattle.layout.proofs.Books.{symbol-count, signature}
use Rattle.termination.specs.Weights.{Weights}
use Rattle.termination.specs.WeightTest.{weighs, in_range, first_rising, fall_answer, misweighed_answer, weights_answer}
use Rattle.termination.proofs.Tests.{weights-misweighed, weights-tested}

module _ {b : List ℕ} {sh : Shape} (acc : Accepted b sh) (m : Weights) {x : Bool} (found : x ≡ weighs m sh.symbols) where
  count : sh.symbols ≡ length (system_of b).arities
  count = symbol-count b sh acc ∙ ap length (sym (signature b sh acc))

  listed : {y : Bool} → x ≡ y → weighs m (length (system_of b).arities) ≡ y
  listed q = ap (weighs m) (sym count) ∙ sym found ∙ q

  pub book-unweighed : x ≡ false → misweighed_answer ≡ weights_answer b m
  book-unweighed q = sym (weights-misweighed b m acc.accepted (listed q))

  pub weighed-range : x ≡ true → in_range m ≡ true
  unfolding weighs
  weighed-range q = (both (eqb (length m) (length (system_of b).arities)) (in_range m) (listed q)).1

  pub book-weighed : x ≡ true → fall_answer (first_rising m (system_of b)) ≡ weights_answer b m
  book-weighed q = sym (weights-tested b m acc.accepted (listed q))
