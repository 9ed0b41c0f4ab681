-- The walk to any word's position: none is active behind the term, and up and then down leads to each in it that is.
use Prim.Native.Nat.{ℕ, ◌≤◌}
use native.Mathlib.Omega.{arith}
use mathlib.Core.Path.{subst}
use mathlib.Core.List.{List}
use Rattle.reader.specs.declared.book.Book.{Book}
use Rattle.reader.specs.Book.{system_of}
use Rattle.std.specs.Prelude.{Result}
use Rattle.system.specs.System.{System}
use Rattle.system.specs.Terms.{WellFormed}
use Rattle.layout.proofs.Books.{well}
use Rattle.rows.specs.Rows.{term_in}
use Rattle.rows.specs.gap.Gaps.{words_in}
use Rattle.walks.specs.declared.walk.Finger.{Finger}
use Rattle.walks.specs.walk.Way.{Points, Missed, Found}
use Rattle.walks.proofs.Descent.{above-end}
use Rattle.walks.proofs.walk.Pointing.{points-words, points-bounds}

module _ (book : Book) {t ws : List ℕ} {f : Finger} (v : Points (system_of book.words.now) t ws f) where
  abbrev s : System
  s = system_of book.words.now

  wf : WellFormed s
  wf = well book.words.now book.shape book.accepted

  -- none is active behind the term: the finger stays
  pub found-behind : (q : ℕ) → words_in f.gap ≤ q → Missed s t ws q f
  found-behind q h =
      let b = points-bounds s wf v in
      record {
        points = v;
        elsewhere = λ e. omega arith;
        inactive = above-end s wf v.whole q (omega (arith, points-words v));
      }

  -- what was found in the term as the area holds it
  pub found_in : (ws' : List ℕ) (r : Result Finger Finger) (q : ℕ) → Found s (term_in ws f.gap) ws' q r → Found s t ws' q r
  found_in ws' r q = subst (λ y. Found s y ws' q r) v.term
