-- Trying the rules at the innermost level: what the first rule that matches the subterm at its position tells.
use Prim.Native.Nat.{ℕ}
use mathlib.Core.Path.{◌≡◌, sym, ap, ◌∙◌, subst}
use mathlib.Core.Option.{none, some}
use mathlib.Core.List.{List}
use lib.ListN.{get_or, drop}
use Rattle.reader.specs.declared.Shape.{Shape}
use Rattle.system.specs.System.{System}
use Rattle.reader.specs.Book.{system_of, Accepted}
use Rattle.rows.specs.declared.gap.Gap.{Gap}
use Rattle.rows.specs.Rows.{term_in}
use Rattle.redexes.specs.declared.search.Redex.{Redex}
use Rattle.std.specs.Prelude.{Some, None}
use Rattle.matching.specs.Matching.{Contraction, contraction}
use Rattle.matching.specs.Bindings.{match_of}
use Rattle.redexes.specs.search.Redexes.{redex_of, Bound}
use Rattle.redexes.proofs.search.Found.{redex-none, redex-some}
use Rattle.rewriting.specs.Machine.{position}
use Rattle.machine.specs.advance.Area.{outer_in, Tracks}
use Rattle.machine.proofs.advance.Bounds.{spot}

module _ (b : List ℕ) (sh : Shape) (acc : Accepted b sh) (ws positions : List ℕ) (gap : Gap) (base level : ℕ) (v : Tracks (system_of b) ws positions gap base level) where
  abbrev s : System
  s = system_of b

  abbrev p : ℕ
  p = get_or positions level 0

  abbrev subterm : List ℕ
  subterm = drop (position s (term_in ws gap) (outer_in ws level) base) (term_in ws gap)

  -- the subterm that the rules are tried on
  front : drop p (term_in ws gap) ≡ subterm
  front = ap (λ y. drop y (term_in ws gap)) (spot b sh acc ws positions gap base level v)

  pub tried-bound : (bs : List ℕ) → Bound (match_of s (drop p (term_in ws gap))) bs → Bound (match_of s subterm) bs
  tried-bound bs h = subst (λ y. Bound (match_of s y) bs) front h

  pub tried-none : redex_of s (drop p (term_in ws gap)) ≡ None → contraction s subterm ≡ none
  tried-none is = redex-none b sh acc subterm (sym (ap (redex_of s) front) ∙ is)

  -- one matches, listed or built in
  module _ {m : Redex} (is : redex_of s (drop p (term_in ws gap)) ≡ Some m) where
    pub tried-match : redex_of s subterm ≡ Some m
    tried-match = sym (ap (redex_of s) front) ∙ is

    pub tried-some : (x : Contraction) × (contraction s subterm ≡ some x)
    tried-some = redex-some b sh acc subterm tried-match
