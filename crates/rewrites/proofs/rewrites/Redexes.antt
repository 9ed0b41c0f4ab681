-- The redex of a rewrite: the whole subterm there, and what was found at it.
use Prim.Native.Nat.{ℕ, ◌+◌, ◌≤◌, ◌<◌}
use native.Mathlib.Omega.{arith}
use mathlib.Core.Path.{◌≡◌, refl, sym, ap, ◌∙◌, subst}
use mathlib.Core.List.{List, ◌++◌}
use lib.ListN.{length, get_or, take, drop, length-append, length-drop}
use lib.Seq.{drop-drop, drop_at, take_at, length-take-le}
use Rattle.std.specs.Prelude.{Some}
use Rattle.system.specs.Signature.{Signature, Symbol, span}
use Rattle.system.specs.Limits.{term_words, variables}
use Rattle.system.specs.Signature.{signature_of}
use Rattle.system.specs.System.{System}
use Rattle.system.specs.Terms.{WellFormed}
use Rattle.reader.specs.declared.Shape.{Shape}
use Rattle.reader.specs.Book.{system_of, Accepted}
use Rattle.system.proofs.Forests.{span-forest}
use Rattle.layout.proofs.Books.{well, signature}
use Rattle.rows.proofs.lengths.Measures.{words-length}
use Rattle.rows.specs.declared.gap.Gap.{Gap}
use Rattle.rows.specs.Rows.{term_in}
use Rattle.rows.specs.gap.Gaps.{words_in}
use Rattle.rows.specs.Measured.{Measured}
use Rattle.matching.specs.declared.Match.{Match}
use Rattle.redexes.specs.declared.search.Redex.{Redex}
use Rattle.matching.specs.declared.FirstRule.TheVariants.{First}
use Rattle.matching.specs.Bindings.{match_of, value, bindings_of}
use Rattle.matching.proofs.Reducts.{match-within}
use Rattle.reducts.specs.declared.putting.Subterm.{Subterm}
use Rattle.sides.specs.sides.Sides.{stretches_in}
use Rattle.reducts.specs.putting.Replaced.{filling}
use Rattle.rewriting.proofs.Actives.{At, at_parted, whole-at}
use Rattle.rewrites.specs.rewrites.Rewritten.{Reducible}

module _ {book ws : List ℕ} {shape : Shape} {gap : Gap} {u : Subterm} {m : Redex} {bs : List ℕ} (acc : Accepted book shape) (asked : Reducible book ws gap u m bs) where
  abbrev s : System
  s = system_of book

  abbrev g : Signature
  g = s.arities

  abbrev t : List ℕ
  t = term_in ws gap

  abbrev p : ℕ
  p = u.at

  pub formed : WellFormed s
  formed = well book shape acc

  pub measured : Measured (signature_of book) ws gap
  measured = subst (λ y. Measured y ws gap) (signature book shape acc) asked.measured

  -- the whole subterm at p
  pub redex-here : At s (λ _. Unit {0}) t p
  redex-here = whole-at s u.at asked.whole asked.inside

  pub redex-parted : drop p t ≡ redex-here.here ++ redex-here.behind
  redex-parted = at_parted s redex-here

  pub words : length t ≡ words_in gap
  words = words-length asked.measured.gapped

  pub small : words_in gap ≤ term_words
  small = let l = asked.measured.gapped.lies in omega (arith, l.low, l.high)

  pub width-here : u.width ≡ length redex-here.here
  width-here =
      let x = redex-here in
      asked.wide ∙ ap (λ y. span g y 1) redex-parted ∙ span-forest g (Symbol g) x.behind x.whole

  pub inside : p < length t
  inside = asked.inside

  pub ends : p + u.width ≤ length t
  ends =
      let x = redex-here in
      let z = ap length redex-parted in
      let y = length-append x.here x.behind in
      omega (arith, length-drop p t, width-here, inside)

  -- what follows the redex
  pub redex-behind : drop (p + u.width) t ≡ redex-here.behind
  redex-behind =
      let x = redex-here in
      sym (drop-drop u.width p t) ∙ ap (drop u.width) redex-parted ∙ drop_at x.here x.behind u.width (sym width-here)

  -- what was found, in the words of matching
  abbrev pub found : Match
  found = match_of s (drop p t)

  pub found_here : found ≡ match_of s (redex-here.here ++ redex-here.behind)
  found_here = ap (match_of s) redex-parted

  pub starts-many : length (stretches_in bs).starts ≡ variables
  starts-many = length-take-le variables bs (omega (arith, asked.many))

  pub lengths-many : length (stretches_in bs).lengths ≡ variables
  lengths-many = length-drop variables bs ∙ omega (arith, asked.many)

  -- ---- the bindings of a listed rule

  module _ {k rhs size : ℕ} (f : found.rule ≡ Some (First k rhs size)) where
    starts-size : length found.starts ≡ variables
    starts-size = (match-within book shape acc (drop p t) found refl).size-starts

    pub starts-are : (stretches_in bs).starts ≡ found.starts
    starts-are = ap (take variables) (asked.bound k rhs size f) ∙ take_at found.starts found.lengths variables starts-size

    pub lengths-are : (stretches_in bs).lengths ≡ found.lengths
    lengths-are = ap (drop variables) (asked.bound k rhs size f) ∙ drop_at found.starts found.lengths variables starts-size

    -- what a variable stands for, in the term and in the redex
    pub filling-is : (v : ℕ) → filling t u (stretches_in bs) v ≡ value (redex-here.here ++ redex-here.behind) (bindings_of found) v
    unfolding value
    filling-is v =
        (λ i. take (get_or (lengths-are i) v 0) (drop (p + get_or (starts-are i) v 0) t))
        ∙ ap (take (get_or found.lengths v 0)) (sym (drop-drop (get_or found.starts v 0) p t) ∙ ap (drop (get_or found.starts v 0)) redex-parted)
