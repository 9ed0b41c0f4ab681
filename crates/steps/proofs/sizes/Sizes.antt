-- The length of the term after a rewrite, by the rule that matches.
use Prim.Native.Nat.{ℕ, ◌+◌, ◌-◌, ◌≤◌}
use native.Mathlib.Omega.{arith}
use mathlib.Core.Path.{◌≡◌, refl, sym, ap, ◌∙◌, subst}
use mathlib.Core.List.{List, [], ◌∷◌, ◌++◌}
use lib.ListN.{length, get_or, drop}
use Rattle.std.specs.Prelude.{Some}
use Rattle.system.specs.System.{System, rule, instance}
use Rattle.reader.specs.declared.Shape.{Shape}
use Rattle.reader.specs.Book.{system_of, Accepted}
use Rattle.system.proofs.Members.{member-get_or}
use Rattle.system.proofs.Places.{replace-length}
use Rattle.rows.specs.declared.gap.Gap.{Gap}
use Rattle.rows.specs.Rows.{term_in}
use Rattle.rows.specs.gap.Gaps.{words_in}
use Rattle.redexes.specs.declared.search.Redex.{Redex}
use Rattle.matching.specs.declared.FirstRule.TheVariants.{First, Computed}
use Rattle.matching.specs.Matching.{Contraction}
use Rattle.matching.specs.Bindings.{value, bindings_of}
use Rattle.matching.specs.rules.Searches.{reduct_length}
use Rattle.matching.proofs.Reducts.{match-word}
use Rattle.matching.proofs.Splits.{side-length, match-fits}
use Rattle.reducts.specs.declared.putting.Subterm.{Subterm}
use Rattle.sides.specs.sides.Sides.{Sided, stretches_in}
use Rattle.sides.proofs.Counted.{count-bound}
use Rattle.rewrites.specs.rewrites.Rewritten.{Contracts, Reducible, rewritten}
use Rattle.rewrites.proofs.rewrites.Redexes.{words, small, width-here, ends, redex-here, found, found_here, lengths-are}
use Rattle.rewrites.proofs.rewrites.Listed.{listed-contracts, right-sided}

module _ {book ws : List ℕ} {shape : Shape} {gap : Gap} {u : Subterm} {m : Redex} {bs : List ℕ} (acc : Accepted book shape) (asked : Reducible book ws gap u m bs) where
  abbrev s : System
  s = system_of book

  abbrev t : List ℕ
  t = term_in ws gap

  -- the words of the redex go, and those of the reduct come
  size_is : (n : ℕ) (x : Contraction) → length x.reduct ≡ n → words_in gap - u.width + n ≡ length (rewritten s ws gap u x)
  size_is n x e =
      let w = asked.wide in
      omega (arith, words acc asked, ends acc asked, replace-length s.arities t x.reduct u.at (omega (arith, ends acc asked)))

  -- a built-in rule
  pub size-built : {k w : ℕ} → (found acc asked).rule ≡ Some (Computed k w) → (x : Contraction) → Contracts book ws gap u x →
      words_in gap - u.width + 1 ≡ length (rewritten s ws gap u x)
  size-built {k} {w} F x c =
      let y = match-word book shape acc (drop u.at t) (found acc asked) refl F in
      let z : record { number = k; reduct = w ∷ [] } ≡ x = cc y in
      size_is 1 x (ap (λ y. length y.reduct) (sym z))

  -- a listed one
  module _ {k rhs size : ℕ} (F : (found acc asked).rule ≡ Some (First k rhs size)) {side : List ℕ} (side-is : side ≡ (rule (system_of book) k).rhs) where
    abbrev right : List ℕ
    right = (rule s k).rhs

    pub size-sided : Sided side
    size-sided = subst Sided (sym side-is) (right-sided acc asked F right (omega arith) (λ j l. member-get_or right j l))

    pub size-listed : (n : ℕ) → n ≡ reduct_length (stretches_in bs).lengths side → (x : Contraction) → Contracts book ws gap u x →
        words_in gap - u.width + n ≡ length (rewritten s ws gap u x)
    size-listed n e x c =
        let h = redex-here acc asked in
        let σ : ℕ → List ℕ = value (h.here ++ h.behind) (bindings_of (found acc asked)) in
        let z : record { number = k; reduct = instance σ right } ≡ x = cc (listed-contracts acc asked F) in
        let l = side-length book shape acc h.behind h.whole (found acc asked) (found_here acc asked) F right in
        size_is n x (ap (λ y. length y.reduct) (sym z) ∙ l ∙ sym (e ∙ (λ i. reduct_length (lengths-are acc asked F i) (side-is i))))

    -- and it can be counted
    pub size-bound : (n : ℕ) → n ≡ reduct_length (stretches_in bs).lengths side → n ≤ 262144
    size-bound n e =
        let h = redex-here acc asked in
        let z = count-bound (stretches_in bs).lengths side (λ v l.
        let f = match-fits book shape acc h.behind h.whole (found acc asked) (found_here acc asked) F v in
        let el = ap (λ y. get_or y v 0) (lengths-are acc asked F) in
        omega (arith, f, el, width-here acc asked, ends acc asked, words acc asked, small acc asked)) in
        omega (arith, size-sided.small)
