-- Each way out of the loop of `machine::advance`: where the machine came to.
use Prim.Native.Nat.{ℕ, suc}
use native.Mathlib.Omega.{arith}
use mathlib.Core.Path.{◌≡◌, sym, ap, ◌∙◌, subst, subst₂}
use mathlib.Core.List.{List, [], ◌∷◌, ◌++◌}
use lib.ListN.{length, get_or, drop, length-append}
use Rattle.system.specs.System.{System}
use Rattle.redexes.specs.declared.search.Redex.{Redex}
use Rattle.std.specs.Prelude.{Some}
use Rattle.reader.specs.Book.{system_of}
use Rattle.matching.specs.Matching.{contraction}
use Rattle.matching.specs.Bindings.{match_of}
use Rattle.redexes.specs.search.Redexes.{redex_of, Bound}
use Rattle.system.specs.Limits as limits
use Rattle.machine.specs.declared.advance.Advanced.{Advanced}
use Rattle.machine.specs.declared.advance.Event.TheVariants.{End, Rules, TooDeep}
use Rattle.machine.specs.declared.advance.Stop.TheVariants.{Final, Deep, Ready}
use Rattle.rewriting.specs.Machine.{position, advance}
use Rattle.rows.specs.declared.gap.Gap.{Gap}
use Rattle.rows.specs.Rows.{term_in}
use Rattle.rows.specs.Measured.{Measured}
use Rattle.machine.specs.advance.Area.{outer_in, count_in, Stands, Valid}
use Rattle.machine.specs.advance.Transition as to
use Rattle.machine.specs.advance.Arrivals.{Arrives, Advances}
use Rattle.machine.proofs.advance.Areas.{tracks-frame}
use Rattle.machine.proofs.advance.Advances.{advance-end, advance-pop, advance-fire, advance-too-deep}
use Rattle.machine.proofs.advance.Trying.{tried-match, tried-bound, tried-some}
use Rattle.machine.proofs.advance.Rounds.{Round}
use Rattle.machine.proofs.advance.Advancing.{told, stands, holds-there, tries-is, tries-held, same-subterm}

module _ (τ : Round) where
  abbrev s : System
  s = system_of τ.book

  abbrev base : ℕ
  base = τ.base

  abbrev gap : Gap
  gap = τ.state.gap

  abbrev t : List ℕ
  t = term_in τ.ws gap

  abbrev outer : List ℕ
  outer = outer_in τ.ws τ.level

  abbrev c : ℕ
  c = count_in τ.ws τ.level

  abbrev Came : Advanced → Type 0
  Came r = Advances s τ.state base τ.ws₀ r τ.ws' τ.frame × Measured s.arities τ.ws' gap

  valid : Valid s t base outer c
  valid = τ.kept.held.represents.valid

  levels : length outer ≡ τ.level
  levels = τ.kept.held.represents.levels

  -- the last words are those that the loop started with, and the lengths are true
  came : (r : Advanced) → Arrives r.stop s τ.state base τ.ws₀ r τ.ws' τ.frame → Came r
  came r h = ((h, τ.performed.kept ∙ τ.kept.kept), τ.performed.stands.measured)

  -- the strategy of the outermost level is at its end
  pub arrives-end : τ.event ≡ End → τ.level ≡ 0 → Came (record { stop = Final; level = τ.level })
  arrives-end e h =
      let x = told τ End e in
      let none-around : outer ≡ [] = ap (λ y. outer_in τ.ws y) h in
      came (record { stop = Final; level = τ.level }) (record {
        next = sym τ.kept.same ∙ advance-pop s t 64 base outer c valid.room x.0 ∙ ap (λ y. advance s 64 y t base) none-around ∙ advance-end s t 64 base;
        stands = subst₂ (Stands s.arities τ.ws' gap) τ.kept.term none-around (stands τ (to.end outer) x.1);
      })

  -- an argument would be opened from level 64
  pub arrives-deep : τ.event ≡ TooDeep → Came (record { stop = Deep; level = τ.level })
  arrives-deep e =
      let x = told τ TooDeep e in
      let l : length (outer ++ c ∷ []) ≡ suc τ.level = rw (length-append outer (c ∷ [])) (omega (arith, levels)) in
      let g = valid.room in
      came (record { stop = Deep; level = τ.level }) (record {
        next = sym τ.kept.same ∙ advance-too-deep s t 64 base outer c valid.room x.1 x.0 x.2 (omega arith);
        represents = (holds-there τ to.too_deep x.4 τ.level l).represents;
        term = (stands τ to.too_deep x.4).term ∙ τ.kept.term;
      })

  -- a rule matches: a rewrite is next
  module _ (e : τ.event ≡ Rules) {m : Redex} (is : redex_of s (drop (get_or τ.positions' τ.level 0) (term_in τ.ws' gap)) ≡ Some m) where
    -- the subterm, in the term that the loop started with
    subterm-is : drop (position s (term_in τ.ws' gap) (outer_in τ.ws' τ.level) base) (term_in τ.ws' gap)
        ≡ drop (position s (term_in τ.ws₀ gap) outer base) (term_in τ.ws₀ gap)
    subterm-is = same-subterm τ e ∙ (λ j. drop (position s (τ.kept.term j) outer base) (τ.kept.term j))

    pub arrives-ready : Bound (match_of s (drop (get_or τ.positions' τ.level 0) (term_in τ.ws' gap))) (drop limits.levels τ.frame) →
        Came (record { stop = Ready m; level = τ.level })
    arrives-ready binds =
        let x = told τ Rules e in
        let held = tries-held τ e in
        let found = tried-match τ.book τ.shape τ.accepted τ.ws' τ.positions' gap base τ.level held is in
        let some = tried-some τ.book τ.shape τ.accepted τ.ws' τ.positions' gap base τ.level held is in
        let bound = tried-bound τ.book τ.shape τ.accepted τ.ws' τ.positions' gap base τ.level held (drop limits.levels τ.frame) binds in
        let here = ap (contraction s) (sym (same-subterm τ e)) ∙ some.1 in
        came (record { stop = Ready m; level = τ.level }) (record {
          outer = outer;
          begun = suc c;
          x = some.0;
          next = sym τ.kept.same ∙ advance-fire s t 64 base outer c valid.room x.0 some.0 x.1 here;
          levels = sym levels;
          redex = sym (ap (redex_of s) subterm-is) ∙ found;
          bound = subst (λ y. Bound (match_of s y) (drop limits.levels τ.frame)) subterm-is bound;
          contracts = ap (contraction s) (sym subterm-is) ∙ some.1;
          stands = subst (λ y. Stands s.arities τ.ws' gap y (outer ++ suc c ∷ [])) τ.kept.term (tries-is τ e);
          holds = tracks-frame held τ.framed;
        })
