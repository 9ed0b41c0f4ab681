-- A rewrite that is done in a step of the machine: the lengths on the way may be raised, and what stands in the area then.
use Prim.Native.Nat.{ℕ, ◌+◌, ◌-◌, ◌≤◌}
use native.Mathlib.Omega.{arith}
use mathlib.Core.Path.{◌≡◌, sym, ap, ◌∙◌, subst}
use mathlib.Core.Option.{some}
use mathlib.Core.Bool.{false}
use mathlib.Core.List.{List, ◌++◌}
use lib.ListN.{length, get_or, take, drop, set, length-drop}
use Rattle.system.specs.Limits.{term_words}
use Rattle.system.specs.Signature.{Signature, span, replace}
use Rattle.system.specs.System.{System}
use Rattle.system.specs.Terms.{Whole}
use Rattle.reader.specs.declared.Shape.{Shape}
use Rattle.reader.specs.Book.{system_of, Accepted}
use Rattle.system.proofs.Places.{replace-length}
use Rattle.system.proofs.words.SpanSteps.{span-le}
use Rattle.rows.specs.declared.gap.Gap.{Gap}
use Rattle.rows.specs.Rows.{counts_at, term_in, lengths_in}
use Rattle.rows.specs.gap.Gaps.{words_in}
use Rattle.rows.proofs.lengths.Measures.{words-length}
use Rattle.redexes.specs.declared.search.Redex.{Redex}
use Rattle.matching.specs.Matching.{Contraction, contraction}
use Rattle.reducts.specs.declared.putting.Reduced.{Reduced}
use Rattle.reducts.specs.putting.Replaced.{Done, Placed}
use Rattle.rewriting.specs.Ways.{every_argument}
use Rattle.rewriting.proofs.OpenLevels.{opened-room}
use Rattle.machine.specs.declared.advance.State.{State}
use Rattle.machine.specs.advance.Area.{base_of, outer_in, count_in, last_words, Stands}
use Rattle.rewrites.specs.rewrites.Rewritten.{Rewrites}
use Rattle.steps.specs.steps.Raised.{Raisable, Raised, way_in}
use Rattle.steps.specs.steps.Stepped as to
use Rattle.steps.specs.steps.Stepped.{here, Steppable, Steps}
use Rattle.machine.proofs.advance.Areas.{stands_set, last_set}
use Rattle.machine.proofs.advance.Bounds.{spot}
use Rattle.machine.proofs.advance.States.{valid-first}
use Rattle.steps.proofs.steps.Raising.{raisable-front, raisable-back, raised-append, raisable, raised-term, raised-measured}
use Rattle.steps.proofs.steps.Kept.{way_same}
use Rattle.steps.proofs.steps.Stepping.{Left, left, step-valid, step-levels, step-formed, step-bounds, step-way, step-every, step-inside, step-few, step-wide, step-reads}

-- what was asked, the width that was read, what the rewrite answered and left, and the gap then
pub record Rewrote : Type 0 where
  pub book : List ℕ
  pub shape : Shape
  pub accepted : Accepted book shape
  pub ws : List ℕ
  pub positions : List ℕ
  pub state : State
  pub n : ℕ
  pub m : Redex
  pub asked : Steppable book ws positions state n m
  pub width : ℕ
  pub read : width ≡ get_or (lengths_in ws state.gap) (here positions state) 0
  pub r : Reduced
  pub ws₁ : List ℕ
  pub rewrites : Rewrites book ws state.gap (record { level = state.level; at = here positions state; width = width }) r ws₁
  pub gap : Gap
  pub is : r ≡ Done gap

module _ {book ws positions : List ℕ} {shape : Shape} {state : State} {n : ℕ} {m : Redex} (acc : Accepted book shape) (asked : Steppable book ws positions state n m)
    (at width : ℕ) (start : at ≡ here positions state) (read : width ≡ get_or (lengths_in ws state.gap) at 0)
    {r : Reduced} {ws₁ : List ℕ} (rewrites : Rewrites book ws state.gap (record { level = state.level; at = at; width = width }) r ws₁) where
  pub rewrites-here : Rewrites book ws state.gap (record { level = state.level; at = here positions state; width = width }) r ws₁
  rewrites-here = subst (λ p. Rewrites book ws state.gap (record { level = state.level; at = p; width = width }) r ws₁) start rewrites

  abbrev pub rewrote-of : r.long ≡ false → Rewrote
  rewrote-of short = record {
    book = book;
    shape = shape;
    accepted = acc;
    ws = ws;
    positions = positions;
    state = state;
    n = n;
    m = m;
    asked = asked;
    width = width;
    read = step-reads acc asked start read;
    r = r;
    ws₁ = ws₁;
    rewrites = rewrites-here;
    gap = r.gap;
    is = (λ i. record { long = short i; gap = r.gap });
  }

module _ (ρ : Rewrote) where
  abbrev s : System
  s = system_of ρ.book

  abbrev g : Signature
  g = s.arities

  abbrev v : Steppable ρ.book ρ.ws ρ.positions ρ.state ρ.n ρ.m
  v = ρ.asked

  abbrev level : ℕ
  level = ρ.state.level

  abbrev p : ℕ
  p = here ρ.positions ρ.state

  abbrev t : List ℕ
  t = term_in ρ.ws ρ.state.gap

  abbrev base : ℕ
  base = base_of ρ.positions

  -- the levels around the innermost one
  abbrev way : List ℕ
  way = take level ρ.positions

  wide : ρ.width ≡ span g (drop p t) 1
  wide = step-wide ρ.accepted v ρ.width ρ.read

  module _ (x : Contraction) (f : contraction s (drop p t) ≡ some x) where
    abbrev t' : List ℕ
    t' = replace g t p x.reduct

    here-left : Left s ρ.ws ρ.state.gap (record { level = level; at = p; width = ρ.width }) x ρ.ws₁ (Done ρ.gap)
    here-left = subst (Left s ρ.ws ρ.state.gap (record { level = level; at = p; width = ρ.width }) x ρ.ws₁) ρ.is (left (ρ.rewrites x f))

    few : length t' ≤ term_words
    few = here-left.0

    placed : Placed g ρ.ws t t' p level ρ.gap ρ.ws₁
    placed = here-left.1

    -- the words of the subterm are gone, and those of the reduct came
    words : words_in ρ.gap + ρ.width ≡ words_in ρ.state.gap + length x.reduct
    words =
        let a = step-inside ρ.accepted v in
        let fits : p + span g (drop p t) 1 ≤ length t = omega (arith, span-le g (drop p t) 1, length-drop p t) in
        let n : length t' ≡ words_in ρ.gap = ap length (sym placed.term) ∙ words-length placed.later.gapped in
        omega (arith, n, words-length v.tracks.represents.measured.gapped, wide, replace-length g t x.reduct p fits)

  pub step-placed : Placed g ρ.ws t (replace g t p v.x.reduct) p level ρ.gap ρ.ws₁
  step-placed = placed v.x v.contracts

  pub step_words : words_in ρ.state.gap ≤ words_in ρ.gap + ρ.width
  step_words = omega (arith, words v.x v.contracts)

  -- the last words are what they were, and so is the way to the base
  last : last_words base ρ.ws₁ ≡ last_words base ρ.ws
  last =
      let b = step-bounds ρ.accepted v in
      let small = (step-valid ρ.accepted v).bounded in
      let around = opened-room s t (step-valid ρ.accepted v).opened in
      step-placed.rest (term_words - base) (omega (arith, step-inside ρ.accepted v, step-levels ρ.accepted v, spot ρ.book ρ.shape ρ.accepted ρ.ws ρ.positions ρ.state.gap base level v.tracks))

  kept : way_in ρ.ws₁ ρ.n ≡ way_in ρ.ws ρ.n
  kept = way_same base ρ.ws ρ.ws₁ last (step-few ρ.accepted v).1 ρ.n (step-few ρ.accepted v).0

  -- the lengths on the way
  module _ (size : ℕ) (is : size ≡ words_in ρ.gap + ρ.width - words_in ρ.state.gap) where
    long_as : (x : Contraction) → contraction s (drop p t) ≡ some x → size ≡ length x.reduct
    long_as x f = omega (arith, words x f, is)

    all-raisable : Raisable ρ.ws₁ (way_in ρ.ws₁ ρ.n ++ way) ρ.width size
    all-raisable =
        subst (λ y. Raisable ρ.ws₁ (y ++ way) ρ.width size) (sym kept)
        (raisable (every_argument s) (step-every ρ.accepted v) (step-valid ρ.accepted v).whole (step-way ρ.accepted v) v.x.reduct step-placed wide (long_as v.x v.contracts) (few v.x v.contracts))

    -- those to the base first, and then those of the levels
    pub step-raisable : Raisable ρ.ws₁ (way_in ρ.ws₁ ρ.n) ρ.width size
    step-raisable = raisable-front (way_in ρ.ws₁ ρ.n) way all-raisable

    pub step-raisable-levels : {ws₂ : List ℕ} → Raised ρ.ws₁ (way_in ρ.ws₁ ρ.n) ρ.width size ws₂ → Raisable ws₂ way ρ.width size
    step-raisable-levels r = raisable-back (way_in ρ.ws₁ ρ.n) way all-raisable r

    -- raised, and no entry of the innermost level is begun
    pub step-done : {ws₃ ws₂ : List ℕ} → Raised ρ.ws₁ (way_in ρ.ws₁ ρ.n) ρ.width size ws₃ → Raised ws₃ way ρ.width size ws₂ →
        Steps ρ.book ρ.ws ρ.positions ρ.state ρ.r (set ws₂ (counts_at + level) 0)
    step-done {ws₃} {ws₂} first then x f =
        let raised : Raised ρ.ws₁ (way_in ρ.ws ρ.n ++ way) ρ.width size ws₂ =
        subst (λ y. Raised ρ.ws₁ (y ++ way) ρ.width size ws₂) kept (raised-append (way_in ρ.ws₁ ρ.n) way all-raisable first then) in
        let every = every_argument s in
        let y = placed x f in
        let h = (step-valid ρ.accepted v).whole in
        let e = spot ρ.book ρ.shape ρ.accepted ρ.ws ρ.positions ρ.state.gap base level v.tracks in
        let hv : Whole g x.reduct =
        (valid-first s (step-formed ρ.accepted v) t base (outer_in ρ.ws level) (count_in ρ.ws level) (step-valid ρ.accepted v)
        x (ap (λ y. contraction s (drop y t)) (sym e) ∙ f)).left in
        let b = step-bounds ρ.accepted v in
        let outer = outer_in ρ.ws level in
        let stands : Stands g ws₂ ρ.gap (replace g t p x.reduct) outer = record {
          total = raised.total ∙ y.total;
          measured = raised-measured every (step-every ρ.accepted v) h (step-way ρ.accepted v) x.reduct y wide (long_as x f) hv raised;
          term = raised-term every (step-every ρ.accepted v) h (step-way ρ.accepted v) x.reduct y wide (long_as x f) hv raised;
          counts = ap (λ n. take n (drop counts_at ws₂)) (step-levels ρ.accepted v) ∙ ap (take level) raised.counts ∙ y.outer;
        } in
        to.done (few x f) ρ.gap ρ.is (stands_set outer level 0 (step-levels ρ.accepted v) (omega arith) stands)
        (last_set base ws₂ level 0 b.apart ∙ ap (drop (term_words - base)) raised.counts ∙ last)
