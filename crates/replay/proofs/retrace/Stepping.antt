-- The finger of a replay: it starts at the root, and a step at it leaves the way to it. What `rewrites::rewrites::rewrite` asks, and what it leaves.
use Prim.Native.Nat.{ℕ, ◌+◌, ◌-◌, ◌≤◌, ◌<◌}
use native.Mathlib.Omega.{arith}
use mathlib.Core.Path.{◌≡◌, refl, sym, ap, ◌∙◌, subst}
use mathlib.Core.Option.{some}
use mathlib.Core.List.{List}
use Rattle.std.specs.Prelude.{Result, Some}
use lib.ListN.{length, take, drop, length-drop}
use Rattle.reader.specs.declared.book.Book.{Book}
use Rattle.system.specs.Signature.{signature_of}
use Rattle.reader.specs.Book.{system_of}
use Rattle.system.specs.Limits.{area_words, term_words}
use Rattle.system.specs.Signature.{span, replace}
use Rattle.system.specs.System.{System}
use Rattle.system.specs.Terms.{Whole, WellFormed}
use Rattle.system.proofs.Places.{replace-length}
use Rattle.layout.proofs.Books.{well, signature}
use Rattle.system.proofs.words.SpanSteps.{span-le}
use Rattle.rows.specs.declared.gap.Gap.{Gap}
use Rattle.rows.specs.Rows.{term_in}
use Rattle.rows.specs.gap.Gaps.{words_in}
use Rattle.rows.specs.Measured.{Measured}
use Rattle.rows.specs.lengths.Written.{Laid}
use Rattle.rows.proofs.lengths.Measures.{words-length}
use Rattle.redexes.specs.declared.search.Redex.{Redex}
use Rattle.matching.specs.Matching.{Contraction, contraction}
use Rattle.matching.specs.Bindings.{match_of}
use Rattle.redexes.specs.search.Redexes.{redex_of, binding_words, Bound}
use Rattle.reducts.specs.putting.Replaced.{Placed}
use Rattle.rewriting.specs.Ways.{Way, top}
use Rattle.rewriting.proofs.Contractions.{active-within, replaced-whole}
use Rattle.rewriting.proofs.Ways.{way-active, way_step}
use Rattle.rewrites.specs.rewrites.Rewritten.{Reducible}
use Rattle.steps.specs.steps.Raised.{Raisable, Raised}
use Rattle.steps.proofs.steps.Raising.{raisable, raised-term, raised-measured}
use Rattle.walks.specs.declared.walk.Finger.{Finger}
use Rattle.walks.specs.walk.Way.{way_in, Points}
use Rattle.walks.proofs.walk.Pointing.{points-words, points-bounds}
use Rattle.replay.specs.declared.retrace.Pair.{Pair}
use Rattle.replay.specs.declared.retrace.Halt.{Halt}
use Rattle.replay.specs.retrace.Retraces.{Follows}

-- at the root of a term that was laid in the rows
pub points-start : (book : Book) (t ws : List ℕ) (gap : Gap) → Whole (system_of book.words.now).arities t →
    Laid (signature_of book.words.now) t area_words ws gap → Points (system_of book.words.now) t ws (record { gap = gap; level = 0; at = 0 })
points-start book t ws gap h l = record {
  total = l.total;
  measured = subst (λ g. Measured g ws gap) (sym (signature book.words.now book.shape book.accepted)) l.measured;
  term = l.words;
  whole = h;
  levels = refl;
  way = top;
}

-- a step at the finger, whose subterm has `width` words
module _ (s : System) (wf : WellFormed s) {t ws : List ℕ} {f : Finger} (v : Points s t ws f) {width : ℕ} (wide : width ≡ span s.arities (drop f.at t) 1) (u : List ℕ) where
  abbrev t' : List ℕ
  t' = replace s.arities t f.at u

  module _ {gap : Gap} {ws₁ : List ℕ} (placed : Placed s.arities ws t t' f.at f.level gap ws₁) where
    -- its words are gone, and those of the reduct came
    step_counts : words_in gap + width ≡ words_in f.gap + length u
    step_counts =
        let b = points-bounds s wf v in
        let fits : f.at + span s.arities (drop f.at t) 1 ≤ length t = omega (arith, points-words v, span-le s.arities (drop f.at t) 1, length-drop f.at t) in
        let n : length t' ≡ words_in gap = ap length (sym placed.term) ∙ words-length placed.later.gapped in
        omega (arith, n, points-words v, wide, replace-length s.arities t u f.at fits)

    pub step_words : words_in f.gap ≤ words_in gap + width
    step_words = omega (arith, step_counts)

    -- the way stands behind the rows as it did
    same_way : way_in ws₁ f.level ≡ way_in ws f.level
    same_way = placed.outer

    module _ (size : ℕ) (is : size ≡ words_in gap + width - words_in f.gap) where
      long : size ≡ length u
      long = omega (arith, step_counts)

      -- the lengths on it may be raised
      pub step-raisable : length t' ≤ term_words → Raisable ws₁ (way_in ws₁ f.level) width size
      step-raisable few = subst (λ ps. Raisable ws₁ ps width size) (sym same_way) (raisable s wf v.whole v.way u placed wide long few)

      -- then the area holds the new term and the way to the finger
      pub points-stepped : Whole s.arities u → {ws₂ : List ℕ} → Raised ws₁ (way_in ws₁ f.level) width size ws₂ →
          Points s t' ws₂ (record { gap = gap; level = f.level; at = f.at })
      points-stepped h {ws₂} r =
          let r' : Raised ws₁ (way_in ws f.level) width size ws₂ = subst (λ ps. Raised ws₁ ps width size ws₂) same_way r in
          let w : way_in ws₂ f.level ≡ way_in ws f.level = ap (take f.level) r.counts ∙ same_way in
          record {
            total = r.total ∙ placed.total;
            measured = raised-measured s wf v.whole v.way u placed wide long h r';
            term = raised-term s wf v.whole v.way u placed wide long h r';
            whole = replaced-whole s wf v.whole (way-active v.way) h;
            levels = ap length w ∙ v.levels;
            way = subst (λ ps. Way s t' ps f.at) (sym w) (way_step wf v.whole v.way u);
          }

-- what the rewrite at the finger asks, where a rule is found there
module _ (book : Book) {t ws : List ℕ} {f : Finger} (v : Points (system_of book.words.now) t ws f) where
  abbrev s : System
  s = system_of book.words.now

  pub points-reducible : (width : ℕ) (m : Redex) (bs : List ℕ) (x : Contraction) →
      width ≡ span s.arities (drop f.at t) 1 → redex_of s (drop f.at t) ≡ Some m → Bound (match_of s (drop f.at t)) bs → length bs ≡ binding_words →
      contraction s (drop f.at t) ≡ some x → Reducible book.words.now ws f.gap (record { level = f.level; at = f.at; width = width }) m bs
  points-reducible width m bs x wide match bound many contracts =
      let b = points-bounds s (well book.words.now book.shape book.accepted) v in
      let e = sym v.term in
      record {
        total = v.total;
        measured = v.measured;
        whole = subst (Whole s.arities) e v.whole;
        inside = subst (λ y. f.at < length y) e (active-within s (well book.words.now book.shape book.accepted) v.whole (way-active v.way));
        around = b.room;
        match = ap (λ y. redex_of s (drop f.at y)) (sym e) ∙ match;
        bound = subst (λ y. Bound (match_of s (drop f.at y)) bs) e bound;
        many = many;
        wide = wide ∙ ap (λ y. span s.arities (drop f.at y) 1) e;
        x = x;
        contracts = ap (λ y. contraction s (drop f.at y)) (sym e) ∙ contracts;
      }

  -- what was followed in the term as the area holds it
  pub follows-in : {p : Pair} {r : Result Finger Halt} {ws' : List ℕ} → Follows s (term_in ws f.gap) p ws' r → Follows s t p ws' r
  follows-in {p} {r} {ws'} = subst (λ y. Follows s y p ws' r) v.term
