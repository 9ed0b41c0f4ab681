-- A step of the machine in an area of words: the way to its position, what is asked for the rewrite, and the end of it where the term would be too
-- long. (Where it is done: Rewrote.)
use Prim.Native.Nat.{ℕ, ◌-◌, ◌≤◌, ◌<◌}
use native.Mathlib.Omega.{arith}
use mathlib.Core.Path.{◌≡◌, refl, sym, ap, ◌∙◌, subst, subst₂}
use mathlib.Core.Bool.{Bool, true, false}
use mathlib.Core.List.{List, ◌++◌}
use lib.ListN.{length, get_or, take, drop, length-append, length-drop}
use lib.Seq.{ext_get_or, get_or-take, take_all, length-take-le}
use Rattle.buffers.specs.moves.Parts.{part}
use Rattle.system.specs.Limits.{levels, variables, term_words}
use Rattle.system.specs.Signature.{Signature, span}
use Rattle.system.specs.System.{System}
use Rattle.system.specs.Terms.{WellFormed}
use Rattle.reader.specs.declared.Shape.{Shape}
use Rattle.reader.specs.Book.{system_of, Accepted}
use Rattle.layout.proofs.Books.{well}
use Rattle.rows.specs.declared.gap.Gap.{Gap}
use Rattle.rows.specs.Rows.{term_in, lengths_in}
use Rattle.rows.specs.Measured.{Measured}
use Rattle.rows.proofs.lengths.Measures.{measured-length, words-length}
use Rattle.redexes.specs.declared.search.Redex.{Redex}
use Rattle.matching.specs.Matching.{Contraction}
use Rattle.matching.specs.rules.Searches.{reduct_length}
use Rattle.reducts.specs.declared.putting.Reduced.{Reduced}
use Rattle.reducts.specs.declared.putting.Subterm.{Subterm}
use Rattle.reducts.specs.putting.Replaced.{TooLong, Placed, Kept}
use Rattle.rewriting.specs.Ways.{Way, every_argument}
use Rattle.rewriting.specs.levels.Lengths.{above}
use Rattle.rewriting.proofs.Aboves.{above-position, above-length}
use Rattle.rewriting.proofs.Ways.{way-room}
use Rattle.rewriting.proofs.Everywhere.{every-formed, every-opened}
use Rattle.machine.specs.declared.advance.State.{State}
use Rattle.machine.specs.advance.Area.{base_of, outer_in, count_in, frame_words, Valid}
use Rattle.rewrites.specs.rewrites.Rewritten.{Reducible, rewritten, Rewritten, done, long, Rewrites}
use Rattle.steps.specs.steps.Raised.{way_in}
use Rattle.steps.specs.steps.Stepped as to
use Rattle.steps.specs.steps.Stepped.{here, Steppable, Steps}
use Rattle.steps.proofs.steps.Kept.{way-length}
use Rattle.machine.proofs.advance.Bounds.{Bounds, bounds, spot}

-- ---- what a rewrite left, by its answer

abbrev LeftAs : System → List ℕ → Gap → Subterm → Contraction → List ℕ → Reduced → Bool → Type 0
LeftAs s ws gap u x ws₁ r given-up =
    elim given-up [
      | false ↦ (length (rewritten s ws gap u x) ≤ term_words)
          × Placed s.arities ws (term_in ws gap) (rewritten s ws gap u x) u.at u.level r.gap ws₁
      | true ↦ (term_words < length (rewritten s ws gap u x)) × (r ≡ TooLong r.gap) × Kept s.arities ws (term_in ws gap) r.gap ws₁
    ]

abbrev pub Left : System → List ℕ → Gap → Subterm → Contraction → List ℕ → Reduced → Type 0
Left s ws gap u x ws₁ r = LeftAs s ws gap u x ws₁ r r.long

pub left : {s : System} {ws : List ℕ} {gap : Gap} {u : Subterm} {x : Contraction} {r : Reduced} {ws₁ : List ℕ} → Rewritten s ws gap u x r ws₁ → Left s ws gap u x ws₁ r
left {s} {ws} {gap} {u} {x} {ws₁} (done few gap' q placed) = subst (Left s ws gap u x ws₁) (sym q) (few, placed)
left {s} {ws} {gap} {u} {x} {ws₁} (long many gap' q kept) = subst (Left s ws gap u x ws₁) (sym q) (many, refl, kept)

-- ---- the step

module _ {book ws positions : List ℕ} {shape : Shape} {state : State} {n : ℕ} {m : Redex} (acc : Accepted book shape) (v : Steppable book ws positions state n m) where
  abbrev s : System
  s = system_of book

  abbrev g : Signature
  g = s.arities

  abbrev gap : Gap
  gap = state.gap

  abbrev level : ℕ
  level = state.level

  abbrev t : List ℕ
  t = term_in ws gap

  abbrev outer : List ℕ
  outer = outer_in ws level

  abbrev p : ℕ
  p = here positions state

  abbrev base : ℕ
  base = base_of positions

  -- the levels around the innermost one
  abbrev way : List ℕ
  way = take level positions

  pub step-valid : Valid s t base outer (count_in ws level)
  step-valid = v.tracks.represents.valid

  pub step-levels : length outer ≡ level
  step-levels = v.tracks.represents.levels

  pub step-formed : WellFormed s
  step-formed = well book shape acc

  pub step-bounds : Bounds ws positions gap base level
  step-bounds = bounds book shape acc ws positions gap base level v.tracks

  around-length : length way ≡ level
  around-length = let b = step-bounds in length-take-le level positions (omega arith)

  -- their positions are the way from the base to it
  way_above : above s t outer base ≡ way
  way_above = ext_get_or 0 (above s t outer base) way (omega (arith, above-length s t outer base, step-levels, around-length)) (λ k l.
      let n : k < length outer = omega (arith, above-length s t outer base) in
      above-position s t outer base k n ∙ sym (v.tracks.positioned k (omega arith)) ∙ sym (get_or-take level positions k 0 (omega (arith, step-levels))))

  -- and the whole way to it
  pub step-way : Way (every_argument s) t (way_in ws n ++ way) p
  step-way =
      subst₂ (λ y z. Way (every_argument s) t (way_in ws n ++ y) z) way_above (sym (spot book shape acc ws positions gap base level v.tracks))
      (every-opened s step-formed v.way step-valid.opened)

  pub step-every : WellFormed (every_argument s)
  step-every = every-formed s step-formed

  pub step-inside : p < length t
  step-inside = let b = step-bounds in omega (arith, b.within, words-length v.tracks.represents.measured.gapped)

  -- so many symbols are on the way to the base
  pub step-few : (n ≤ base) × (base ≤ term_words)
  step-few = let b = step-bounds in (omega (arith, way-room v.way, way-length ws n), omega (arith, b.apart))

  -- the width that is read where the frame says that it starts
  pub step-reads : {at width : ℕ} → at ≡ p → width ≡ get_or (lengths_in ws gap) at 0 → width ≡ get_or (lengths_in ws gap) p 0
  step-reads e q = q ∙ ap (λ i. get_or (lengths_in ws gap) i 0) e

  -- the bindings, behind the levels
  pub step-bindings : drop levels positions ≡ part levels (frame_words - levels) positions
  step-bindings = let b = step-bounds in sym (take_all (frame_words - levels) (drop levels positions) (omega (arith, length-drop levels positions, b.slots)))

  pub step-counted : (side : List ℕ) {size : ℕ} → size ≡ reduct_length (drop variables (part levels (frame_words - levels) positions)) side →
      size ≡ reduct_length (drop variables (drop levels positions)) side
  step-counted side e = e ∙ ap (λ y. reduct_length (drop variables y) side) (sym step-bindings)

  module _ (width : ℕ) (read : width ≡ get_or (lengths_in ws gap) p 0) where
    abbrev u : Subterm
    u = record { level = level; at = p; width = width }

    pub step-wide : width ≡ span g (drop p t) 1
    step-wide = read ∙ measured-length v.tracks.represents.measured p

    pub step-reducible : Reducible book ws gap u m (drop levels positions)
    step-reducible = record {
      total = v.tracks.represents.total;
      measured = v.tracks.represents.measured;
      whole = step-valid.whole;
      inside = step-inside;
      around = omega (arith, around-length, way-room step-way, length-append (way_in ws n) way);
      match = v.match;
      bound = v.bound;
      many = (let b = step-bounds in length-drop levels positions ∙ omega (arith, b.slots));
      wide = step-wide;
      x = v.x;
      contracts = v.contracts;
    }

    -- the term would have too many words
    pub step-long : {r : Reduced} {ws₁ : List ℕ} → Rewrites book ws gap u r ws₁ → r.long ≡ true → Steps book ws positions state r ws₁
    step-long {r} {ws₁} rewrites q x f = let y = subst (LeftAs s ws gap u x ws₁ r) q (left (rewrites x f)) in to.long y.0 r.gap y.1 y.2

-- the lengths are true after a step, and where it would leave too many words
pub steps-measured : {book ws positions : List ℕ} {state : State} {n : ℕ} {m : Redex} (q : Steppable book ws positions state n m) {r : Reduced} {ws' : List ℕ} →
    Steps book ws positions state r ws' → Steps book ws positions state r ws' × Measured (system_of book).arities ws' r.gap
steps-measured {book} {ws = ws} {positions = positions} {state = state} q {r} {ws'} h = (h, go (h q.x q.contracts))
  where
    go : to.Stepped (system_of book) ws positions state q.x r ws' → Measured (system_of book).arities ws' r.gap
    go (to.done f gap' e stands k) = subst (λ y. Measured (system_of book).arities ws' y.gap) (sym e) stands.measured
    go (to.long f gap' e kept) = subst (λ y. Measured (system_of book).arities ws' y.gap) (sym e) kept.measured
