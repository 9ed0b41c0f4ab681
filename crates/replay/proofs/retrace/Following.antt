-- One pair, in the terms of the code: where the walk came to, what the search found there, and what the rewrite left.
use Prim.Native.Nat.{ℕ, ◌+◌, ◌-◌, ◌≤◌, ◌<◌}
use native.Mathlib.Omega.{arith}
use mathlib.Core.Path.{◌≡◌, sym, ap, ◌∙◌, subst}
use mathlib.Core.Bool.{true, false}
use mathlib.Core.Option.{none, some}
use mathlib.Core.List.{List}
use Rattle.std.specs.Prelude.{Option, Some, None}
use lib.ListN.{length, get_or, drop}
use Rattle.reader.specs.declared.book.Book.{Book}
use Rattle.reader.specs.Book.{system_of}
use Rattle.system.specs.Limits.{area_words, term_words}
use Rattle.system.specs.Signature.{Signature, span, replace}
use Rattle.system.specs.System.{System}
use Rattle.system.specs.Terms.{WellFormed}
use Rattle.layout.proofs.Books.{well}
use Rattle.rows.specs.declared.gap.Gap.{Gap}
use Rattle.rows.specs.Rows.{term_in, lengths_in, Lies}
use Rattle.rows.specs.gap.Gaps.{words_in}
use Rattle.rows.proofs.lengths.Measures.{measured-length}
use Rattle.reducts.specs.declared.putting.Reduced.{Reduced}
use Rattle.reducts.specs.declared.putting.Subterm.{Subterm}
use Rattle.reducts.specs.putting.Replaced.{Placed}
use Rattle.redexes.specs.declared.search.Redex.{Redex}
use Rattle.matching.specs.Matching.{Contraction, contraction}
use Rattle.matching.specs.Bindings.{match_of}
use Rattle.redexes.specs.search.Redexes.{redex_of, number_of, binding_words, Bound}
use Rattle.redexes.proofs.search.Found.{redex-none, redex-some, redex-number}
use Rattle.rewriting.specs.Rewriting.{Active}
use Rattle.rewriting.proofs.Contractions.{first-there}
use Rattle.rewriting.proofs.Ways.{way-active}
use Rattle.rewrites.specs.rewrites.Rewritten.{Reducible, Rewrites}
use Rattle.steps.specs.steps.Raised.{Raisable, Raised}
use Rattle.steps.proofs.steps.Stepping.{Left, left}
use Rattle.walks.specs.declared.walk.Finger.{Finger}
use Rattle.replay.specs.declared.retrace.Pair.{Pair}
use Rattle.walks.specs.Activity.{active_at}
use Rattle.replay.specs.Replay.{told_by}
use Rattle.walks.specs.walk.Way.{way_in, Points, At, Missed}
use Rattle.replay.proofs.Pairs.{told-inactive, told-nothing, told-other, right-told}
use Rattle.walks.proofs.walk.Pointing.{points-bounds}
use Rattle.replay.proofs.retrace.Stepping.{step_words, step-raisable, points-stepped, points-reducible}

-- the pair's position is not active
pub missed : {s : System} {t ws : List ℕ} {f : Finger} (p : Pair) → Missed s t ws p.at f → told_by s t p.at p.number ≡ none
missed {s} {t} p v = told-inactive s t p.at p.number v.inactive

-- the walk came to it, and the rules were tried there
pub record Searched : Type 0 where
  pub book : Book
  pub t : List ℕ
  pub ws : List ℕ
  pub f : Finger
  pub p : Pair
  pub found : At (system_of book.words.now) t ws p.at f
  pub m : Option Redex
  pub tried : m ≡ redex_of (system_of book.words.now) (drop f.at (term_in ws f.gap))
  pub bs : List ℕ
  pub many : length bs ≡ binding_words
  pub bound : Bound (match_of (system_of book.words.now) (drop f.at (term_in ws f.gap))) bs

abbrev pub searched : (book : Book) {t ws bs : List ℕ} {f : Finger} (p : Pair) {m : Option Redex} →
    At (system_of book.words.now) t ws p.at f → m ≡ redex_of (system_of book.words.now) (drop f.at (term_in ws f.gap)) → length bs ≡ binding_words →
    Bound (match_of (system_of book.words.now) (drop f.at (term_in ws f.gap))) bs → Searched
searched book {t} {ws} {bs} {f} p {m} found tried many bound =
    record {
      book = book;
      t = t;
      ws = ws;
      f = f;
      p = p;
      found = found;
      m = m;
      tried = tried;
      bs = bs;
      many = many;
      bound = bound;
    }

module _ (k : Searched) where
  abbrev s : System
  s = system_of k.book.words.now

  abbrev t : List ℕ
  t = k.t

  abbrev at : ℕ
  at = k.f.at

  abbrev p : Pair
  p = k.p

  abbrev points : Points s t k.ws k.f
  points = k.found.points

  wf : WellFormed s
  wf = well k.book.words.now k.book.shape k.book.accepted

  active : active_at s t p.at ≡ true
  active = k.found.active

  there : Active s t at
  there = way-active points.way

  match : k.m ≡ redex_of s (drop at t)
  match = k.tried ∙ ap (λ y. redex_of s (drop at y)) points.term

  binds : Bound (match_of s (drop at t)) k.bs
  binds = subst (λ y. Bound (match_of s (drop at y)) k.bs) points.term k.bound

  at_pair : contraction s (drop p.at t) ≡ contraction s (drop at t)
  at_pair = ap (λ y. contraction s (drop y t)) (sym k.found.here)

  -- no rule matches
  pub nothing : k.m ≡ None → told_by s t p.at p.number ≡ none
  nothing e = told-nothing s t p.at p.number active (at_pair ∙ redex-none k.book.words.now k.book.shape k.book.accepted (drop at t) (sym match ∙ e))

  -- one does
  module _ {m : Redex} (one : k.m ≡ Some m) where
    matches : redex_of s (drop at t) ≡ Some m
    matches = sym match ∙ one

    pub contracted : (x : Contraction) × (contraction s (drop at t) ≡ some x)
    contracted = redex-some k.book.words.now k.book.shape k.book.accepted (drop at t) matches

    abbrev pub x : Contraction
    x = contracted.0

    abbrev contracts : contraction s (drop at t) ≡ some x
    contracts = contracted.1

    number : number_of m ≡ x.number
    number = redex-number k.book.words.now k.book.shape k.book.accepted (drop at t) matches x contracts

    -- it is another one than the pair's
    pub other : (number_of m ≡ p.number → ⊥) → told_by s t p.at p.number ≡ none
    other d = told-other s t p.at p.number active (at_pair ∙ contracts) (λ z. d (number ∙ z))

    -- it is the pair's
    pub told : number_of m ≡ p.number → told_by s t p.at p.number ≡ some x
    told same = right-told s t p.at p.number (record { active = active; found = at_pair ∙ contracts; number = sym number ∙ same })

    -- the term after the step
    abbrev pub after : List ℕ
    after = replace s.arities t p.at x.reduct

-- the rule is the pair's, and the redex has so many words
pub record Chosen : Type 0 where
  pub at : Searched
  pub m : Redex
  pub one : at.m ≡ Some m
  pub same : number_of m ≡ at.p.number
  pub width : ℕ
  pub read : width ≡ get_or (lengths_in at.ws at.f.gap) at.f.at 0

abbrev pub redex : Chosen → Subterm
redex c = record { level = c.at.f.level; at = c.at.f.at; width = c.width }

module _ (c : Chosen) where
  abbrev k : Searched
  k = c.at

  abbrev g : Signature
  g = (s k).arities

  abbrev v : Points (s k) k.t k.ws k.f
  v = k.found.points

  abbrev y : Contraction
  y = x k c.one

  fires : contraction (s k) (drop k.f.at k.t) ≡ some y
  fires = (contracted k c.one).1

  abbrev u : Subterm
  u = redex c

  -- the term after the step
  abbrev pub next : List ℕ
  next = after k c.one

  -- the same by the finger's position
  abbrev here : List ℕ
  here = replace g k.t k.f.at y.reduct

  here-next : here ≡ next
  here-next = ap (λ z. replace g k.t z y.reduct) k.found.here

  wide : c.width ≡ span g (drop k.f.at k.t) 1
  wide = c.read ∙ measured-length v.measured k.f.at ∙ ap (λ z. span g (drop k.f.at z) 1) v.term

  pub reducible : Reducible k.book.words.now k.ws k.f.gap u c.m k.bs
  reducible = points-reducible k.book v c.width c.m k.bs y wide (matches k c.one) (binds k) k.many fires

  -- what the rewrite left
  module _ {r : Reduced} {ws₁ : List ℕ} (rewrites : Rewrites k.book.words.now k.ws k.f.gap u r ws₁) where
    leaves : Left (s k) k.ws k.f.gap u y ws₁ r
    leaves = left (rewrites y (ap (λ z. contraction (s k) (drop k.f.at z)) v.term ∙ fires))

    moved : replace g (term_in k.ws k.f.gap) k.f.at y.reduct ≡ here
    moved = ap (λ z. replace g z k.f.at y.reduct) v.term

    -- the term would have too many words
    pub exceeds : r.long ≡ true → (term_words < length next) × (length ws₁ ≡ area_words)
    exceeds q =
        let z = rw q at leaves in
        (subst (λ z. term_words < length z) (moved ∙ here-next) z.0, z.2.total)

    -- it is done
    module _ (q : r.long ≡ false) where
      abbrev gap : Gap
      gap = r.gap

      few : length here ≤ term_words
      few = subst (λ z. length z ≤ term_words) moved (rw q at leaves).0

      placed : Placed g k.ws k.t here k.f.at k.f.level gap ws₁
      placed =
          subst (λ z. Placed g k.ws z (replace g z k.f.at y.reduct) k.f.at k.f.level gap ws₁) v.term
          (rw q at leaves).1

      pub next-few : length next ≤ term_words
      next-few = subst (λ z. length z ≤ term_words) here-next few

      pub placed-lies : Lies gap
      placed-lies = placed.later.gapped.lies

      pub placed-words : words_in k.f.gap ≤ words_in gap + c.width
      placed-words = step_words (s k) (wf k) v wide y.reduct placed

      -- the lengths on the way, and the area where they are raised
      module _ (size : ℕ) (is : size ≡ words_in gap + c.width - words_in k.f.gap) where
        pub way-raisable : (length ws₁ ≡ area_words) × (k.f.level ≤ term_words) × Raisable ws₁ (way_in ws₁ k.f.level) c.width size
        way-raisable = (
          placed.total,
          let b = points-bounds (s k) (wf k) v in omega arith,
          step-raisable (s k) (wf k) v wide y.reduct placed size is few,
        )

        pub way-raised : {ws₂ : List ℕ} → Raised ws₁ (way_in ws₁ k.f.level) c.width size ws₂ →
            Points (s k) next ws₂ (record { gap = gap; level = k.f.level; at = k.f.at })
        way-raised {ws₂} raised =
            let h = (first-there (s k) (wf k) v.whole (there k) y fires).left in
            subst (λ z. Points (s k) z ws₂ (record { gap = gap; level = k.f.level; at = k.f.at })) here-next
            (points-stepped (s k) (wf k) v wide y.reduct placed size is h raised)
