-- Lengths raised one by one in the area's row of lengths, at indices that are kept anywhere: one turn of such a loop. And on the way to a
-- subterm in whose place another was put: all lengths are true then.
use Prim.Native.Nat.{ℕ, ◌+◌, ◌-◌, ◌≤◌, ◌<◌}
use native.Mathlib.Omega.{arith}
use native.Mathlib.Numerals.{add-one}
use mathlib.Core.Path.{◌≡◌, refl, sym, ap, ◌∙◌, subst, subst₂}
use mathlib.Core.List.{List, [], ◌∷◌, ◌++◌}
use lib.ListN.{length, get_or, take, drop, set, length-set, length-append, get_or-append}
use lib.Seq.{take-suc, take_all, take-append-le, take-append-add, get_or-append-add, get_or-drop}
use Rattle.system.specs.Limits.{term_words}
use Rattle.system.specs.Signature.{Signature, span, replace}
use Rattle.system.specs.System.{System}
use Rattle.system.specs.Terms.{Whole, WellFormed}
use Rattle.rows.specs.declared.gap.Gap.{Gap}
use Rattle.rows.specs.Rows.{counts_at, length_row, closed, term_in}
use Rattle.system.specs.Spans.{spans}
use Rattle.rows.specs.Measured.{Measured}
use Rattle.rows.specs.lengths.Later.{MeasuredFrom}
use Rattle.rows.proofs.gap.Rows.{length-row-at, length-row-length, length-set-row}
use Rattle.rows.proofs.lengths.Measures.{row-rest, measured-join}
use Rattle.reducts.specs.putting.Replaced.{Placed}
use Rattle.rewriting.specs.Ways.{raise, Way}
use Rattle.rewriting.proofs.Raises.{raise-none, raise-snoc, raise-append, raise-take, raise-drop}
use Rattle.rewriting.proofs.Ways.{way-before}
use Rattle.rewriting.proofs.WayRows.{way-spans-front, way-raise-room, way-raise-fits}
use Rattle.steps.specs.steps.Raised.{Raisable, Raised}

-- what stands behind the rows stays: indices may be kept there
pub raised-kept : {ws₀ qs ws : List ℕ} {d e : ℕ} → Raised ws₀ qs d e ws → (k : ℕ) → get_or ws (counts_at + k) 0 ≡ get_or ws₀ (counts_at + k) 0
raised-kept {ws₀} {ws} r k = sym (get_or-drop counts_at ws k 0) ∙ ap (λ z. get_or z k 0) r.counts ∙ get_or-drop counts_at ws₀ k 0

-- ---- a loop that raises them

-- the area where the first j are raised
pub record Raising (ws₀ qs : List ℕ) (d e : ℕ) (ws : List ℕ) (j : ℕ) : Type 0 where
  pub some : j ≤ length qs
  pub raised : Raised ws₀ (take j qs) d e ws

pub raising-start : (ws qs : List ℕ) (d e : ℕ) → Raising ws qs d e ws 0
raising-start ws qs d e = record {
  some = omega arith;
  raised = record { lengths = sym (raise-none d e (length_row ws)); words = refl; counts = refl; total = refl };
}

module _ {ws₀ qs ws : List ℕ} {d e j : ℕ} (v : Raisable ws₀ qs d e) (r : Raising ws₀ qs d e ws j) where
  -- all of them
  pub raising-end : length qs ≤ j → Raised ws₀ qs d e ws
  raising-end h = subst (λ z. Raised ws₀ z d e ws) (take_all j qs h) r.raised

  -- the next one: its index q, and the number x there
  module _ (l : j < length qs) (q : ℕ) (is : q ≡ get_or qs j 0) where
    pub raising-within : q < term_words
    raising-within = let z = v.within j l in omega arith

    pub raising-slot : term_words + q < length ws
    raising-slot = let h = v.room in let n = r.raised.total in omega (arith, raising-within)

    module _ (x : ℕ) (reads : x ≡ get_or ws (term_words + q) 0) where
      row : x ≡ get_or (raise (take j qs) d e (length_row ws₀)) (get_or qs j 0) 0
      row = reads ∙ sym (length-row-at ws q raising-within) ∙ (λ i. get_or (r.raised.lengths i) (is i) 0)

      pub raising-less : d ≤ x
      raising-less = let z = v.less j l in omega (arith, row)

      pub raising-fits : x - d + e ≤ 65535
      raising-fits = subst (λ z. z - d + e ≤ 65535) (sym row) (v.fits j l)

      pub raising-turn : Raising ws₀ qs d e (set ws (term_words + q) (x - d + e)) (j + 1)
      raising-turn =
          let y = length-set-row ws q (x - d + e) raising-within in
          let more : take (j + 1) qs ≡ take j qs ++ get_or qs j 0 ∷ [] = ap (λ z. take z qs) (add-one j) ∙ take-suc qs j 0 l in
          record {
            some = omega arith;
            raised = record {
              lengths = y.lengths-are ∙ (λ i. set (r.raised.lengths i) (is i) (row i - d + e))
                  ∙ sym (raise-snoc d e (take j qs) (get_or qs j 0) (length_row ws₀)) ∙ ap (λ z. raise z d e (length_row ws₀)) (sym more);
              words = y.words_are ∙ r.raised.words;
              counts = y.counts-are ∙ r.raised.counts;
              total = length-set ws (term_words + q) (x - d + e) ∙ r.raised.total;
            };
          }

    -- what is asked for the next one, and what is kept then
    pub raising-asks : (term_words + q < length ws) × (d ≤ get_or ws (term_words + q) 0) × (get_or ws (term_words + q) 0 - d + e ≤ 65535)
    raising-asks = (raising-slot, raising-less (get_or ws (term_words + q) 0) refl, raising-fits (get_or ws (term_words + q) 0) refl)

    pub raising-next : {ws' : List ℕ} → ws' ≡ set ws (term_words + q) (get_or ws (term_words + q) 0 - d + e) → Raising ws₀ qs d e ws' (j + 1)
    raising-next s = subst (λ z. Raising ws₀ qs d e z (j + 1)) (sym s) (raising-turn (get_or ws (term_words + q) 0) refl)

-- ---- some of them first, and then the others

module _ {ws : List ℕ} (ps qs : List ℕ) {d e : ℕ} (v : Raisable ws (ps ++ qs) d e) where
  pub raisable-front : Raisable ws ps d e
  raisable-front = record {
    room = v.room;
    within = λ j l. subst (λ y. y < term_words) (same j l) (v.within j (more j l));
    less = λ j l. subst₂ (λ y z. d ≤ get_or (raise y d e (length_row ws)) z 0) (first j l) (same j l) (v.less j (more j l));
    fits = λ j l. subst₂ (λ y z. get_or (raise y d e (length_row ws)) z 0 - d + e ≤ 65535) (first j l) (same j l) (v.fits j (more j l));
  }
    where
      more : (j : ℕ) → j < length ps → j < length (ps ++ qs)
      more j l = let z = length-append ps qs in omega arith

      same : (j : ℕ) → j < length ps → get_or (ps ++ qs) j 0 ≡ get_or ps j 0
      same j l = get_or-append ps qs 0 j l

      first : (j : ℕ) → j < length ps → take j (ps ++ qs) ≡ take j ps
      first j l = take-append-le j ps qs (omega arith)

  module _ {ws₁ : List ℕ} (r : Raised ws ps d e ws₁) where
    pub raisable-back : Raisable ws₁ qs d e
    raisable-back = record {
      room = let z = v.room in let y = r.total in omega arith;
      within = λ j l. subst (λ y. y < term_words) (same j) (v.within (length ps + j) (more j l));
      less = λ j l. subst₂ (λ y z. d ≤ get_or y z 0) (later j) (same j) (v.less (length ps + j) (more j l));
      fits = λ j l. subst₂ (λ y z. get_or y z 0 - d + e ≤ 65535) (later j) (same j) (v.fits (length ps + j) (more j l));
    }
      where
        more : (j : ℕ) → j < length qs → length ps + j < length (ps ++ qs)
        more j l = let z = length-append ps qs in omega arith

        same : (j : ℕ) → get_or (ps ++ qs) (length ps + j) 0 ≡ get_or qs j 0
        same j = get_or-append-add ps qs j 0

        later : (j : ℕ) → raise (take (length ps + j) (ps ++ qs)) d e (length_row ws) ≡ raise (take j qs) d e (length_row ws₁)
        later j =
            ap (λ y. raise y d e (length_row ws)) (take-append-add ps qs j) ∙ raise-append d e ps (take j qs) (length_row ws)
            ∙ ap (raise (take j qs) d e) (sym r.lengths)

    pub raised-append : {ws₂ : List ℕ} → Raised ws₁ qs d e ws₂ → Raised ws (ps ++ qs) d e ws₂
    raised-append q = record {
      lengths = q.lengths ∙ ap (raise qs d e) r.lengths ∙ sym (raise-append d e ps qs (length_row ws));
      words = q.words ∙ r.words;
      counts = q.counts ∙ r.counts;
      total = q.total ∙ r.total;
    }

-- ---- the way to the subterm at p of t, in whose place v was put

module _ (s : System) (wf : WellFormed s) {t : List ℕ} (h : Whole s.arities t) {ps : List ℕ} {p : ℕ} (w : Way s t ps p) (v : List ℕ) where
  abbrev g : Signature
  g = s.arities

  module _ {ws ws₁ : List ℕ} {level : ℕ} {gap : Gap} (placed : Placed g ws t (replace g t p v) p level gap ws₁) {d e : ℕ} (wide : d ≡ span g (drop p t) 1) (long : e ≡ length v) where
    -- the lengths on the way may be raised
    pub raisable : length (replace g t p v) ≤ term_words → Raisable ws₁ ps d e
    raisable few = record {
      room = omega (arith, placed.total);
      within = λ j l. let z = way-before w j l in let f = placed.front in let y = placed.later.gapped.lies in omega (arith, y.low, y.high);
      less = λ j l. way-raise-room s wf h w (length_row ws₁) placed.before j l d e wide;
      fits = λ j l. let z = way-raise-fits s wf h w (length_row ws₁) placed.before j l d e wide v long in omega arith;
    }

    -- then all lengths are those of the new term
    module _ (hv : Whole g v) {ws₂ : List ℕ} (r : Raised ws₁ ps d e ws₂) where
      pub raised-term : term_in ws₂ gap ≡ replace g t p v
      raised-term = ap (closed gap) r.words ∙ placed.term

      room : counts_at ≤ length ws₂
      room = omega (arith, r.total, placed.later.gapped.room)

      -- those from there on are true as they were
      later-it : MeasuredFrom g ws₂ gap p
      later-it =
          let m = placed.later in
          let low = m.gapped.lies.low in
          let high = m.gapped.lies.high in
          let n = length-row-length ws₁ m.gapped.room in
          let n' = length-row-length ws₂ room in
          record {
            gapped = record { room = room; lies = m.gapped.lies };
            lengths =
                row-rest gap p placed.front (length_row ws₁) (length_row ws₂) (omega arith) (omega arith) low
                (ap (drop p) r.lengths ∙ raise-drop d e ps (length_row ws₁) p (way-before w))
                ∙ m.lengths ∙ ap (λ z. spans g (drop p (closed gap z))) (sym r.words);
          }

      before-it : take p (length_row ws₂) ≡ take p (spans g (term_in ws₂ gap))
      before-it =
          ap (take p) r.lengths ∙ raise-take d e ps (length_row ws₁) p (way-before w) ∙ ap (raise ps d e) placed.before
          ∙ (λ i. raise ps (wide i) (long i) (take p (spans g t))) ∙ sym (way-spans-front s wf h w v hv) ∙ ap (λ z. take p (spans g z)) (sym raised-term)

      pub raised-measured : Measured g ws₂ gap
      raised-measured = measured-join placed.front later-it before-it
