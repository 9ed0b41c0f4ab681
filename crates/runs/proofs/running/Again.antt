-- A run that waits just before a step is gone on with by another one: from the state that it left, with the step's 0 not begun. Together they are one
-- run of as many steps as both.
use Prim.Native.Nat.{ℕ, ◌+◌, ◌-◌, ◌≤◌}
use native.Mathlib.Omega.{arith}
use mathlib.Core.Path.{◌≡◌, refl, sym, ap, ◌∙◌, subst, subst₂}
use mathlib.Core.List.{List, [], ◌∷◌, ◌++◌}
use lib.ListN.{length, set}
use Rattle.reader.specs.declared.Shape.{Shape}
use Rattle.system.specs.System.{System}
use Rattle.system.specs.Terms.{WellFormed}
use Rattle.reader.specs.Book.{system_of, Accepted}
use Rattle.layout.proofs.Books.{well}
use Rattle.matching.specs.Matching.{Contraction}
use Rattle.rows.specs.declared.gap.Gap.{Gap}
use Rattle.rows.specs.Rows.{counts_at, term_in}
use Rattle.rewriting.specs.Trace.{Trace}
use Rattle.rewriting.specs.Evaluation.{Limits, Config}
use Rattle.rewriting.specs.Runs.{Came, ended, sunk, barred, waits, config_of, run, unbegun, again, Enclosed}
use Rattle.rewriting.specs.Ways.{Way, every_argument}
use Rattle.rewriting.specs.Opened.{Opened}
use Rattle.rewriting.proofs.Actives.{whole-at}
use Rattle.rewriting.proofs.Comings.{run-again}
use Rattle.rewriting.proofs.Ways.{way-room}
use Rattle.machine.specs.advance.Area.{base_of, outer_in, count_in, last_words, Stands, Tracks}
use Rattle.machine.proofs.advance.Areas.{stands-state, count_set, held-outer, held-count, holds, last_set, tracks-base, tracks-first}
use Rattle.machine.proofs.advance.Bounds.{Bounds, bounds}
use Rattle.steps.specs.steps.Raised.{way_in}
use Rattle.steps.proofs.steps.Kept.{way-length, way_same}
use Rattle.records.specs.recording.Kept.{limits_of, kept}
use Rattle.records.proofs.Records.{kept-length}
use Rattle.runs.specs.declared.running.End.TheVariants.{Waiting}
use Rattle.runs.specs.declared.running.From.{From}
use Rattle.runs.specs.declared.running.Reached.{Reached}
use Rattle.runs.specs.running.Reaches.{Startable, came_from, BeforeStep, Reaches, Continues}

-- ---- fewer entries of the innermost level begun

module _ {book : List ℕ} {shape : Shape} (accepted : Accepted book shape) {ws frame : List ℕ} {gap : Gap} {base level : ℕ} (v : Tracks (system_of book) ws frame gap base level)
    (c : ℕ) (fewer : c ≤ count_in ws level) where
  within : Bounds ws frame gap base level
  within = bounds book shape accepted ws frame gap base level v

  recounted-stands : Stands (system_of book).arities (set ws (counts_at + level) c) gap (term_in ws gap) (outer_in ws level ++ c ∷ [])
  recounted-stands = count_set (outer_in ws level) (count_in ws level) (stands-state v.represents) v.represents.levels c (omega (arith, within.shallow))

  recounted-tracks : Tracks (system_of book) (set ws (counts_at + level) c) frame gap base level
  recounted-tracks =
      let y = v.represents.valid in
      holds (outer_in ws level) c recounted-stands v.represents.levels
      (record { whole = y.whole; bounded = y.bounded; room = y.room; inside = y.inside; opened = y.opened; begun = (let z = y.begun in omega arith) })
      frame v.slots v.positioned

  recounted-counts : outer_in (set ws (counts_at + level) c) level ++ count_in (set ws (counts_at + level) c) level ∷ [] ≡ outer_in ws level ++ c ∷ []
  recounted-counts =
      let eo = held-outer (outer_in ws level) c recounted-stands v.represents.levels in
      let ec = held-count (outer_in ws level) c recounted-stands v.represents.levels in
      λ i. eo i ++ ec i ∷ []

  recounted-last : last_words base (set ws (counts_at + level) c) ≡ last_words base ws
  recounted-last = last_set base ws level c within.apart

-- ---- m steps, and n more from where it waits

again-from : (s : System) (wf : WellFormed s) (limits : Limits) (m n p : ℕ) (outer : List ℕ) (c : ℕ) (r : Config) (a b : List ℕ) → p ≡ length a → Enclosed s.arities a b r.term →
    Opened s r.term p outer → (outer' : List ℕ) (c' : ℕ) (x : Contraction) (r' : Config) → run s limits p m (outer ++ c ∷ []) r ≡ waits outer' c' x r' →
    run s limits p (m + n) (outer ++ c ∷ []) r ≡ run s limits p n (unbegun outer' c') r'
unfolding again
again-from s wf limits m n p outer c r a b e h o outer' c' x r' =
    subst (λ p. Opened s r.term p outer → run s limits p m (outer ++ c ∷ []) r ≡ waits outer' c' x r' → run s limits p (m + n) (outer ++ c ∷ []) r ≡ run s limits p n (unbegun outer' c') r')
    (sym e) (λ o q. run-again s wf limits a b m n outer c r h o ∙ ap (again s limits (length a) n) q) o

-- what stands where it waits
record WaitsAt (s : System) (base : ℕ) (o : Came) (e : Reached) (ws frame : List ℕ) : Type 0 where
  outer : List ℕ
  c : ℕ
  x : Contraction
  r : Config
  is : o ≡ waits outer c x r
  holds : BeforeStep s base outer c r e.state ws frame

waits-at : (s : System) (base : ℕ) (o : Came) (e : Reached) (ws frame : List ℕ) → Reaches s base o e ws frame → e.end ≡ Waiting → WaitsAt s base o e ws frame
waits-at s base (ended r) e ws frame h w = cc (h.end, w)
waits-at s base (sunk r) e ws frame h w = cc (h.end, w)
waits-at s base (barred l outer c x r) e ws frame h w = cc (h.end, w)
waits-at s base (waits outer c x r) e ws frame h w = record { outer = outer; c = c; x = x; r = r; is = refl; holds = h.holds }

module _ {book ws frame words : List ℕ} {shape : Shape} {from : From} (acc : Accepted book shape) (v : Startable book ws frame from) {e : Reached} {ws' frame' words' : List ℕ}
    (w : Continues (system_of book) from ws frame words e ws' frame' words') where
  abbrev s : System
  s = system_of book

  -- n steps more at most, from where it came to
  abbrev pub onwards : ℕ → From
  onwards n = record { bounds = from.bounds; state = e.state; way = from.way; steps = e.steps; most = n }

  -- as if all of them were asked for at once
  abbrev pub at_once : ℕ → From
  at_once n = record { bounds = from.bounds; state = from.state; way = from.way; steps = from.steps; most = from.most + n }

  -- the area that it left, with the step's 0 not begun
  abbrev pub taken_back : List ℕ
  taken_back = set ws' (counts_at + e.state.level) (count_in ws' e.state.level - 1)

  module _ (h : Trace) (counted : length h ≡ from.steps) (lent : List ℕ) (told : words ≡ kept from.bounds.recorded lent h) (waiting : e.end ≡ Waiting) where
    abbrev o : Came
    o = came_from s from ws frame words h

    at : WaitsAt s (base_of frame) o e ws' frame'
    at = waits-at s (base_of frame) o e ws' frame' (w.reaches h counted lent told).0 waiting

    abbrev tracks : Tracks s ws' frame' e.state.gap (base_of frame) e.state.level
    tracks = at.holds.tracks

    one_less : count_in ws' e.state.level - 1 ≤ count_in ws' e.state.level
    one_less = omega arith

    -- it may be gone on with
    pub again-startable : (n : ℕ) → Startable book taken_back frame' (onwards n)
    again-startable n =
        let d = count_in ws' e.state.level - 1 in
        let t = recounted-tracks acc tracks d one_less in
        let b = within acc tracks d one_less in
        let z = way-room w.way in
        let y = way-length ws' from.way in
        let same = way_same (base_of frame) ws' taken_back (recounted-last acc tracks d one_less) (omega (arith, b.apart)) from.way (omega arith) in
        record {
          tracks = tracks-first t;
          way = subst (Way (every_argument s) (term_in taken_back e.state.gap) (way_in taken_back from.way)) (sym (tracks-base t))
              (subst₂ (λ t ps. Way (every_argument s) t ps (base_of frame)) (sym (recounted-stands acc tracks d one_less).term) (sym same) w.way);
        }

    -- and comes to where the run of all the steps does
    pub again-same : (n : ℕ) → came_from s (onwards n) taken_back frame' words' (config_of o).trace ≡ came_from s (at_once n) ws frame words h
    again-same n =
        let d = count_in ws' e.state.level - 1 in
        let flag = from.bounds.recorded in
        let long : length words' ≡ length words = ap length (w.reaches h counted lent told).1 ∙ kept-length flag lent (config_of o).trace ∙ sym (ap length told ∙ kept-length flag lent h) in
        let first = tracks-base tracks in
        let counts = recounted-counts acc tracks d one_less ∙ (λ i. at.holds.around i ++ (at.holds.begun i - 1) ∷ []) in
        let term = (recounted-stands acc tracks d one_less).term ∙ at.holds.term in
        let trace = ap (λ o. (config_of o).trace) at.is in
        let valid = v.tracks.represents.valid in
        let y = whole-at s (base_of frame) valid.whole valid.inside in
        (λ i. run s (limits_of from.bounds (long i)) (first i) n (counts i) (record { term = term i; trace = trace i }))
        ∙ sym (again-from s (well book shape acc) (limits_of from.bounds (length words)) from.most n (base_of frame) (outer_in ws from.state.level)
        (count_in ws from.state.level) (record { term = term_in ws from.state.gap; trace = h }) y.before y.behind y.position
        (record { part = y.here; whole = y.whole; equal = y.equal }) valid.opened at.outer at.c at.x at.r at.is)
