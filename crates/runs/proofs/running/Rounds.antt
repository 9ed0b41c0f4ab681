-- A round of a run's loop: the state that it starts from, where `advance` comes to, and what stands there if the run ends.
use Prim.Native.Nat.{ℕ, ◌≤◌}
use native.Mathlib.Omega.{arith}
use mathlib.Core.Path.{◌≡◌, refl, sym, ap, ◌∙◌, subst, subst₂}
use mathlib.Core.List.{List, ◌∷◌, [], ◌++◌}
use lib.ListN.{length}
use Rattle.std.specs.Prelude.{Option}
use Rattle.system.specs.System.{System}
use Rattle.system.specs.Terms.{Whole, WellFormed}
use Rattle.reader.specs.declared.Shape.{Shape}
use Rattle.reader.specs.Book.{system_of, Accepted}
use Rattle.layout.proofs.Books.{well}
use Rattle.system.specs.Limits.{term_words, levels}
use Rattle.system.specs.declared.numbers.Limit.{Limit}
use Rattle.system.specs.declared.numbers.Limit.TheVariants.{Nested}
use Rattle.rows.specs.declared.gap.Gap.{Gap}
use Rattle.rows.specs.Rows.{term_in}
use Rattle.rewriting.specs.Evaluation.{Config}
use Rattle.rewriting.specs.Machine.{Next, final, deep, ready, advance}
use Rattle.rewriting.specs.Runs.{Came, ended, sunk, config_of, come}
use Rattle.rewriting.specs.Ways.{Way, every_argument}
use Rattle.rewriting.proofs.Runs.{come-final, come-deep, run_is}
use Rattle.rewriting.proofs.Ways.{way-room}
use Rattle.redexes.specs.declared.search.Redex.{Redex}
use Rattle.machine.specs.declared.advance.State.{State}
use Rattle.machine.specs.declared.advance.Advanced.{Advanced}
use Rattle.machine.specs.declared.advance.Stop.{Stop}
use Rattle.machine.specs.declared.advance.Stop.TheVariants.{Final, Deep, Ready}
use Rattle.machine.specs.advance.Area.{base_of, outer_in, count_in, last_words, Tracks}
use Rattle.machine.specs.advance.Arrivals.{Arrives, Advances}
use Rattle.machine.proofs.advance.Areas.{held-outer, held-count, tracks-base, tracks-first}
use Rattle.machine.proofs.advance.Bounds.{spot}
use Rattle.steps.specs.steps.Raised.{way_in}
use Rattle.steps.specs.steps.Stepped.{Steppable}
use Rattle.steps.proofs.steps.Kept.{way-length, way_same}
use Rattle.records.specs.recording.Kept.{limits_of, kept, met}
use Rattle.runs.specs.declared.running.End.{End}
use Rattle.runs.specs.declared.running.End.TheVariants as ending
use Rattle.runs.specs.declared.running.Reached.{Reached}
use Rattle.runs.specs.running.Reaches.{Startable, end_of, Holds, Reaches, Continues}
use Rattle.runs.proofs.running.Running.{Asked, base, limits, steps_left, Earlier, goal, SoFar, Running}

-- what the run was asked for, the state that the round starts from, and what `advance` answered and left
pub record Round : Type 0 where
  pub book : List ℕ
  pub shape : Shape
  pub accepted : Accepted book shape
  pub a : Asked
  pub asked : Startable book a.ws a.frame a.from
  pub ws : List ℕ
  pub positions : List ℕ
  pub words : List ℕ
  pub gap : Gap
  pub level : ℕ
  pub steps : ℕ
  pub running : Running (system_of book) a ws positions words gap level steps
  pub d : Advanced
  pub ws' : List ℕ
  pub positions' : List ℕ
  pub came : Advances (system_of book) (record { gap = gap; level = level }) (base a) ws d ws' positions'

-- the round of a loop that keeps `Running`
module _ {book : List ℕ} {shape : Shape} (acc : Accepted book shape) {a : Asked} {ws positions words : List ℕ} {gap : Gap} {level steps : ℕ}
    (running : Running (system_of book) a ws positions words gap level steps)
    (asked : Startable book a.ws a.frame a.from) (d : Advanced) (ws' positions' : List ℕ)
    (came : Advances (system_of book) (record { gap = gap; level = level }) (base_of positions) ws d ws' positions') where
  abbrev pub round-of : Round
  round-of = record {
    book = book;
    shape = shape;
    accepted = acc;
    a = a;
    asked = asked;
    ws = ws;
    positions = positions;
    words = words;
    gap = gap;
    level = level;
    steps = steps;
    running = running;
    d = d;
    ws' = ws';
    positions' = positions';
    came = subst (λ b. Advances (system_of book) (record { gap = gap; level = level }) b ws d ws' positions') (tracks-base running.holds) came;
  }

-- the answer is the one asked for
abbrev pub Answers : Round → Reached → List ℕ → List ℕ → Type 0
Answers k e ws frame = Continues (system_of k.book) k.a.from k.a.ws k.a.frame k.a.words e ws frame k.words

-- the state where `advance` came to
abbrev pub there : Round → State
there k = record { gap = k.gap; level = k.d.level }

-- the counts of the state that the round starts from
abbrev pub counts : Round → List ℕ
counts k = outer_in k.ws k.level ++ count_in k.ws k.level ∷ []

-- the answer as the code makes it
abbrev pub told : Round → End → State → Reached
told k end at = record { end = end; state = at; steps = k.steps }

module _ (k : Round) where
  abbrev s : System
  s = system_of k.book

  abbrev b : ℕ
  b = base k.a

  pub formed : WellFormed s
  formed = well k.book k.shape k.accepted

  -- so many steps are left
  abbrev pub left : ℕ
  left = steps_left k.a k.steps

  -- the record has the length that it was lent with
  pub meets-here : {r : Option Limit} → r ≡ met (limits_of k.a.from.bounds (length k.words)) k.steps → r ≡ met (limits k.a) k.steps
  meets-here e = e ∙ ap (λ n. met (limits_of k.a.from.bounds n) k.steps) k.running.room

  abbrev pub so_far : (h : Earlier k.a) → SoFar s k.a h k.ws k.words k.gap k.level k.steps
  so_far h = k.running.follows h

  -- what an area keeps whose term and last words are those of the round's start
  pub record Keeps (gap : Gap) (ws : List ℕ) : Type 0 where
    pub whole : Whole s.arities (term_in ws gap)
    pub bounded : length (term_in ws gap) ≤ term_words
    pub last : last_words b ws ≡ last_words b k.a.ws
    pub way : Way (every_argument s) (term_in ws gap) (way_in ws k.a.from.way) b

  pub few : (k.a.from.way ≤ b) × (b ≤ term_words)
  few =
      let v = k.running.holds.represents.valid in
      (omega (arith, way-room k.running.way, way-length k.ws k.a.from.way), omega (arith, v.inside, v.bounded))

  pub keeps : (gap : Gap) (ws : List ℕ) → term_in ws gap ≡ term_in k.ws k.gap → last_words b ws ≡ last_words b k.ws → Keeps gap ws
  keeps gap ws et el =
      let v = k.running.holds.represents.valid in
      record {
        whole = rw et v.whole;
        bounded = rw et v.bounded;
        last = el ∙ k.running.last;
        way = subst₂ (λ t ps. Way (every_argument s) t ps b) (sym et) (sym (way_same b k.ws ws el few.1 k.a.from.way few.0)) k.running.way;
      }

  -- where the run came to, after the steps of h
  pub record To (end : End) (at : State) (ws frame : List ℕ) (h : Earlier k.a) (o : Came) : Type 0 where
    pub same : goal s k.a h ≡ o
    pub end-is : end ≡ end_of o
    pub trace-is : (config_of o).trace ≡ (so_far h).trace
    pub holds : Holds s b o at ws frame

  pub answers : (end : End) (at : State) (ws frame : List ℕ) → Keeps at.gap ws →
      (o : Earlier k.a → Came) → ((h : Earlier k.a) → To end at ws frame h (o h)) → (e : Reached) → e ≡ told k end at → Answers k e ws frame
  answers end at ws frame z o to e is = subst (λ y. Answers k y ws frame) (sym is) (record {
    whole = z.whole;
    bounded = z.bounded;
    last = z.last;
    way = z.way;
    reaches = λ h counted lent told'.
        let y : Earlier k.a = record { trace = h; counted = counted; lent = lent; told = told' } in
        let x = to y in
        subst (λ o. Reaches s b o (told k end at) ws frame × (k.words ≡ kept k.a.from.bounds.recorded lent (config_of o).trace)) (sym x.same) (
          record { end = x.end-is; steps = sym (so_far y).counted ∙ ap length (sym x.trace-is); holds = x.holds },
          (so_far y).told ∙ ap (kept k.a.from.bounds.recorded lent) (sym x.trace-is),
        );
  })

  -- ---- the ways out where no rewrite is next

  abbrev start : Earlier k.a → Config
  start h = record { term = term_in k.ws k.gap; trace = (so_far h).trace }

  from_start : (h : Earlier k.a) (n : Next) → advance s levels (counts k) (term_in k.ws k.gap) b ≡ n → goal s k.a h ≡ come s (limits k.a) b left n (start h)
  from_start h n e = sym (so_far h).same ∙ run_is s (limits k.a) b left (counts k) (start h) ∙ ap (λ n. come s (limits k.a) b left n (start h)) e

  arrives : (stop : Stop) → k.d.stop ≡ stop → Arrives stop s (record { gap = k.gap; level = k.level }) b k.ws k.d k.ws' k.positions'
  arrives stop e = subst (λ y. Arrives y s (record { gap = k.gap; level = k.level }) b k.ws k.d k.ws' k.positions') e k.came.0

  pub ends-final : k.d.stop ≡ Final → (e : Reached) → e ≡ told k ending.Final (there k) → Answers k e k.ws' k.positions'
  ends-final q e is =
      let y = arrives Final q in
      answers ending.Final (there k) k.ws' k.positions' (keeps k.gap k.ws' y.stands.term k.came.1) (λ h. ended (start h))
      (λ h. record {
        same = from_start h final y.next ∙ come-final s (limits k.a) b left (start h);
        end-is = refl;
        trace-is = refl;
        holds = y.stands;
      }) e is

  pub ends-deep : k.d.stop ≡ Deep → (e : Reached) → e ≡ told k (ending.Stopped Nested) (there k) → Answers k e k.ws' k.positions'
  ends-deep q e is =
      let y = arrives Deep q in
      answers (ending.Stopped Nested) (there k) k.ws' k.positions' (keeps k.gap k.ws' y.term k.came.1) (λ h. sunk (start h))
      (λ h. record {
        same = from_start h deep y.next ∙ come-deep s (limits k.a) b left (start h);
        end-is = refl;
        trace-is = refl;
        holds = (y.represents, y.term);
      }) e is

  -- ---- a rewrite is next

  pub record Before (m : Redex) : Type 0 where
    pub steppable : Steppable k.book k.ws' k.positions' (there k) k.a.from.way m
    pub tracks : Tracks s k.ws' k.positions' k.gap b k.d.level
    pub term : term_in k.ws' k.gap ≡ term_in k.ws k.gap
    pub kept : Keeps k.gap k.ws'
    pub same : (h : Earlier k.a) →
        goal s k.a h ≡ come s (limits k.a) b left (ready (outer_in k.ws' k.d.level) (count_in k.ws' k.d.level) steppable.x)
        (record { term = term_in k.ws' k.gap; trace = (so_far h).trace })

  pub comes-before : {m : Redex} → k.d.stop ≡ Ready m → Before m
  comes-before {m} q =
      let y = arrives (Ready m) q in
      let et = y.stands.term in
      let eo = held-outer y.outer y.begun y.stands (sym y.levels) in
      let ec = held-count y.outer y.begun y.stands (sym y.levels) in
      let ep = spot k.book k.shape k.accepted k.ws' k.positions' k.gap b k.d.level y.holds in
      let z = keeps k.gap k.ws' et k.came.1 in
      record {
        steppable = record {
          tracks = tracks-first y.holds;
          way = subst (Way (every_argument s) (term_in k.ws' k.gap) (way_in k.ws' k.a.from.way)) (sym (tracks-base y.holds)) z.way;
          match = rw (ep, et, eo) y.redex;
          bound = rw (ep, et, eo) y.bound;
          x = y.x;
          contracts = rw (ep, et, eo) y.contracts;
        };
        tracks = y.holds;
        term = et;
        kept = z;
        same = λ h. rw (et, eo, ec) (from_start h (ready y.outer y.begun y.x) y.next);
      }
