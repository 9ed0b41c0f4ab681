-- What is known of a run from a state at the head of its loop: how it starts, and that a state after a rewrite keeps it.
use Prim.Native.Nat.{ℕ, zero, suc, ◌-◌, ◌≤◌}
use native.Mathlib.Omega.{arith}
use mathlib.Core.Path.{◌≡◌, refl, sym, ap, ◌∙◌}
use mathlib.Core.List.{List, [], ◌∷◌, ◌++◌}
use lib.ListN.{length, take}
use Rattle.system.specs.Signature.{replace}
use Rattle.system.specs.System.{System}
use Rattle.system.specs.Terms.{WellFormed}
use Rattle.reader.specs.Book.{system_of}
use Rattle.rows.specs.declared.gap.Gap.{Gap}
use Rattle.rows.specs.Rows.{term_in}
use Rattle.rewriting.specs.Trace.{Trace}
use Rattle.rewriting.specs.Evaluation.{Limits, Config}
use Rattle.rewriting.specs.Machine.{position, down}
use Rattle.rewriting.specs.Runs.{Came, run}
use Rattle.rewriting.specs.Ways.{Way, every_argument}
use Rattle.rewriting.specs.Opened.{Opened}
use Rattle.rewriting.proofs.Laws.{position-le}
use Rattle.rewriting.proofs.OpenLevels.{opened-replace}
use Rattle.machine.specs.advance.Area.{base_of, outer_in, count_in, last_words, Valid, Positioned, Tracks}
use Rattle.machine.proofs.advance.States.{valid-within}
use Rattle.steps.specs.steps.Raised.{way_in}
use Rattle.records.specs.recording.Kept.{limits_of, kept}
use Rattle.runs.specs.declared.running.From.{From}
use Rattle.runs.specs.running.Reaches.{Startable, came_from}

-- ---- the levels around one of the open levels

module _ (s : System) (t : List ℕ) where
  opened-take : (k : ℕ) {p : ℕ} {cs : List ℕ} → Opened s t p cs → Opened s t p (take k cs)
  opened-take zero o = Opened.base
  opened-take (suc k) Opened.base = Opened.base
  opened-take (suc k) (Opened.level h e o) = Opened.level h e (opened-take k o)

  position-take : (k : ℕ) (cs : List ℕ) (p : ℕ) → position s t (take k cs) p ≤ position s t cs p
  unfolding position
  position-take zero cs p = position-le s t cs p
  position-take (suc k) [] p = omega arith
  position-take (suc k) (c ∷ cs) p = position-take k cs (down s t p c)

-- a rewrite at the innermost level leaves the positions of the levels around it
pub positions-kept : (s : System) (wf : WellFormed s) (t : List ℕ) (base : ℕ) (outer : List ℕ) (c : ℕ) → Valid s t base outer c → (u positions : List ℕ) →
    Positioned s t base outer positions → Positioned s (replace s.arities t (position s t outer base) u) base outer positions
positions-kept s wf t base outer c g u positions h k l =
    h k l ∙ sym (opened-replace s t u (position s t outer base) (opened-take s t k g.opened) (position-take s t k outer base) (valid-within s wf t base outer c g)).1

-- ---- the head of the loop: the area holds a state, and what is left to run from it is the run asked for

-- what was asked for, and the area, the frame and the record then
pub record Asked : Type 0 where
  pub from : From
  pub ws : List ℕ
  pub frame : List ℕ
  pub words : List ℕ

abbrev pub base : Asked → ℕ
base a = base_of a.frame

abbrev pub limits : Asked → Limits
limits a = limits_of a.from.bounds (length a.words)

-- the steps that are left after so many in all
abbrev pub steps_left : Asked → ℕ → ℕ
steps_left a steps = a.from.most - (steps - a.from.steps)

-- the steps that were taken before, and the record that was lent for them
pub record Earlier (a : Asked) : Type 0 where
  pub trace : Trace
  pub counted : length trace ≡ a.from.steps
  pub lent : List ℕ
  pub told : a.words ≡ kept a.from.bounds.recorded lent trace

-- where the run that was asked for comes to, after them
abbrev pub goal : System → (a : Asked) → Earlier a → Came
goal s a h = came_from s a.from a.ws a.frame a.words h.trace

-- all steps so far: the record holds their pairs
pub record SoFar (s : System) (a : Asked) (h : Earlier a) (ws words : List ℕ) (gap : Gap) (level steps : ℕ) : Type 0 where
  pub trace : Trace
  pub counted : length trace ≡ steps
  pub told : words ≡ kept a.from.bounds.recorded h.lent trace
  pub same : run s (limits a) (base a) (steps_left a steps) (outer_in ws level ++ count_in ws level ∷ []) (record { term = term_in ws gap; trace = trace }) ≡ goal s a h

pub record Running (s : System) (a : Asked) (ws positions words : List ℕ) (gap : Gap) (level steps : ℕ) : Type 0 where
  pub holds : Tracks s ws positions gap (base a) level
  pub way : Way (every_argument s) (term_in ws gap) (way_in ws a.from.way) (base a)
  pub last : last_words (base a) ws ≡ last_words (base a) a.ws
  pub since : a.from.steps ≤ steps
  pub room : length words ≡ length a.words
  pub follows : (h : Earlier a) → SoFar s a h ws words gap level steps

-- the start
pub running-start : {book : List ℕ} (a : Asked) → Startable book a.ws a.frame a.from →
    Running (system_of book) a a.ws a.frame a.words a.from.state.gap a.from.state.level a.from.steps
running-start {book} a v = record {
  holds = v.tracks;
  way = v.way;
  last = refl;
  since = omega arith;
  room = refl;
  follows = λ h.
      let e : steps_left a a.from.steps ≡ a.from.most = omega arith in
      let at = a.from.state in
      let r : Config = record { term = term_in a.ws at.gap; trace = h.trace } in
      record {
        trace = h.trace;
        counted = h.counted;
        told = h.told;
        same = ap (λ k. run (system_of book) (limits a) (base a) k (outer_in a.ws at.level ++ count_in a.ws at.level ∷ []) r) e;
      };
}
