-- A run of the machine from a state in an area: what it asks for, and what stands where it came to. (Where that is: `run` of rewriting/specs/Runs.)
use Rattle.std.specs.Prelude.{ℕ, ◌≤◌, ◌≡◌, List, [], ◌∷◌, ◌++◌, length}
use Rattle.system.specs.Limits.{term_words}
use Rattle.system.specs.declared.numbers.Limit.TheVariants.{Nested}
use Rattle.system.specs.System.{System}
use Rattle.system.specs.Terms.{Whole}
use Rattle.reader.specs.Book.{system_of}
use Rattle.rows.specs.Rows.{term_in}
use Rattle.rewriting.specs.Trace.{Trace}
use Rattle.rewriting.specs.Evaluation.{Config}
use Rattle.rewriting.specs.Runs.{Came, ended, sunk, barred, waits, config_of, run}
use Rattle.rewriting.specs.Ways.{Way, every_argument}
use Rattle.machine.specs.declared.advance.State.{State}
use Rattle.machine.specs.advance.Area.{base_of, outer_in, count_in, last_words, Stands, Represents, Tracks}
use Rattle.steps.specs.steps.Raised.{way_in}
use Rattle.records.specs.recording.Kept.{limits_of, kept}
use Rattle.runs.specs.declared.running.End.{End}
use Rattle.runs.specs.declared.running.End.TheVariants.{Final, Waiting, Stopped}
use Rattle.runs.specs.declared.running.From.{From}
use Rattle.runs.specs.declared.running.Reached.{Reached}

-- the area holds a state, in the subterm at the base, and the way to the base at the end of the third row
pub record Startable (book ws frame : List ℕ) (from : From) : Type 0 where
  pub tracks : Tracks (system_of book) ws frame from.state.gap (base_of frame) from.state.level
  pub way : Way (every_argument (system_of book)) (term_in ws from.state.gap) (way_in ws from.way) (base_of frame)

-- where the machine comes to from there, after the steps of h
abbrev pub came_from : System → From → List ℕ → List ℕ → List ℕ → Trace → Came
came_from s from ws frame words h =
    run s (limits_of from.bounds (length words)) (base_of frame) from.most
    (outer_in ws from.state.level ++ count_in ws from.state.level ∷ [])
    (record { term = term_in ws from.state.gap; trace = h })

-- how it ended there
abbrev pub end_of : Came → End
end_of (ended r) = Final
end_of (sunk r) = Stopped Nested
end_of (barred l outer c x r) = Stopped l
end_of (waits outer c x r) = Waiting

-- just before a step the area holds the state: the term, true lengths, the counts, that of the innermost level with the step's 0 begun, and the
-- positions of the levels
pub record BeforeStep (s : System) (base : ℕ) (outer : List ℕ) (c : ℕ) (r : Config) (at : State) (ws frame : List ℕ) : Type 0 where
  pub tracks : Tracks s ws frame at.gap base at.level
  pub term : term_in ws at.gap ≡ r.term
  pub around : outer_in ws at.level ≡ outer
  pub begun : count_in ws at.level ≡ c

-- at the end no count is left; where an argument would be opened too deep the area holds the state as it stands
abbrev pub Holds : System → ℕ → Came → State → List ℕ → List ℕ → Type 0
Holds s base (ended r) at ws frame = Stands s.arities ws at.gap r.term []
Holds s base (sunk r) at ws frame = Represents s ws at.gap base at.level × (term_in ws at.gap ≡ r.term)
Holds s base (barred l outer c x r) at ws frame = BeforeStep s base outer c r at ws frame
Holds s base (waits outer c x r) at ws frame = BeforeStep s base outer c r at ws frame

pub record Reaches (s : System) (base : ℕ) (o : Came) (e : Reached) (ws frame : List ℕ) : Type 0 where
  pub end : e.end ≡ end_of o
  pub steps : e.steps ≡ length (config_of o).trace
  pub holds : Holds s base o e.state ws frame

-- what a run leaves: a whole term, and the last words of the third row, with the way to the base among them, as they were. No steps but the last are
-- in memory: whatever steps were taken before, if the record holds their pairs, it came to where the machine comes to after them, and the record
-- holds those of all steps
pub record Continues (s : System) (from : From) (ws frame words : List ℕ) (e : Reached) (ws' frame' words' : List ℕ) : Type 0 where
  pub whole : Whole s.arities (term_in ws' e.state.gap)
  pub bounded : length (term_in ws' e.state.gap) ≤ term_words
  pub last : last_words (base_of frame) ws' ≡ last_words (base_of frame) ws
  pub way : Way (every_argument s) (term_in ws' e.state.gap) (way_in ws' from.way) (base_of frame)
  pub reaches : (h : Trace) → length h ≡ from.steps → (lent : List ℕ) → words ≡ kept from.bounds.recorded lent h →
      Reaches s (base_of frame) (came_from s from ws frame words h) e ws' frame'
      × (words' ≡ kept from.bounds.recorded lent (config_of (came_from s from ws frame words h)).trace)
