-- What the loop of `machine::advance` keeps, and a round of it.
use Prim.Native.Nat.{ℕ, ◌<◌}
use mathlib.Core.Path.{◌≡◌, refl, sym, subst₂}
use mathlib.Core.List.{List, [], ◌∷◌, ◌++◌}
use Rattle.reader.specs.declared.Shape.{Shape}
use Rattle.system.specs.System.{System}
use Rattle.reader.specs.Book.{system_of, Accepted}
use Rattle.machine.specs.declared.advance.State.{State}
use Rattle.machine.specs.declared.advance.Event.{Event}
use Rattle.machine.specs.declared.advance.Innermost.{Innermost}
use Rattle.rows.specs.declared.gap.Gap.{Gap}
use Rattle.rows.specs.Rows.{term_in}
use Rattle.machine.specs.advance.Area.{base_of, outer_in, count_in, last_words, Tracks}
use Rattle.machine.specs.advance.Transition.{since_at, Performed}
use Rattle.machine.specs.advance.Arrivals.{comes}
use Rattle.machine.proofs.advance.Skipping.{Skipped, skipped-start}
use Rattle.machine.proofs.advance.Measure.{remaining}
use Rattle.machine.proofs.advance.Areas.{SamePositions, same-positions, tracks-base}

-- the transitions that are left in the state in an area
unfoldable pub remaining_in : System → List ℕ → Gap → ℕ → ℕ → ℕ
remaining_in s ws gap base level = remaining s (term_in ws gap) 64 (outer_in ws level ++ count_in ws level ∷ []) base

-- a state, of the same term, from which the machine comes to the same place; and what is known of the entries that were followed
pub record Advancing (s : System) (state : State) (base : ℕ) (ws₀ ws positions : List ℕ) (level floor since : ℕ) : Type 0 where
  pub held : Tracks s ws positions state.gap base level
  pub term : term_in ws state.gap ≡ term_in ws₀ state.gap
  pub same : comes s (record { gap = state.gap; level = level }) base ws ≡ comes s state base ws₀
  pub skipped : Skipped s (term_in ws state.gap) base (outer_in ws level) (count_in ws level) floor since
  pub kept : last_words base ws ≡ last_words base ws₀

pub advancing-start : (s : System) (state : State) (base : ℕ) (ws positions : List ℕ) (since : ℕ) → Tracks s ws positions state.gap base state.level →
    since ≡ count_in ws state.level → Advancing s state base ws ws positions state.level state.level since
advancing-start s state base ws positions since h q =
    let level = state.level in
    record {
      held = h;
      term = refl;
      same = refl;
      skipped = rw q (skipped-start s (term_in ws state.gap) base (outer_in ws level) (count_in ws level) level (sym h.represents.levels));
      kept = refl;
    }

-- a round of the loop: the book, the state at the loop's start, the state before the transition, and what the transition left
pub record Round : Type 0 where
  pub book : List ℕ
  pub shape : Shape
  pub accepted : Accepted book shape
  pub state : State
  pub base : ℕ
  pub ws₀ : List ℕ
  pub ws : List ℕ
  pub positions : List ℕ
  pub level : ℕ
  pub floor : ℕ
  pub since : ℕ
  pub kept : Advancing (system_of book) state base ws₀ ws positions level floor since
  pub event : Event
  pub ws' : List ℕ
  pub positions' : List ℕ
  -- the frame then, whose bindings the rules that were tried may have changed
  pub frame : List ℕ
  pub framed : SamePositions positions' frame
  pub performed : Performed (system_of book) (record { gap = state.gap; level = level; since = since_at floor since level }) base ws positions event ws' positions'

-- it goes on: the same is kept, with fewer transitions left
pub record Goes (τ : Round) (level floor since : ℕ) : Type 0 where
  pub on : Advancing (system_of τ.book) τ.state τ.base τ.ws₀ τ.ws' τ.frame level floor since
  pub less : remaining_in (system_of τ.book) τ.ws' τ.state.gap τ.base level < remaining_in (system_of τ.book) τ.ws τ.state.gap τ.base τ.level

-- the round whose transition led to this area and frame
module _ {book : List ℕ} {shape : Shape} (acc : Accepted book shape) {state : State} {base : ℕ} {ws₀ ws positions : List ℕ} {level floor since : ℕ}
    (kept : Advancing (system_of book) state base ws₀ ws positions level floor since)
    {at : Innermost} (is : at ≡ record { gap = state.gap; level = level; since = since_at floor since level }) {event : Event} {ws' positions' : List ℕ}
    (performed : Performed (system_of book) at (base_of positions) ws positions event ws' positions') where
  abbrev pub round-of : Round
  round-of = record {
    book = book;
    shape = shape;
    accepted = acc;
    state = state;
    base = base;
    ws₀ = ws₀;
    ws = ws;
    positions = positions;
    level = level;
    floor = floor;
    since = since;
    kept = kept;
    event = event;
    ws' = ws';
    positions' = positions';
    frame = positions';
    framed = same-positions positions';
    performed = subst₂ (λ y z. Performed (system_of book) y z ws positions event ws' positions') is (tracks-base kept.held) performed;
  }
