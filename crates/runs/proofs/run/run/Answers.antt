-- `run::run` meets its contract: a run from the start comes to what the evaluation does.
use native.Mathlib.Omega.{arith}
use mathlib.Core.Path.{◌≡◌, refl, sym, subst}
use mathlib.Core.List.{List}
use Prim.Native.Nat.{ℕ}
use lib.ListN.{length}
use Rattle.system.specs.Limits.{area_words}
use Rattle.system.specs.Signature.{signature_of}
use Rattle.layout.proofs.Books.{signature}
use Rattle.rows.specs.gap.Gaps.{behind}
use Rattle.rows.specs.lengths.Written.{Laid}
use Rattle.machine.specs.advance.Area.{base_of, frame_words}
use Rattle.runs.proofs.run.Ending.{Begun, startable, ends}
use Rattle.runs.proofs.run.run.Goals as goal
use Rattle.runs.proofs.run.run.Goals.{After-lay-back}

-- what the run starts with, read once
abbrev begun : After-lay-back → (frame : List ℕ) → length frame ≡ frame_words → base_of frame ≡ 0 → ℕ → Begun
begun c frame slots first most =
    let a = c.args in
    let ws = c.lay-back.new.area in
    let gap = behind c.lay-back.result in
    record {
      book = a.book.now.words.now;
      shape = a.book.now.shape;
      accepted = a.book.now.accepted;
      term = a.term.now;
      area = a.area.now;
      asked = c.requires;
      bounds = a.bounds;
      lent = a.«record».now;
      ws = ws;
      gap = gap;
      laid = subst (λ g. Laid g a.term.now area_words ws gap) (sym (signature a.book.now.words.now a.book.now.shape a.book.now.accepted))
          (subst (λ n. Laid (signature_of a.book.now.words.now) a.term.now n ws gap) c.requires.words c.lay-back.ensures);
      frame = frame;
      slots = slots;
      first = first;
      most = most;
    }

-- ---- the goals

pub lay-back-requires : goal.lay-back-requires
lay-back-requires c = let q = c.requires in (q.bounded, omega (arith, q.words))

pub bounds-area-8192 : goal.bounds-area-8192
bounds-area-8192 c =
    omega (arith, c.lay-back.ensures.total, c.requires.words)

pub run_at-r-requires : goal.run_at-r-requires
run_at-r-requires c = rw c.build_index-index.ensures (startable (begun (goal.at.run_at-r-requires c).After-lay-back _ refl refl _))

pub returns-in-Final : goal.returns-in-Final
returns-in-Final c =
    let v = begun (goal.at.returns-in-Final c).After-lay-back _ refl refl _ in
    let told = ends v c.run_at-r.result _ _ _ (rw c.build_index-index.ensures at c.run_at-r.ensures) (omega arith) _ c.in-Final.is in
    record { ran = told.0; told = told.1 }

pub returns-in-Waiting : goal.returns-in-Waiting
returns-in-Waiting c =
    let v = begun (goal.at.returns-in-Waiting c).After-lay-back _ refl refl _ in
    let told = ends v c.run_at-r.result _ _ _ (rw c.build_index-index.ensures at c.run_at-r.ensures) (omega arith) _ c.in-Waiting.is in
    record { ran = told.0; told = told.1 }

pub returns-in-Stopped : goal.returns-in-Stopped
returns-in-Stopped c =
    let v = begun (goal.at.returns-in-Stopped c).After-lay-back _ refl refl _ in
    let told = ends v c.run_at-r.result _ _ _ (rw c.build_index-index.ensures at c.run_at-r.ensures) (omega arith) _ c.in-Stopped.is in
    record { ran = told.0; told = told.1 }
