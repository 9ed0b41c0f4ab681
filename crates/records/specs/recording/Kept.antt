-- The limits and the record of a run, where it is told by a flag whether a record is lent.
use Rattle.std.specs.Prelude.{ℕ, ◌+◌, ◌*◌, Bool, true, false, cond, List, set, ltb, Option, Some, None}
use Rattle.std.proofs.Math.Option.{none, some}
use Rattle.rewriting.specs.Trace.{Trace}
use Rattle.rewriting.specs.Evaluation.{Limits, has_room}
use Rattle.system.specs.declared.numbers.Limit.{Limit}
use Rattle.system.specs.declared.numbers.Limit.TheVariants.{Spent, Full}
use Rattle.records.specs.declared.recording.Bounds.{Bounds}
use Rattle.rewriting.specs.Trace.{keep}

abbrev pub limits_of : Bounds → ℕ → Limits
limits_of b words = record { steps = b.limit; room = cond b.recorded (some words) none }

-- the limit that one more step meets after k steps, before the term's length is looked at; none where none is met
unfoldable pub met : Limits → ℕ → Option Limit
met limits k =
    elim (ltb k limits.steps) [
      | false ↦ Some Spent
      | true ↦ elim (has_room limits.room k) [ false ↦ Some Full | true ↦ None ]
    ]

-- the words of the record, where one is lent, after these steps
abbrev pub kept : Bool → List ℕ → Trace → List ℕ
kept b words h = cond b (keep words h) words

-- with one more pair behind k others
abbrev pub paired : Bool → List ℕ → ℕ → ℕ → ℕ → List ℕ
paired b words k at number = cond b (set (set words (2 * k) at) (2 * k + 1) number) words
