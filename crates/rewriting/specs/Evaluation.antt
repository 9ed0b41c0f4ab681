-- The evaluation of a term by local strategies, with its limits (01: "Evaluation") and the trace of its steps (02, F-3).
use Rattle.std.specs.Prelude.{ℕ, zero, suc, ◌+◌, ◌*◌, List, [], ◌∷◌, Bool, true, false, length, get_or, drop, leb, ltb}
use Rattle.std.proofs.Math.Option.{Option, none, some}
use Rattle.system.specs.declared.numbers.Limit.{Limit}
use Rattle.system.specs.declared.numbers.Limit.TheVariants.{Spent, Overlong, Nested, Full}
use Rattle.system.specs.Signature.{argument, replace}
use Rattle.system.specs.System.{System, strategy}
use Rattle.matching.specs.Matching.{Contraction, contraction}
use Rattle.rewriting.specs.Trace.{Trace}
use Rattle.system.specs.Limits.{levels, term_words}

-- the whole term as it stands, and the steps taken so far
pub record Config : Type 0 where
  pub term : List ℕ
  pub trace : Trace

abbrev pub start : List ℕ → Config
start t = record { term = t; trace = [] }

abbrev pub steps : Config → ℕ
steps r = length r.trace

-- how an evaluation ends: finished, or stopped by a limit, with "the steps completed"
pub data Outcome : Type 0 where
  finished : Config → Outcome
  stopped : Limit → Trace → Outcome

-- go on where an evaluation has finished
abbrev pub and_then : Outcome → (Config → Outcome) → Outcome
and_then (finished r) on = on r
and_then (stopped n h) on = stopped n h

-- the limits that a caller sets: the most steps (01: the allowance), and the room of the record in words (02: "its room is one more limit"),
-- none where no record is lent
pub record Limits : Type 0 where
  pub steps : ℕ
  pub room : Option ℕ

abbrev pub unrecorded : ℕ → Limits
unrecorded n = record { steps = n; room = none }

abbrev pub recorded : ℕ → ℕ → Limits
recorded n words = record { steps = n; room = some words }

-- whether two words are left in the record behind k pairs
unfoldable pub has_room : Option ℕ → ℕ → Bool
has_room none k = true
has_room (some n) k = leb (2 * k + 2) n

-- the term and the trace after a step at p
abbrev pub stepped : System → ℕ → Config → Contraction → Config
stepped s p r x = record {
  term = replace s.arities r.term p x.reduct;
  trace = record { at = p; number = x.number } ∷ r.trace;
}

module _ (s : System) (limits : Limits) where
  -- "that is a step: the right side, so filled, replaces the part", at p, and then on. "At a step, 11 is checked before 12":
  -- 11, "one more step would pass the allowance" (the step limit); 16, "when a step finds fewer than two words left in the record, between
  -- 11 and 12"; 12, "the step would leave the whole cue above 4,096 words"
  unfoldable pub rewrite : ℕ → Config → Contraction → (Config → Outcome) → Outcome
  rewrite p r x on =
      elim (ltb (steps r) limits.steps) [
        | false ↦ stopped Spent r.trace
        | true ↦ elim (has_room limits.room (steps r)) [
          | false ↦ stopped Full r.trace
          | true ↦ elim (leb (length (stepped s p r x).term) term_words) [
            | false ↦ stopped Overlong r.trace
            | true ↦ on (stepped s p r x)
          ]
        ]
      ]

  -- follow the entries of a strategy at p. `inner` evaluates an argument one level down, `again` "starts anew there at the same level".
  -- "An empty order ends." "Entry 0 looks for the lowest-numbered rule that fits here"; "If one fits, that is a step", "what was left of
  -- the old order is dropped"; "If none fits, go on." "Entry i evaluates argument i at level L + 1 and puts the outcome in its place"
  unfoldable pub follow : (ℕ → Config → Outcome) → (ℕ → Config → Outcome) → List ℕ → ℕ → Config → Outcome
  follow inner again [] p r = finished r
  follow inner again (zero ∷ es) p r =
      elim (contraction s (drop p r.term)) [
        | none ↦ follow inner again es p r
        | some x ↦ rewrite p r x (again p)
      ]
  follow inner again (suc i ∷ es) p r = and_then (inner (argument s.arities r.term p i) r) (λ r'. follow inner again es p r')

  -- "follow its name's order from the first entry", at one level, with at most `left` steps at p itself. (Where none is left, one more
  -- would pass the limit: no outcome depends on `left` from the limit on.)
  unfoldable pub at_root : (ℕ → Config → Outcome) → ℕ → ℕ → Config → Outcome
  at_root inner zero p r = follow inner (λ p' r'. stopped Spent r'.trace) (strategy s (get_or r.term p 0)) p r
  at_root inner (suc left) p r = follow inner (at_root inner left) (strategy s (get_or r.term p 0)) p r

  -- evaluate the subterm at p, with so many levels left, its own among them; "from level 64 this is 13, whatever the argument"
  unfoldable pub evaluate : ℕ → ℕ → Config → Outcome
  evaluate zero p r = stopped Nested r.trace
  evaluate (suc left) p r = at_root (evaluate left) limits.steps p r

-- "The whole cue starts at level 1", and there are 64
unfoldable pub evaluation : System → Limits → List ℕ → Outcome
evaluation s limits t = evaluate s limits levels 0 (start t)

-- the steps that an outcome reports
abbrev pub trace_of : Outcome → Trace
trace_of (finished r) = r.trace
trace_of (stopped n h) = h
