-- A run from the start of a term: what it asks for, and that it comes to what the evaluation does.
use Prim.Native.Nat.{ℕ, zero, suc, ◌≤◌}
use native.Mathlib.Omega.{arith}
use mathlib.Core.Path.{◌≡◌, refl, sym, ap, ◌∙◌, subst, subst₂}
use mathlib.Core.List.{List, [], ◌∷◌}
use lib.ListN.{length, get_or, take, set}
use Rattle.std.specs.Prelude.{Result, Ok, Err}
use Rattle.reader.specs.declared.Shape.{Shape}
use Rattle.system.specs.System.{System}
use Rattle.system.specs.Terms.{WellFormed}
use Rattle.reader.specs.Book.{system_of, Accepted}
use Rattle.layout.proofs.Books.{well}
use Rattle.system.specs.Limits.{area_words}
use Rattle.system.specs.declared.numbers.Limit.{Limit}
use Rattle.system.specs.declared.numbers.Limit.TheVariants.{Spent}
use Rattle.rows.specs.declared.gap.Gap.{Gap}
use Rattle.rows.specs.Rows.{counts_at, term_in}
use Rattle.rows.specs.lengths.Written.{Laid}
use Rattle.rewriting.specs.Evaluation.{Limits, start, trace_of, evaluation}
use Rattle.rewriting.specs.Machine.{position}
use Rattle.rewriting.specs.Runs.{Came, ended, sunk, barred, waits, config_of, outcome_of, run}
use Rattle.rewriting.specs.Ways.{Way, top, every_argument}
use Rattle.rewriting.proofs.Runs.{run-evaluates}
use Rattle.machine.specs.advance.Area.{base_of, Stands, frame_words, Tracks}
use Rattle.machine.proofs.advance.Areas.{stands_set, held-count, holds, tracks-first}
use Rattle.machine.proofs.advance.States.{valid-start}
use Rattle.steps.proofs.steps.Kept.{way-none}
use Rattle.records.specs.declared.recording.Bounds.{Bounds}
use Rattle.records.specs.recording.Kept.{limits_of, kept}
use Rattle.records.proofs.Records.{kept-start}
use Rattle.runs.specs.declared.run.RunResult.{RunResult}
use Rattle.runs.specs.declared.running.End.{End}
use Rattle.runs.specs.declared.running.End.TheVariants.{Final, Waiting, Stopped}
use Rattle.runs.specs.declared.running.From.{From}
use Rattle.runs.specs.declared.running.Reached.{Reached}
use Rattle.runs.specs.run.RunResult.{Runnable, Hands, Ran}
use Rattle.runs.specs.running.Reaches.{Startable, came_from, end_of, Reaches, Continues}
use Rattle.runs.proofs.run.Enough.{Moves, run-moves}

-- what was asked for, the index built, the term laid in the area, the frame, and how many steps the run may take
pub record Begun : Type 0 where
  pub book : List ℕ
  pub shape : Shape
  pub accepted : Accepted book shape
  pub term : List ℕ
  pub area : List ℕ
  pub asked : Runnable book term area
  pub bounds : Bounds
  pub lent : List ℕ
  pub ws : List ℕ
  pub gap : Gap
  pub laid : Laid (system_of book).arities term area_words ws gap
  pub frame : List ℕ
  pub slots : length frame ≡ frame_words
  pub first : base_of frame ≡ 0
  pub most : ℕ

module _ (v : Begun) where
  abbrev s : System
  s = system_of v.book

  abbrev limits : Limits
  limits = limits_of v.bounds (length v.lent)

  -- no entry is begun
  abbrev pub ready : List ℕ
  ready = set v.ws counts_at 0

  abbrev pub from : From
  from = record { bounds = v.bounds; state = record { gap = v.gap; level = 0 }; way = 0; steps = 0; most = v.most }

  formed : WellFormed s
  formed = well v.book v.shape v.accepted

  stands : Stands s.arities ready v.gap v.term (0 ∷ [])
  stands =
      stands_set [] 0 0 refl (omega arith) (record { total = v.laid.total; measured = v.laid.measured; term = v.laid.words; counts = refl })

  tracks : Tracks s ready v.frame v.gap 0 0
  unfolding position
  tracks = holds [] 0 stands refl (valid-start s v.term v.asked.whole v.asked.bounded) v.frame v.slots (λ k m. at k m)
    where
      at : (k : ℕ) → k ≤ 0 → get_or v.frame k 0 ≡ position s v.term (take k []) 0
      at zero m = v.first
      at (suc k) m = absurd (omega arith)

  pub startable : Startable v.book ready v.frame from
  startable = record {
    tracks = tracks-first tracks;
    way = subst₂ (Way (every_argument s) (term_in ready v.gap)) (sym (way-none ready)) (sym v.first) top;
  }

  -- where it comes to
  abbrev o : Came
  o = run s limits 0 v.most (0 ∷ []) (start v.term)

  comes-there : came_from s from ready v.frame v.lent [] ≡ o
  comes-there =
      let ec = held-count [] 0 stands refl in
      λ i. run s limits (v.first i) v.most (ec i ∷ []) (record { term = stands.term i; trace = [] })

  -- what `run_at` answered and left
  module _ (e : Reached) (ws frame words : List ℕ) (h : Continues s from ready v.frame v.lent e ws frame words) (enough : v.bounds.limit ≤ v.most) where
    -- as many steps as the limit are enough
    is-evaluation : outcome_of o ≡ evaluation s limits v.term
    unfolding evaluation
    is-evaluation = run-evaluates s limits 0 formed v.most (start v.term) (omega arith) (omega arith)

    -- and 11 stops it before it would wait
    moves : Moves o
    moves = run-moves s limits 0 v.most (0 ∷ []) (start v.term) (omega arith)

    abbrev Tells : Came → Type 0
    Tells o = words ≡ kept v.bounds.recorded v.lent (config_of o).trace

    reaches : Reaches s 0 o e ws frame × Tells o
    reaches =
        let z = h.reaches [] refl v.lent (kept-start v.bounds.recorded v.lent) in
        (subst₂ (λ b o. Reaches s b o e ws frame) v.first comes-there z.0, subst Tells comes-there z.1)

    -- what `run` is to hand back
    abbrev pub Ends : RunResult → Type 0
    Ends f =
        Ran (evaluation s limits v.term) f ws × (words ≡ kept v.bounds.recorded v.lent (trace_of (evaluation s limits v.term)))

    as-evaluation : (f : RunResult) → Ran (outcome_of o) f ws × (words ≡ kept v.bounds.recorded v.lent (trace_of (outcome_of o))) → Ends f
    as-evaluation f = subst (λ z. Ran z f ws × (words ≡ kept v.bounds.recorded v.lent (trace_of z))) is-evaluation

    -- what the code hands on of how the run ended
    abbrev pub handed : End → Result Gap Limit
    handed Final = Ok e.state.gap
    handed Waiting = Err Spent
    handed (Stopped l) = Err l

    pub ends : (end : End) → e.end ≡ end → Ends (record { outcome = handed end; steps = e.steps })
    ends end is = as-evaluation _ (go o moves reaches.0, reaches.1 ∙ ap (kept v.bounds.recorded v.lent) (told o))
      where
        told : (o : Came) → (config_of o).trace ≡ trace_of (outcome_of o)
        told (ended r) = refl
        told (sunk r) = refl
        told (barred l outer c x r) = refl
        told (waits outer c x r) = refl

        hands : (o : Came) → Moves o → Reaches s 0 o e ws frame → Hands (outcome_of o) (handed (end_of o)) ws
        hands (ended r) m z = (z.holds.measured.gapped.lies, z.holds.term)
        hands (sunk r) m z = refl
        hands (barred l outer c x r) m z = refl
        hands (waits outer c x r) m z = absurd m

        go : (o : Came) → Moves o → Reaches s 0 o e ws frame → Ran (outcome_of o) (record { outcome = handed end; steps = e.steps }) ws
        go o m z = record {
          hands = subst (λ n. Hands (outcome_of o) (handed n) ws) (sym z.end ∙ is) (hands o m z);
          steps = z.steps ∙ ap length (told o);
        }
