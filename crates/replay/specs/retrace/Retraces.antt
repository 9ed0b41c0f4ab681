-- What comes of a pair in an area of words, and of a whole record.
use Rattle.std.specs.Prelude.{ℕ, ◌≤◌, ◌<◌, ◌≡◌, List, length, Result, Ok, Err}
use Rattle.std.proofs.Math.Option.{none, some}
use Rattle.system.specs.declared.Answer.{Answer}
use Rattle.system.specs.Limits.{area_words, term_words}
use Rattle.system.specs.Numbers.{number_of}
use Rattle.system.specs.declared.numbers.Limit.TheVariants.{Overlong as LimitOverlong}
use Rattle.system.specs.declared.numbers.Verdict.TheVariants.{Stopping, Untrue as VerdictUntrue}
use Rattle.system.specs.Signature.{replace}
use Rattle.system.specs.System.{System}
use Rattle.rows.specs.declared.gap.Gap.{Gap}
use Rattle.rows.specs.Rows.{Lies, term_in}
use Rattle.matching.specs.Matching.{Contraction}
use Rattle.rewriting.specs.Trace.{Trace}
use Rattle.rewriting.specs.Evaluation.{Config, steps}
use Rattle.replay.specs.declared.retrace.Halt.{Halt}
use Rattle.replay.specs.declared.retrace.Halt.TheVariants.{Untrue, Overlong}
use Rattle.replay.specs.declared.retrace.Halted.{Halted}
use Rattle.replay.specs.declared.retrace.Pair.{Pair}
use Rattle.replay.specs.declared.retrace.Retraced.{Retraced}
use Rattle.replay.specs.Replay.{Replay, followed, mistold, exceeded, told_by}
use Rattle.walks.specs.declared.walk.Finger.{Finger}
use Rattle.walks.specs.walk.Way.{Points}

-- the three numbers of a replay that was stopped
abbrev pub halt_numbers : Halt → ℕ → Answer
halt_numbers Untrue steps = record { number = number_of VerdictUntrue; place = steps; steps = steps }
halt_numbers Overlong steps = record { number = number_of (Stopping LimitOverlong); place = 0; steps = steps }

abbrev pub halt_answer : Halted → Answer
halt_answer h = halt_numbers h.why h.steps

-- what came of a pair over the term t, and the area then; where it stops there, what the area holds does not matter
pub data Follows (s : System) (t : List ℕ) (p : Pair) (ws : List ℕ) : Result Finger Halt → Type 0 where
  wrong : told_by s t p.at p.number ≡ none → length ws ≡ area_words → Follows s t p ws (Err Untrue)
  long : (x : Contraction) → told_by s t p.at p.number ≡ some x → term_words < length (replace s.arities t p.at x.reduct) →
      length ws ≡ area_words → Follows s t p ws (Err Overlong)
  goes : (x : Contraction) (f : Finger) → told_by s t p.at p.number ≡ some x → length (replace s.arities t p.at x.reduct) ≤ term_words →
      Points s (replace s.arities t p.at x.reduct) ws f → Follows s t p ws (Ok f)

-- the first row of an area holds these words around the gap
pub record Leaves (words : List ℕ) (gap : Gap) (ws : List ℕ) : Type 0 where
  pub lies : Lies gap
  pub equal : term_in ws gap ≡ words

-- how a replay ends: the area holds the last term, or it was stopped. What else stands there does not matter
pub data Retraces (ws : List ℕ) : Replay → Result Retraced Halted → Type 0 where
  ends : {r : Config} (e : Retraced) → e.steps ≡ steps r → Leaves r.term e.gap ws → Retraces ws (followed r) (Ok e)
  mistaken : {h : Trace} (e : Halted) → e ≡ record { why = Untrue; steps = length h } → Retraces ws (mistold h) (Err e)
  exceeding : {h : Trace} (e : Halted) → e ≡ record { why = Overlong; steps = length h } → Retraces ws (exceeded h) (Err e)
