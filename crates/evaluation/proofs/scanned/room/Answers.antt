-- `scanned::room` meets its contract.
use native.Mathlib.Omega.{arith}
use mathlib.Core.Path.{sym, ap, ◌∙◌}
use Rattle.evaluation.proofs.Expanding.{narrow-answer, narrow-work, enough}
use Rattle.evaluation.proofs.scanned.room.Goals as goal
use Rattle.evaluation.proofs.scanned.room.Goals.{then-out-lt-TERM_WORDS-via-then-out-lt-TERM_WORDS, then-out-lt-TERM_WORDS-via-else-out-lt-TERM_WORDS+then-work-lt-AREA_WORDS}

pub returns-then-out-lt-TERM_WORDS : goal.returns-then-out-lt-TERM_WORDS
returns-then-out-lt-TERM_WORDS c = (
  c.new.ensures ∙ elim c.then-out-lt-TERM_WORDS.branch [
    | then-out-lt-TERM_WORDS-via-then-out-lt-TERM_WORDS w ↦ sym (narrow-answer _ _ w.if-out-lt-TERM_WORDS.true)
    | then-out-lt-TERM_WORDS-via-else-out-lt-TERM_WORDS+then-work-lt-AREA_WORDS w ↦ sym (narrow-work _ _ w.if-out-lt-TERM_WORDS.false w.if-work-lt-AREA_WORDS.true)
  ],
  λ e. let n = ap (λ y. y.number) c.new.ensures in omega arith,
)

pub returns : goal.returns
returns c = ap (λ y. y.number) (enough _ _ c.if-out-lt-TERM_WORDS.false c.if-work-lt-AREA_WORDS.false)
