-- What 02 (F-3) asks of the evaluator's record and its replay together.
use Rattle.std.specs.Prelude.{ℕ, zero, suc, ◌*◌, ◌≤◌, ◌≡◌, List, [], length, take, drop}
use Rattle.system.specs.declared.Answer.{Answer}
use Rattle.system.specs.Limits.{area_words, term_words}
use Rattle.system.specs.Numbers.{limit_number}
use Rattle.system.specs.declared.numbers.Limit.{Limit}
use Rattle.reader.specs.Book.{system_of}
use Rattle.rewriting.specs.Trace.{Trace, in_order}
use Rattle.rewriting.specs.Evaluation.{Limits}
use Rattle.rewriting.specs.Rewriting.{Path}
use Rattle.rewriting.specs.Stopped.{Stopped}
use Rattle.evaluation.specs.Expansion.{Expansion, answer_and_buffers, handed_back}
use Rattle.replay.specs.Replaying.{replaying}

-- "After any answer the record holds the pairs of the steps reported, its other words unchanged": of an expansion x with a record, whose words are
-- `words` before it and words' after it
pub record Reported (book term : List ℕ) (limits : Limits) (words words' : List ℕ) (x : Expansion) : Type 0 where
  pub trace : Trace
  pub steps : x.numbers.steps ≡ length trace
  pub pairs : take (2 * x.numbers.steps) words' ≡ in_order trace []
  pub others : drop (2 * x.numbers.steps) words' ≡ drop (2 * x.numbers.steps) words
  -- on 0 these steps lead from the first term to the one handed back, and where a limit is met, to the one at which it is
  pub handed : x.numbers.number ≡ 0 → Path (system_of book) term_words term trace (handed_back x)
  pub stopped : (l : Limit) → x.numbers.number ≡ limit_number l → Stopped (system_of book) limits term l trace

-- the replay of a record, "cut to its pairs", in the buffers out and work, where a term was handed back; where none was, the answer's numbers
-- and the buffers as they are
unfoldable pub retracing : List ℕ → List ℕ → Answer → List ℕ → List ℕ → List ℕ → Expansion
retracing book term answer words out work =
    elim answer.number [
      | zero ↦ replaying book term (take (2 * answer.steps) words) out work
      | suc _ ↦ answer_and_buffers answer out work
    ]

-- "Every record that our expander wrote for a finished cue, cut to its pairs, is accepted and ends in that cue", in any buffers out and work that
-- pass the checks: y is the replay of what was recorded of x
abbrev pub IsRetraced : Expansion → List ℕ → List ℕ → Expansion → Type 0
IsRetraced x out work y =
    x.numbers.number ≡ 0 → term_words ≤ length out → area_words ≤ length work → (y.numbers ≡ x.numbers) × (handed_back y ≡ handed_back x)
