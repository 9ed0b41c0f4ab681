-- What the evaluator (01: the expander) answers and leaves in the lent buffers, for every input: without a record, and with one (02, F-3).
use Rattle.std.specs.Prelude.{ℕ, zero, suc, true, false, ◌&&◌, List, length, take, leb}
use Rattle.buffers.specs.Words.{over, zeros}
use Rattle.system.specs.declared.Answer.{Answer}
use Rattle.system.specs.Numbers.{number_of, limit_number}
use Rattle.system.specs.declared.numbers.Verdict.TheVariants.{Taken, Cramped}
use Rattle.reader.specs.Answers.{term_answer}
use Rattle.reader.specs.Book.{system_of}
use Rattle.rewriting.specs.Trace.{keep}
use Rattle.rewriting.specs.Evaluation.{Limits, steps, Outcome, finished, stopped, evaluation, trace_of}
use Rattle.system.specs.Limits.{area_words, term_words}

-- the three numbers, the answer buffer and the work buffer
pub record Expansion : Type 0 where
  pub numbers : Answer
  pub answer : List ℕ
  pub work : List ℕ

-- an answer and both buffers as an operation leaves them
abbrev pub answer_and_buffers : Answer → List ℕ → List ℕ → Expansion
answer_and_buffers r out work = record { numbers = r; answer = out; work = work }

-- "On 0 the answer stands in the first words of the answer buffer and the rest is unchanged; otherwise that buffer is unchanged."
-- "On 11 to 13 and on 0 the first .. words of the expander's work buffer are zero and the rest unchanged"; 16 leaves "the buffers as 11 does".
-- 02, F-5: "Number 10 and the zeroing use 12,288 for the work buffer".
abbrev pub expansion_of : List ℕ → List ℕ → Outcome → Expansion
expansion_of out work (finished r) =
    answer_and_buffers (record { number = number_of Taken; place = length r.term; steps = steps r }) (over out 0 r.term)
    (over work 0 (zeros area_words))
expansion_of out work (stopped n h) =
    answer_and_buffers (record { number = limit_number n; place = 0; steps = length h }) out (over work 0 (zeros area_words))

-- 10: "answer buffer below 4,096 words, or work buffer below" 12,288 (02, F-5)
unfoldable pub room : ℕ → ℕ → Answer
room out work =
    elim (leb term_words out && leb area_words work) [
      | true ↦ record { number = number_of Taken; place = 0; steps = 0 }
      | false ↦ record { number = number_of Cramped; place = 0; steps = 0 }
    ]

-- of two checks the first that refuses
unfoldable pub earlier : Answer → Answer → Answer
earlier a b = elim a.number [ zero ↦ b | suc _ ↦ a ]

-- "The expander checks 10, then the book, then the cue"
abbrev pub checked : List ℕ → List ℕ → List ℕ → List ℕ → Answer
checked book term out work = earlier (room (length out) (length work)) (term_answer book term)

-- x where the checks pass; "every other number touches no buffer"
unfoldable pub after_checks : List ℕ → List ℕ → List ℕ → List ℕ → Expansion → Expansion
after_checks book term out work x =
    elim (checked book term out work).number [
      | zero ↦ x
      | suc _ ↦ answer_and_buffers (checked book term out work) out work
    ]

-- the expander, whatever the limits: `unrecorded` for the form without a record, `recorded` for the one with it
abbrev pub expansion : List ℕ → List ℕ → Limits → List ℕ → List ℕ → Expansion
expansion book term limits out work = after_checks book term out work (expansion_of out work (evaluation (system_of book) limits term))

-- the words that are handed back: "the answer stands in the first words of the answer buffer", as many as the place says
abbrev pub handed_back : Expansion → List ℕ
handed_back x = take x.numbers.place x.answer

-- ---- the record (02, F-3)

-- "After any answer": where a check refuses the call, no step is reported
unfoldable pub record_after : List ℕ → List ℕ → Limits → List ℕ → List ℕ → List ℕ → List ℕ
record_after book term limits out work words =
    elim (checked book term out work).number [
      | zero ↦ keep words (trace_of (evaluation (system_of book) limits term))
      | suc _ ↦ words
    ]
