-- What demands 1 to 3 ask of the evaluator (01: the expander), said of an expansion x: its three numbers and both buffers as it leaves them. Its
-- limits are those of the form without a record or of the one with it (02, F-3: "its room is one more limit in demands 2 and 3").
use Rattle.std.specs.Prelude.{ℕ, zero, suc, ◌≤◌, ◌≡◌, List, length}
use Rattle.reader.specs.Answers.{term_answer}
use Rattle.reader.specs.Book.{system_of}
use Rattle.matching.specs.StrategyTest.{PassedBook}
use Rattle.rewriting.specs.Evaluation.{Limits, Config, unrecorded, steps, finished, evaluation}
use Rattle.rewriting.specs.Outcomes.{Done, Stable}
use Rattle.rewriting.specs.Stopped.{Stopped}
use Rattle.rewriting.specs.Trace.{Trace}
use Rattle.evaluation.specs.Expansion.{Expansion, answer_and_buffers, expansion, handed_back}
use Rattle.system.specs.Limits.{area_words, term_words}
use Rattle.system.specs.Numbers.{limit_number}
use Rattle.system.specs.declared.numbers.Limit.{Limit}

-- "a cue is handed back if the expander answers 0": then that many words are there, and they are done
abbrev pub IsDone : List ℕ → List ℕ → Limits → Expansion → Type 0
IsDone book term limits x =
    x.numbers.number ≡ 0 →
    (length (handed_back x) ≡ x.numbers.place) × Done (system_of book) limits term (handed_back x) x.numbers.steps

-- where a limit stops it (11, 12, 13, or 16 where a record is lent): it "names the limit which that evaluation meets first". The steps reported
-- lead from the first term to the one at which it stops, no term in that list has more than 4,096 words, and there that limit is met
abbrev pub IsStopped : List ℕ → List ℕ → Limits → Expansion → Type 0
IsStopped book term limits x =
    (l : Limit) → x.numbers.number ≡ limit_number l → (h : Trace) × Stopped (system_of book) limits term l h × (x.numbers.steps ≡ length h)

-- and where the checks pass and the evaluation ends within its limits, a term is handed back: it and the count are the evaluation's
abbrev pub IsHandedBack : List ℕ → List ℕ → Limits → List ℕ → List ℕ → Expansion → Type 0
IsHandedBack book term limits out work x =
    term_words ≤ length out → area_words ≤ length work → (term_answer book term).number ≡ 0 →
    (e : Config) → evaluation (system_of book) limits term ≡ finished e →
    (x.numbers ≡ record { number = 0; place = length e.term; steps = steps e }) × (handed_back x ≡ e.term)

-- an expansion that takes no step and hands back the words t
abbrev pub Rests : List ℕ → Expansion → Type 0
Rests t x = (x.numbers ≡ record { number = 0; place = length t; steps = 0 }) × (handed_back x ≡ t)

-- what is found in the words t that are handed back over a book that passed
pub record Found (book t : List ℕ) : Type 0 where
  -- whole, and no rule matches at an active position
  pub stable : Stable (system_of book) t
  -- "in 1 to 4,096 words; one so written is whole"
  pub bounded : length t ≤ term_words
  -- expanding them again takes no step and hands back the same, in any buffers that pass the checks and with any limits
  pub again : (limits : Limits) (out work : List ℕ) → term_words ≤ length out → area_words ≤ length work → Rests t (expansion book t limits out work)

-- a term handed back over a book that passed
abbrev pub IsFound : List ℕ → Expansion → Type 0
IsFound book x = PassedBook book → x.numbers.number ≡ 0 → Found book (handed_back x)

-- what an expansion x handed back, expanded again with no steps allowed, in the buffers out and work; where nothing was handed back,
-- x's three numbers and the buffers as they are
unfoldable pub secondly : List ℕ → Expansion → List ℕ → List ℕ → Expansion
secondly book x out work =
    elim x.numbers.number [
      | zero ↦ expansion book (handed_back x) (unrecorded 0) out work
      | suc _ ↦ answer_and_buffers x.numbers out work
    ]

-- and of a second expansion x' of what x handed back, with step limit 0 in the buffers out' and work'
abbrev pub RestsAgain : List ℕ → Expansion → List ℕ → List ℕ → Expansion → Type 0
RestsAgain book x out' work' x' =
    PassedBook book → x.numbers.number ≡ 0 → term_words ≤ length out' → area_words ≤ length work' → Rests (handed_back x) x'
