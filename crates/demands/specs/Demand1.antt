-- What demand 1 asks of the evaluator where it hands back no term: "a refusal is a number of the table, with the buffers as the papers say".
use Rattle.std.specs.Prelude.{ℕ, ◌≡◌, List}
use Rattle.buffers.specs.Words.{over, zeros}
use Rattle.system.specs.declared.Answer.{Answer}
use Rattle.system.specs.Numbers.{number_of, limit_number}
use Rattle.system.specs.declared.numbers.Fault.{Fault}
use Rattle.system.specs.declared.numbers.Limit.{Limit}
use Rattle.system.specs.declared.numbers.Verdict.{Verdict}
use Rattle.system.specs.declared.numbers.Verdict.TheVariants.{Faulty, Broken, Cramped}
use Rattle.evaluation.specs.Expansion.{Expansion, answer_and_buffers}
use Rattle.system.specs.Limits.{area_words}

-- what is said before anything is evaluated: something is wrong with the book, the term or the lent buffers (1 to 10, and 15)
pub data Early : Verdict → Type 0 where
  book : (f : Fault) → Early (Faulty f)
  term : Early Broken
  buffers : Early Cramped

-- these touch no buffer, and no step is taken; 11 to 13, and 16 where a record is lent, leave the answer buffer unchanged and the area at the
-- front of the work buffer zero
pub data Refused (out work : List ℕ) : Expansion → Type 0 where
  untouched : {v : Verdict} {r : Answer} → Early v → r.number ≡ number_of v → r.steps ≡ 0 → Refused out work (answer_and_buffers r out work)
  cleared : (l : Limit) {k : ℕ} →
      Refused out work (answer_and_buffers (record { number = limit_number l; place = 0; steps = k }) out (over work 0 (zeros area_words)))
