-- What a run in an area asks for, and how it ends: the gap around which its term stands in the area, or the limit that stopped it. What else the area
-- holds does not matter.
use Rattle.std.specs.Prelude.{ℕ, ◌≤◌, ◌≡◌, List, length, Result, Ok, Err}
use Rattle.system.specs.Terms.{Whole}
use Rattle.reader.specs.Book.{system_of}
use Rattle.system.specs.declared.numbers.Limit.{Limit}
use Rattle.system.specs.Limits.{area_words, term_words}
use Rattle.rows.specs.declared.gap.Gap.{Gap}
use Rattle.rows.specs.Rows.{Lies, term_in}
use Rattle.rewriting.specs.Evaluation.{Outcome, finished, stopped}
use Rattle.runs.specs.declared.run.RunResult.{RunResult}
use Rattle.rewriting.specs.Evaluation.{trace_of}

pub record Runnable (book term area : List ℕ) : Type 0 where
  pub whole : Whole (system_of book).arities term
  pub bounded : length term ≤ term_words
  pub words : length area ≡ area_words

-- what is handed back: the term, where it finished, or the limit that stopped it
abbrev pub Hands : Outcome → Result Gap Limit → List ℕ → Type 0
Hands (finished r) (Ok gap) ws = Lies gap × (term_in ws gap ≡ r.term)
Hands (finished r) (Err l) ws = ⊥
Hands (stopped n h) (Ok gap) ws = ⊥
Hands (stopped n h) (Err l) ws = l ≡ n

pub record Ran (o : Outcome) (e : RunResult) (ws : List ℕ) : Type 0 where
  pub hands : Hands o e.outcome ws
  pub steps : e.steps ≡ length (trace_of o)
