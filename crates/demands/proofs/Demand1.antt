-- Demand 1 of the evaluator: where it hands back no term, the number is of the table and the buffers are as 01 says.
use Prim.Native.Nat.{ℕ}
use mathlib.Core.Path.{◌≡◌, refl, sym, ap, subst}
use mathlib.Core.Option.{Option, none, some}
use mathlib.Core.List.{List}
use Rattle.system.specs.declared.Answer.{Answer}
use Rattle.system.specs.Numbers.{number_of}
use Rattle.system.specs.declared.numbers.Verdict.{Verdict}
use Rattle.system.specs.System.{System}
use Rattle.reader.specs.Parser.{Parsed, ok, fault, read}
use Rattle.system.specs.TermCheck.{term_fault}
use Rattle.reader.specs.Answers.{whole_answer, term_answer}
use Rattle.reader.specs.Book.{system_of}
use Rattle.rewriting.specs.Evaluation.{Limits, Outcome, finished, stopped, evaluation}
use Rattle.evaluation.specs.Expansion.{answer_and_buffers, expansion_of, expansion}
use Rattle.demands.specs.Demand1.{Early, book, term, buffers, Refused, untouched, cleared}
use Rattle.evaluation.proofs.Expanding.{Course, narrow, wrong, runs, course}

-- an answer of the check of a term, where it does not accept it
pub data Said : Answer → Type 0 where
  said : {v : Verdict} {r : Answer} → Early v → r.number ≡ number_of v → r.steps ≡ 0 → Said r

whole-said : (t : List ℕ) (o : Option ℕ) → ((whole_answer t o).number ≡ 0 → ⊥) → Said (whole_answer t o)
whole-said t none d = absurd (d refl)
whole-said t (some i) d = said term refl refl

pub term-said : (b t : List ℕ) → ((term_answer b t).number ≡ 0 → ⊥) → Said (term_answer b t)
unfolding term_answer
term-said b t d = go (read b) refl d
  where
    go : (o : Parsed System) → read b ≡ o → ((term_answer b t).number ≡ 0 → ⊥) → Said (term_answer b t)
    go (fault f i) e d = rw (e, term_answer) (said (book f) refl refl)
    go (ok s j) e d = rw (e, term_answer) (whole-said t (term_fault s.arities 1 t 0) (rw (e, term_answer) at d))

module _ (b t : List ℕ) (limits : Limits) (out work : List ℕ) where
  -- a call that does not answer 0 is refused by the table, for every book, term, limits and buffers
  pub refused : ((expansion b t limits out work).numbers.number ≡ 0 → ⊥) → Refused out work (expansion b t limits out work)
  refused d = by (course b t out work (expansion_of out work (evaluation (system_of b) limits t)))
    where
      stops : (o : Outcome) → expansion b t limits out work ≡ expansion_of out work o → Refused out work (expansion b t limits out work)
      stops (finished r) e = absurd (d (ap (λ y. y.numbers.number) e))
      stops (stopped l m) e = subst (Refused out work) (sym e) (cleared l)

      early : {a : Answer} → Said a → expansion b t limits out work ≡ answer_and_buffers a out work → Refused out work (expansion b t limits out work)
      early (said v n k) e = subst (Refused out work) (sym e) (untouched v n k)

      by : Course b t out work (expansion_of out work (evaluation (system_of b) limits t)) → Refused out work (expansion b t limits out work)
      by (narrow e) = subst (Refused out work) (sym e) (untouched buffers refl refl)
      by (wrong w e) = early (term-said b t w) e
      by (runs p e) = stops (evaluation (system_of b) limits t) e
