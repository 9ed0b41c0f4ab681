-- Where a term is handed back: what was checked, what was evaluated, and the numbers and words that stand there then.
use Prim.Native.Nat.{ℕ, ◌≤◌}
use native.Mathlib.Omega.{arith}
use mathlib.Core.Path.{◌≡◌, refl, sym, ap, ◌∙◌}
use mathlib.Core.List.{List}
use lib.ListN.{length}
use lib.Seq.{length-sets}
use Rattle.system.specs.Limits.{area_words, term_words}
use Rattle.system.specs.Numbers.{limit_number}
use Rattle.system.specs.declared.numbers.Limit.{Limit}
use Rattle.system.specs.declared.numbers.Limit.TheVariants.{Spent, Overlong, Nested, Full}
use Rattle.reader.specs.Answers.{term_answer}
use Rattle.reader.specs.Book.{system_of}
use Rattle.rewriting.specs.Evaluation.{Limits, Config, steps, Outcome, finished, stopped, evaluation}
use Rattle.rewriting.specs.Outcomes.{Done}
use Rattle.rewriting.proofs.Done.{theorem-done, steps-last}
use Rattle.evaluation.specs.Expansion.{Expansion, expansion_of, expansion, handed_back}
use Rattle.records.proofs.Records.{written}
use Rattle.evaluation.proofs.Expanding.{Checks, checks, checks-well, Course, narrow, wrong, runs, course}

-- no limit has number 0
pub limit-number : (n : Limit) → 11 ≤ limit_number n
limit-number Spent = omega arith
limit-number Overlong = omega arith
limit-number Nested = omega arith
limit-number Full = omega arith

module _ (book term : List ℕ) (limits : Limits) (out work : List ℕ) where
  -- a term is handed back: the checks passed and the evaluation ended within its limits
  pub record Handed : Type 0 where
    pub room-answer : term_words ≤ length out
    pub room-work : area_words ≤ length work
    pub good : (term_answer book term).number ≡ 0
    pub run : Config
    pub evaluated : evaluation (system_of book) limits term ≡ finished run
    pub equal : expansion book term limits out work ≡ expansion_of out work (finished run)

  pub handed : (expansion book term limits out work).numbers.number ≡ 0 → Handed
  handed z = by (course book term out work x)
    where
      x : Expansion
      x = expansion_of out work (evaluation (system_of book) limits term)

      number : {x : Expansion} → expansion book term limits out work ≡ x → x.numbers.number ≡ 0
      number e = sym (ap (λ y. y.numbers.number) e) ∙ z

      ends : term_words ≤ length out → area_words ≤ length work → (term_answer book term).number ≡ 0 → (o : Outcome) → evaluation (system_of book) limits term ≡ o →
          expansion book term limits out work ≡ expansion_of out work o → Handed
      ends h k g (finished r) q e = record { room-answer = h; room-work = k; good = g; run = r; evaluated = q; equal = e }
      ends h k g (stopped l m) q e = absurd (let y = number e in omega (arith, limit-number l))

      by : Course book term out work x → Handed
      by (narrow e) = absurd (let y = number e in omega arith)
      by (wrong b e) = absurd (b (number e))
      by (runs p e) = ends p.room-answer p.room-work p.good (evaluation (system_of book) limits term) refl e

module _ {book term : List ℕ} {limits : Limits} {out work : List ℕ} (h : Handed book term limits out work) where
  abbrev r : Config
  r = h.run

  pub handed-checks : Checks book term
  handed-checks = checks book term h.good

  pub handed-done : Done (system_of book) limits term r.term (steps r)
  handed-done = theorem-done (system_of book) (checks-well book term handed-checks) limits term r handed-checks.whole handed-checks.bounded h.evaluated

  pub handed-bounded : length r.term ≤ term_words
  handed-bounded = steps-last (system_of book) handed-done.path

  pub handed-numbers : (expansion book term limits out work).numbers ≡ record { number = 0; place = length r.term; steps = steps r }
  handed-numbers = ap (λ y. y.numbers) h.equal

  pub handed-words : handed_back (expansion book term limits out work) ≡ r.term
  handed-words =
      let a = h.room-answer in
      let b = handed-bounded in
      ap handed_back h.equal ∙ written out r.term (length r.term) refl (omega arith)

-- the place on 0 lies within the answer buffer
pub handed-fits : (book term : List ℕ) (limits : Limits) (out work : List ℕ) (x : Expansion) → x ≡ expansion book term limits out work → x.numbers.number ≡ 0 →
    x.numbers.place ≤ length x.answer
handed-fits book term limits out work x e z =
    let h = handed book term limits out work (sym (ap (λ y. y.numbers.number) e) ∙ z) in
    let q = e ∙ h.equal in
    let b = handed-bounded h in
    let a = h.room-answer in
    let k : x.numbers.place ≡ length h.run.term = ap (λ y. y.numbers.place) q in
    let l : length x.answer ≡ length out = ap (λ y. length y.answer) q ∙ length-sets out 0 h.run.term in
    omega arith
