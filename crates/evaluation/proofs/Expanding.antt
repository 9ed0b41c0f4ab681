-- What `expansion` is at each of the evaluator's checks, and after a run.
use Prim.Native.Nat.{ℕ, zero, suc, ◌+◌, ◌≤◌, ◌<◌}
use native.Mathlib.Omega.{arith}
use native.Mathlib.Decide.{dec_lt, ℕ_discrete}
use mathlib.Core.Path.{◌≡◌, refl, sym, ap, ◌∙◌, subst}
use Rattle.std.specs.Prelude.{Result, Ok, Err, IsErrAnd}
use mathlib.Core.Bool.{Bool, true, false, cond}
use mathlib.Core.List.{List, ◌++◌}
use lib.ListN.{length, drop, length-append, length-drop}
use lib.Seq.{take-append-le, drop_at, sets-eq}
use borrow.Author.Tests.{le-leb, lt-leb}
use Rattle.system.specs.Limits.{area_words, term_words}
use Rattle.buffers.specs.Words.{over, zeros}
use Rattle.buffers.proofs.Zeros.{length-zeros}
use Rattle.system.specs.declared.Answer.{Answer}
use Rattle.system.specs.Terms.{Whole, WellFormed}
use Rattle.reader.specs.Parser.{read, ok}
use Rattle.reader.specs.Answers.{term_answer}
use Rattle.reader.proofs.Accepts.{read-sound}
use Rattle.terms.proofs.Answering as answering
use Rattle.system.proofs.TermChecks.{fault-whole}
use Rattle.reader.specs.Book.{system_of}
use Rattle.rows.proofs.lengths.Measures.{words-length}
use Rattle.rows.specs.declared.gap.Gap.{Gap}
use Rattle.rows.specs.Rows.{closed, term_in, Lies}
use Rattle.rows.specs.gap.Gaps.{words_in}
use Rattle.rewriting.specs.Evaluation.{Limits, Outcome, finished, stopped, evaluation}
use Rattle.system.specs.Numbers.{limit_number}
use Rattle.system.specs.declared.numbers.Limit.{Limit}
use Rattle.runs.specs.declared.run.RunResult.{RunResult}
use Rattle.runs.specs.run.RunResult.{Hands, Ran}
use Rattle.records.specs.recording.Kept.{kept}
use Rattle.evaluation.specs.Expansion.{Expansion, answer_and_buffers, expansion_of, room, earlier, checked, after_checks, record_after}
use Rattle.evaluation.specs.scanned.Checked.{Checked}
use Rattle.rewriting.specs.Evaluation.{trace_of}
use Rattle.rewriting.specs.Trace.{keep}

-- ---- what the check of a term tells

pub record Checks (book term : List ℕ) : Type 0 where
  pub accepted : read book ≡ ok (system_of book) (length book)
  pub whole : Whole (system_of book).arities term
  pub bounded : length term ≤ term_words

pub checks : (book term : List ℕ) → (term_answer book term).number ≡ 0 → Checks book term
unfolding system_of
checks book term e =
    let c = answering.checked book term e in
    let s = c.system in
    let h : system_of book ≡ s = rw c.equal in
    let z : read book ≡ ok s (length book) = c.equal ∙ ap (ok s) (read-sound book c.equal).2 in
    let f = fault-whole s.arities term (rw c.arities c.whole) in
    record { accepted = rw h z; whole = rw h f.0; bounded = f.1 }

module _ (book term : List ℕ) (c : Checks book term) where
  pub checks-well : WellFormed (system_of book)
  checks-well = (read-sound book c.accepted).0

-- ---- the checks of the evaluator

abbrev pub narrowed : Answer
narrowed = record { number = 10; place = 0; steps = 0 }

pub narrow-answer : (out work : ℕ) → out < term_words → room out work ≡ narrowed
unfolding room
narrow-answer out work h = rw (lt-leb term_words out h, room)

pub narrow-work : (out work : ℕ) → term_words ≤ out → work < area_words → room out work ≡ narrowed
unfolding room
narrow-work out work h k = rw (le-leb term_words out h, lt-leb area_words work k, room)

pub enough : (out work : ℕ) → term_words ≤ out → area_words ≤ work → room out work ≡ record { number = 0; place = 0; steps = 0 }
unfolding room
enough out work h k = rw (le-leb term_words out h, le-leb area_words work k, room)

pub earlier-first : (a b : Answer) → (a.number ≡ 0 → ⊥) → earlier a b ≡ a
unfolding earlier
earlier-first a b bad = go a.number refl
  where
    go : (n : ℕ) → a.number ≡ n → earlier a b ≡ a
    go zero e = absurd (bad e)
    go (suc n) e = rw (e, earlier) (λ i. record { number = e i; place = a.place; steps = a.steps })

pub earlier-second : (a b : Answer) → a.number ≡ 0 → earlier a b ≡ b
unfolding earlier
earlier-second a b e = rw (e, earlier)

-- of two checks the first that refuses
pub earlier-refused : (a b : Answer) {e : Answer} → e ≡ a → (e.number ≡ 0 → ⊥) → e ≡ earlier a b
earlier-refused a b q bad = q ∙ sym (earlier-first a b (λ z. bad (ap (λ w. w.number) q ∙ z)))

-- what `?` hands on is what a check refused
pub handed_on : {T : Type 0} {a : Answer} (o : Result T Answer) {e : Answer} → IsErrAnd o (λ x. x ≡ e) → e ≡ a → (e.number ≡ 0 → ⊥) → Checked a o
handed_on (Ok _) h q bad = absurd h
handed_on (Err x) h q bad = (h ∙ q, λ z. bad (sym (ap (λ y. y.number) h) ∙ z))

-- what passes the checks
pub record Passed (book term out work : List ℕ) : Type 0 where
  pub room-answer : term_words ≤ length out
  pub room-work : area_words ≤ length work
  pub good : (term_answer book term).number ≡ 0

pub passed : (book term out work : List ℕ) → (checked book term out work).number ≡ 0 → Passed book term out work
passed book term out work z =
    elim (dec_lt (length out) term_words) [
      | yes h ↦ absurd (short (narrow-answer (length out) (length work) h))
      | no h ↦ elim (dec_lt (length work) area_words) [
        | yes k ↦ absurd (short (narrow-work (length out) (length work) (omega arith) k))
        | no k ↦ record {
          room-answer = omega arith;
          room-work = omega arith;
          good = sym (ap (λ y. y.number) (earlier-second _ (term_answer book term) (ap (λ y. y.number) (enough (length out) (length work) (omega arith) (omega arith))))) ∙ z;
        }
      ]
    ]
  where
    short : room (length out) (length work) ≡ narrowed → ⊥
    short e =
        let n = ap (λ y. y.number) e in
        let y = sym (ap (λ y. y.number) (earlier-first _ (term_answer book term) (λ w. omega arith))) ∙ z in
        omega arith

-- the checks pass
pub passing : (book term out work : List ℕ) → term_words ≤ length out → area_words ≤ length work → checked book term out work ≡ term_answer book term
passing book term out work h k = earlier-second _ (term_answer book term) (ap (λ y. y.number) (enough (length out) (length work) h k))

module _ (book term out work : List ℕ) (x : Expansion) where
  pub refuses : ((checked book term out work).number ≡ 0 → ⊥) → after_checks book term out work x ≡ answer_and_buffers (checked book term out work) out work
  unfolding after_checks
  refuses bad = go (checked book term out work).number refl
    where
      go : (n : ℕ) → (checked book term out work).number ≡ n → after_checks book term out work x ≡ answer_and_buffers (checked book term out work) out work
      go zero e = absurd (bad e)
      go (suc n) e = rw (e, after_checks)
          (λ i. answer_and_buffers (record { number = e i; place = (checked book term out work).place; steps = (checked book term out work).steps }) out work)

  pub accepts : (checked book term out work).number ≡ 0 → after_checks book term out work x ≡ x
  unfolding after_checks
  accepts e = rw (e, after_checks)

  pub evaluates : term_words ≤ length out → area_words ≤ length work → (term_answer book term).number ≡ 0 → after_checks book term out work x ≡ x
  evaluates h k g = accepts (ap (λ y. y.number) (passing book term out work h k) ∙ g)

  -- what comes of a call: its checks refuse it, 10 or the term's answer; or it runs
  pub data Course : Type 0 where
    narrow : after_checks book term out work x ≡ answer_and_buffers narrowed out work → Course
    wrong : ((term_answer book term).number ≡ 0 → ⊥) → after_checks book term out work x ≡ answer_and_buffers (term_answer book term) out work → Course
    runs : Passed book term out work → after_checks book term out work x ≡ x → Course

  pub course : Course
  course =
      elim (dec_lt (length out) term_words) [
        | yes h ↦ narrow (first (narrow-answer (length out) (length work) h))
        | no h ↦ elim (dec_lt (length work) area_words) [
          | yes k ↦ narrow (first (narrow-work (length out) (length work) (omega arith) k))
          | no k ↦ elim (ℕ_discrete (term_answer book term).number 0) [
            | no b ↦
                let e = passing book term out work (omega arith) (omega arith) in
                wrong b (refuses (λ z. b (sym (ap (λ y. y.number) e) ∙ z)) ∙ ap (λ y. answer_and_buffers y out work) e)
            | yes g ↦ runs (record { room-answer = omega arith; room-work = omega arith; good = g }) (evaluates (omega arith) (omega arith) g)
          ]
        ]
      ]
    where
      first : room (length out) (length work) ≡ narrowed → after_checks book term out work x ≡ answer_and_buffers narrowed out work
      first e =
          let n = ap (λ y. y.number) e in
          let c = earlier-first _ (term_answer book term) (λ w. omega arith) ∙ e in
          refuses (λ z. let y = ap (λ y. y.number) c in omega arith) ∙ ap (λ y. answer_and_buffers y out work) c

-- ---- the record

module _ (book term : List ℕ) (limits : Limits) (out work words : List ℕ) where
  pub record-refused : ((checked book term out work).number ≡ 0 → ⊥) → record_after book term limits out work words ≡ words
  unfolding record_after
  record-refused bad = go (checked book term out work).number refl
    where
      go : (n : ℕ) → (checked book term out work).number ≡ n → record_after book term limits out work words ≡ words
      go zero e = absurd (bad e)
      go (suc n) e = rw (e, record_after)

  pub record-told : Passed book term out work → record_after book term limits out work words ≡ keep words (trace_of (evaluation (system_of book) limits term))
  unfolding record_after
  record-told p = rw (ap (λ y. y.number) (passing book term out work p.room-answer p.room-work) ∙ p.good, record_after)

-- the same, where it is told by a flag whether one is lent
module _ (b : Bool) (book term : List ℕ) (limits : Limits) (out work words : List ℕ) where
  pub lent-refused : ((checked book term out work).number ≡ 0 → ⊥) → words ≡ cond b (record_after book term limits out work words) words
  lent-refused bad = go b
    where
      go : (b : Bool) → words ≡ cond b (record_after book term limits out work words) words
      go true = sym (record-refused book term limits out work words bad)
      go false = refl

  pub lent-told : Passed book term out work → kept b words (trace_of (evaluation (system_of book) limits term)) ≡ cond b (record_after book term limits out work words) words
  lent-told p = go b
    where
      go : (b : Bool) → kept b words (trace_of (evaluation (system_of book) limits term)) ≡ cond b (record_after book term limits out work words) words
      go true = sym (record-told book term limits out work words p)
      go false = refl

-- ---- after a run

pub same-result : {r r' : Answer} {out out' work work' : List ℕ} → r ≡ r' → out ≡ out' → work ≡ work' → answer_and_buffers r out work ≡ answer_and_buffers r' out' work'
same-result p q s i = answer_and_buffers (p i) (q i) (s i)

pub ran-lies : {o : Outcome} {e : RunResult} {ws : List ℕ} → Ran o e ws → {gap : Gap} → e.outcome ≡ Ok gap → Lies gap
ran-lies {o} {e} {ws} h {gap} is = go o (subst (λ r. Hands o r ws) is h.hands)
  where
    go : (o : Outcome) → Hands o (Ok gap) ws → Lies gap
    go (finished r) z = z.0
    go (stopped n k) z = absurd z

-- the area is lent as the first words of the work buffer; what stands behind it is as it was
module _ (work ws : List ℕ) (room : area_words ≤ length work) (size : length ws ≡ area_words) where
  abbrev whole : List ℕ
  whole = ws ++ drop area_words work

  pub whole_length : length whole ≡ length work
  whole_length = rw (length-append, length-drop, size) (omega arith)

  pub whole-term : (gap : Gap) → term_in whole gap ≡ term_in ws gap
  whole-term gap = ap (closed gap) (take-append-le term_words ws (drop area_words work) (omega arith))

  pub whole-zeroed : over whole 0 (zeros area_words) ≡ over work 0 (zeros area_words)
  whole-zeroed =
      let n = length-zeros area_words in
      let k : 0 + length (zeros area_words) ≡ area_words = omega arith in
      sets-eq (zeros area_words) whole 0 (rw whole_length (omega arith))
      ∙ rw (k, drop_at ws (drop area_words work) area_words size)
      (sym (sets-eq (zeros area_words) work 0 (omega arith) ∙ rw k))

  -- the words around a gap are handed back, and so many they are
  pub whole_words : {t : List ℕ} {gap : Gap} → Lies gap → term_in ws gap ≡ t → (words_in gap ≡ length t) × (term_in whole gap ≡ t)
  whole_words {gap = gap} l e = (sym (words-length {ws = ws} {gap = gap} (record { room = omega arith; lies = l })) ∙ ap length e, whole-term gap ∙ e)

  -- the end: the numbers, the answer buffer and the work buffer, by what the run hands on
  pub finishes : {o : Outcome} {e : RunResult} (out : List ℕ) → Ran o e ws → {gap : Gap} → e.outcome ≡ Ok gap →
      answer_and_buffers (record { number = 0; place = words_in gap; steps = e.steps }) (over out 0 (term_in whole gap)) (over whole 0 (zeros area_words)) ≡ expansion_of out work o
  finishes {o} {e} out h {gap} is = go o (subst (λ r. Hands o r ws) is h.hands) h.steps
    where
      go : (o : Outcome) → Hands o (Ok gap) ws → e.steps ≡ length (trace_of o) →
          answer_and_buffers (record { number = 0; place = words_in gap; steps = e.steps }) (over out 0 (term_in whole gap)) (over whole 0 (zeros area_words)) ≡ expansion_of out work o
      go (finished r) z k =
          let w = whole_words z.0 z.1 in
          same-result (λ i. record { number = 0; place = w.0 i; steps = k i }) (ap (over out 0) w.1) whole-zeroed
      go (stopped n t) z k = absurd z

  pub stops : {o : Outcome} {e : RunResult} (out : List ℕ) → Ran o e ws → {l : Limit} → e.outcome ≡ Err l →
      answer_and_buffers (record { number = limit_number l; place = 0; steps = e.steps }) out (over whole 0 (zeros area_words)) ≡ expansion_of out work o
  stops {o} {e} out h {l} is = go o (subst (λ r. Hands o r ws) is h.hands) h.steps
    where
      go : (o : Outcome) → Hands o (Err l) ws → e.steps ≡ length (trace_of o) →
          answer_and_buffers (record { number = limit_number l; place = 0; steps = e.steps }) out (over whole 0 (zeros area_words)) ≡ expansion_of out work o
      go (finished r) z k = absurd z
      go (stopped n t) z k = same-result (λ i. record { number = limit_number (z i); place = 0; steps = k i }) refl whole-zeroed
