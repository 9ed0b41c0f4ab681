-- The record and its replay as operations: what the replay accepts, why it refuses, and that what the evaluator wrote for a term that it handed
-- back, cut to its pairs, is accepted in any buffers that pass the checks, with the same numbers and the same term.
use Prim.Native.Nat.{ℕ, ◌*◌, ◌≤◌}
use native.Mathlib.Omega.{arith}
use mathlib.Core.Path.{◌≡◌, refl, sym, ap, ◌∙◌, subst}
use mathlib.Core.Logic.{◌⊎◌, inl, inr}
use mathlib.Core.Option.{Option, none, some}
use mathlib.Core.List.{List, []}
use lib.ListN.{length, take}
use Rattle.reader.specs.Answers.{whole_answer, term_answer}
use Rattle.reader.specs.Parser.{Parsed, ok, fault, read}
use Rattle.system.specs.TermCheck.{term_fault}
use Rattle.system.proofs.FaultNumbers.{fault-range}
use Rattle.reader.specs.Book.{system_of}
use Rattle.system.specs.Limits.{area_words, term_words}
use Rattle.system.specs.System.{System}
use Rattle.rewriting.specs.Trace.{Trace, in_order}
use Rattle.rewriting.specs.Evaluation.{Config, recorded, start}
use Rattle.rewriting.specs.Rewriting.{Path}
use Rattle.rewriting.proofs.Done.{path-last}
use Rattle.evaluation.specs.Expansion.{Expansion, expansion, record_after, handed_back}
use Rattle.rewriting.specs.Evaluation.{trace_of}
use Rattle.rewriting.specs.Trace.{keep}
use Rattle.evaluation.proofs.Expanding.{Checks, checks, checks-well, Course, narrow, wrong, runs, course, Passed, evaluates, record-told}
use Rattle.records.proofs.Records.{written, keep-cut}
use Rattle.evaluation.proofs.Handed.{handed, handed-checks, handed-done, handed-numbers, handed-words}
use Rattle.replay.specs.Replay.{Replay, followed, mistold, exceeded, replay, Verdict, accepted}
use Rattle.replay.specs.Replaying.{replay_of, replaying, AcceptsExactly, NoStep, IsMistold}
use Rattle.replay.proofs.Replays.{replay-verdict, replay-accepts, recorded-accepted}

-- the check of a book and a term says no number above 15
term-low : (book term : List ℕ) → (term_answer book term).number ≤ 15
unfolding term_answer
term-low book term = go (read book) refl
  where
    whole : (o : Option ℕ) → (whole_answer term o).number ≤ 15
    whole none = omega arith
    whole (some i) = omega arith

    go : (p : Parsed System) → read book ≡ p → (term_answer book term).number ≤ 15
    go (fault f i) e = rw (e, term_answer) (elim (fault-range f) [ inl r ↦ omega arith | inr q ↦ omega arith ])
    go (ok s j) e = rw (e, term_answer) (whole (term_fault s.arities 1 term 0))

module _ (book term words out work : List ℕ) where
  abbrev s : System
  s = system_of book

  abbrev o : Replay
  o = replay s words (start term)

  abbrev x : Expansion
  x = replaying book term words out work

  -- a call that is answered with 0 or 17 passed the checks, and its record was followed
  pub record Went : Type 0 where
    pub passed : Passed book term out work
    pub equal : x ≡ replay_of out work o
    pub checked : Checks book term
    pub verdict : Verdict s term words o

  went : (n : ℕ) → x.numbers.number ≡ n → (n ≡ 0) ⊎ (n ≡ 17) → Went
  went n e d = by (course book term out work (replay_of out work o))
    where
      number : {y : Expansion} → x ≡ y → y.numbers.number ≡ n
      number q = sym (ap (λ y. y.numbers.number) q) ∙ e

      by : Course book term out work (replay_of out work o) → Went
      by (narrow q) = absurd (let z = number q in elim d [ inl y ↦ omega arith | inr y ↦ omega arith ])
      by (wrong b q) = absurd (let z = number q in elim d [ inl y ↦ b (z ∙ y) | inr y ↦ (let l = term-low book term in omega arith) ])
      by (runs p q) =
          let c = checks book term p.good in
          record { passed = p; equal = q; checked = c; verdict = replay-verdict s (checks-well book term c) term words c.whole c.bounded }

  -- what is handed back of a record that was followed
  handed-back : (r : Config) → Passed book term out work → Checks book term → o ≡ followed r → x ≡ replay_of out work o →
      (x.numbers ≡ record { number = 0; place = length r.term; steps = length r.trace }) × (handed_back x ≡ r.term)
  handed-back r p c q e =
      let k = e ∙ ap (replay_of out work) q in
      let a = (replay-accepts s (checks-well book term c) term words r c.whole c.bounded).0 q in
      let b = path-last s a.0 in
      let l = p.room-answer in
      (ap (λ y. y.numbers) k, ap handed_back k ∙ written out r.term (length r.term) refl (omega arith))

  pub accepts-exactly : AcceptsExactly book term words out work x
  accepts-exactly = record { sound = λ e. let g = went 0 e (inl refl) in sound e g o refl g.verdict; complete = complete }
    where
      sound : x.numbers.number ≡ 0 → Went → (p : Replay) → o ≡ p → Verdict s term words p →
          (h : Trace) × (words ≡ in_order h []) × Path s term_words term h (handed_back x) × (x.numbers.steps ≡ length h)
      sound e g (followed r) q (accepted {h} {t} path told) =
          let b = handed-back (record { term = t; trace = h }) g.passed g.checked q g.equal in
          (h, told, subst (Path s term_words term h) (sym b.1) path, ap (λ y. y.steps) b.0)
      sound e g (mistold h) q v = absurd (let z = sym (ap (λ y. y.numbers.number) (g.equal ∙ ap (replay_of out work) q)) ∙ e in omega arith)
      sound e g (exceeded h) q v = absurd (let z = sym (ap (λ y. y.numbers.number) (g.equal ∙ ap (replay_of out work) q)) ∙ e in omega arith)

      complete : term_words ≤ length out → area_words ≤ length work → (term_answer book term).number ≡ 0 →
          (h : Trace) (t : List ℕ) → words ≡ in_order h [] → Path s term_words term h t →
          (x.numbers ≡ record { number = 0; place = length t; steps = length h }) × (handed_back x ≡ t)
      complete a b g h t told path =
          let c = checks book term g in
          let r : Config = record { term = t; trace = h } in
          let q = (replay-accepts s (checks-well book term c) term words r c.whole c.bounded).1 (path, told) in
          handed-back r (record { room-answer = a; room-work = b; good = g }) c q (evaluates book term out work (replay_of out work o) a b g)

  pub is-mistold : IsMistold book term words x
  is-mistold e = let g = went 17 e (inr refl) in go g o refl g.verdict
    where
      go : Went → (p : Replay) → o ≡ p → Verdict s term words p →
          (h : Trace) × (t : List ℕ) × Path s term_words term h t × (x.numbers.place ≡ length h) × (x.numbers.steps ≡ length h) × NoStep s t h words
      go g (followed r) q v = absurd (let z = sym (ap (λ y. y.numbers.number) (g.equal ∙ ap (replay_of out work) q)) ∙ e in omega arith)
      go g (exceeded h) q v = absurd (let z = sym (ap (λ y. y.numbers.number) (g.equal ∙ ap (replay_of out work) q)) ∙ e in omega arith)
      go g (mistold h) q (Verdict.half {t = t} p path told) =
          let k = g.equal ∙ ap (replay_of out work) q in
          (h, t, path, ap (λ y. y.numbers.place) k, ap (λ y. y.numbers.steps) k, NoStep.half p told)
      go g (mistold h) q (Verdict.wrong {t = t} p k rest path told no_step) =
          let e = g.equal ∙ ap (replay_of out work) q in
          (h, t, path, ap (λ y. y.numbers.place) e, ap (λ y. y.numbers.steps) e, NoStep.wrong p k rest told no_step)

-- "Every record that our expander wrote for a finished cue, cut to its pairs, is accepted and ends in that cue"
module _ (book term : List ℕ) (limit : ℕ) (out work words : List ℕ) where
  abbrev y : Expansion
  y = expansion book term (recorded limit (length words)) out work

  abbrev told : List ℕ
  told = record_after book term (recorded limit (length words)) out work words

  pub recorded-replays : y.numbers.number ≡ 0 → (out' work' : List ℕ) → term_words ≤ length out' → area_words ≤ length work' →
      let z = replaying book term (take (2 * y.numbers.steps) told) out' work' in (z.numbers ≡ y.numbers) × (handed_back z ≡ handed_back y)
  recorded-replays e out' work' a b =
      let h = handed book term (recorded limit (length words)) out work e in
      let c = handed-checks h in
      let r = h.run in
      let p : Passed book term out work = record { room-answer = h.room-answer; room-work = h.room-work; good = h.good } in
      let kept = record-told book term (recorded limit (length words)) out work words p ∙ ap (λ q. keep words (trace_of q)) h.evaluated in
      let n = ap (λ q. q.steps) (handed-numbers h) in
      let cut = (λ i. take (2 * n i) (kept i)) ∙ keep-cut words r.trace ((handed-done h).roomy (length words) refl) in
      let q = recorded-accepted (system_of book) (checks-well book term c) (recorded limit (length words)) term r c.whole c.bounded h.evaluated in
      let z = in_order r.trace [] in
      let k = handed-back book term z out' work' r (record { room-answer = a; room-work = b; good = h.good }) c q (evaluates book term out' work' _ a b h.good) in (
        ap (λ v. (replaying book term v out' work').numbers) cut ∙ k.0 ∙ sym (handed-numbers h),
        ap (λ v. handed_back (replaying book term v out' work')) cut ∙ k.1 ∙ sym (handed-words h),
      )
