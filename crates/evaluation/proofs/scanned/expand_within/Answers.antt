-- `scanned::expand_within` meets its contract.
use native.Mathlib.Omega.{arith}
use mathlib.Core.Path.{◌≡◌, refl, sym, ap, ◌∙◌}
use lib.ListN.{length}
use lib.Seq.{length-take-le}
use Rattle.system.specs.Limits.{area_words}
use Rattle.reader.specs.Book.{system_of}
use Rattle.rewriting.specs.Evaluation.{Limits, evaluation, trace_of}
use Rattle.runs.specs.run.RunResult.{Ran}
use Rattle.evaluation.specs.Expansion.{answer_and_buffers, expansion_of, checked}
use Rattle.records.specs.recording.Kept.{limits_of, kept}
use Rattle.system.specs.Numbers.{number_of}
use Rattle.evaluation.proofs.Expanding.{Checks, checks, Passed, passed, refuses, evaluates, lent-refused, lent-told}
use Rattle.evaluation.proofs.Expanding.{whole_length, same-result, ran-lies, finishes, stops}
use Rattle.evaluation.proofs.scanned.expand_within.Goals as goal
use Rattle.evaluation.proofs.scanned.expand_within.Goals.{After-run-e, In-Ok, Start}

-- ---- what is known there

-- no check refuses
passes : (c : In-Ok) → let a = c.args in Passed a.scan.now.words.now a.term.now a.out.now a.work.now
passes c = passed _ _ _ _ c.in-Ok.ensures.checked

good : (c : In-Ok) → let a = c.args in Checks a.scan.now.words.now a.term.now
good c = let a = c.args in checks a.scan.now.words.now a.term.now (passes c).good

abbrev limits : Start → Limits
limits c = let a = c.args in limits_of a.bounds (length a.«record».now)

passes' : (c : After-run-e) → let a = c.args in Passed a.scan.now.words.now a.term.now a.out.now a.work.now
passes' c = passed _ _ _ _ c.in-Ok.ensures.checked

-- the lent part came back with its length
ran : (c : After-run-e) → length c.run-e.new.area ≡ area_words
ran c = c.run-e.auto.area ∙ length-take-le area_words c.args.work.now (passes' c).room-work

-- the run is over the words that were scanned
told : (c : After-run-e) → let a = c.args in let o = evaluation (system_of a.scan.now.words.now) (limits_of a.bounds (length a.«record».now)) a.term.now in
    Ran o c.run-e.result c.run-e.new.area × (c.run-e.new.«record» ≡ kept a.bounds.recorded a.«record».now (trace_of o))
told c = rw (← c.in-Ok.ensures.same) (c.run-e.ensures.ran, c.run-e.ensures.told)

-- ---- the goals

pub returns-in-Err : goal.returns-in-Err
returns-in-Err c =
    let a = c.args in
    let h = c.in-Err.ensures.checked in
    let bad : (checked a.scan.now.words.now a.term.now a.out.now a.work.now).number ≡ 0 → ⊥ = λ z. h.1 (ap (λ y. y.number) h.0 ∙ z) in
    record {
      expanded = ap (λ y. answer_and_buffers y a.out.now a.work.now) h.0 ∙ sym (refuses a.scan.now.words.now a.term.now a.out.now a.work.now _ bad);
      told = lent-refused a.bounds.recorded a.scan.now.words.now a.term.now (limits (goal.at.returns-in-Err c).Start) a.out.now a.work.now a.«record».now bad;
    }

pub slice_bounds-run-end : goal.slice_bounds-run-end
slice_bounds-run-end c = omega (arith, (passes (goal.at.slice_bounds-run-end c).In-Ok).room-work)

pub run-e-requires : goal.run-e-requires
run-e-requires c =
    let a = c.args in
    let k = good (goal.at.run-e-requires c).In-Ok in
    record {
      whole = rw c.in-Ok.ensures.same k.whole;
      bounded = k.bounded;
      words = length-take-le area_words a.work.now (passes (goal.at.run-e-requires c).In-Ok).room-work;
    }

pub hand_back-requires : goal.hand_back-requires
hand_back-requires c =
    let a = c.args in
    let p = passes (goal.at.hand_back-requires c).In-Ok in
    let ws = c.run-e.new.area in
    let length = whole_length a.work.now ws p.room-work (ran (goal.at.hand_back-requires c).After-run-e) in
    (omega (arith, p.room-work, length), ran-lies (told (goal.at.hand_back-requires c).After-run-e).0 c.in-Ok-outcome.is, p.room-answer)

pub words-requires : goal.words-requires
words-requires c = ran-lies (told (goal.at.words-requires c).After-run-e).0 c.in-Ok-outcome.is

pub clear-requires : goal.clear-requires
clear-requires c =
    let p = passes (goal.at.clear-requires c).In-Ok in
    omega (arith, p.room-work, whole_length c.args.work.now c.run-e.new.area p.room-work (ran (goal.at.clear-requires c).After-run-e))

pub returns-in-Ok-outcome : goal.returns-in-Ok-outcome
returns-in-Ok-outcome c =
    let a = c.args in
    let p = passes (goal.at.returns-in-Ok-outcome c).In-Ok in
    let l = limits (goal.at.returns-in-Ok-outcome c).Start in
    let o = evaluation (system_of a.scan.now.words.now) l a.term.now in
    let k = evaluates a.scan.now.words.now a.term.now a.out.now a.work.now (expansion_of a.out.now a.work.now o) p.room-answer p.room-work p.good in
    let h = told (goal.at.returns-in-Ok-outcome c).After-run-e in
    let z = finishes a.work.now c.run-e.new.area p.room-work (ran (goal.at.returns-in-Ok-outcome c).After-run-e) a.out.now h.0 c.in-Ok-outcome.is in
    record {
      expanded = same-result (λ i. record { number = c.into.ensures i; place = c.words.ensures i; steps = c.run-e.result.steps }) c.hand_back.ensures.answer c.hand_back.ensures.zeroed ∙ z ∙ sym k;
      told = h.1 ∙ lent-told a.bounds.recorded a.scan.now.words.now a.term.now l a.out.now a.work.now a.«record».now p;
    }

pub returns-in-Err-outcome : goal.returns-in-Err-outcome
returns-in-Err-outcome c =
    let a = c.args in
    let p = passes (goal.at.returns-in-Err-outcome c).In-Ok in
    let l = limits (goal.at.returns-in-Err-outcome c).Start in
    let o = evaluation (system_of a.scan.now.words.now) l a.term.now in
    let k = evaluates a.scan.now.words.now a.term.now a.out.now a.work.now (expansion_of a.out.now a.work.now o) p.room-answer p.room-work p.good in
    let h = told (goal.at.returns-in-Err-outcome c).After-run-e in
    let z = stops a.work.now c.run-e.new.area p.room-work (ran (goal.at.returns-in-Err-outcome c).After-run-e) a.out.now h.0 c.in-Err-outcome.is in
    let n = c.into-in-Err-outcome.ensures ∙ ap number_of c.from.ensures in
    record {
      expanded = same-result (λ i. record { number = n i; place = 0; steps = c.run-e.result.steps }) refl c.clear.ensures ∙ z ∙ sym k;
      told = h.1 ∙ lent-told a.bounds.recorded a.scan.now.words.now a.term.now l a.out.now a.work.now a.«record».now p;
    }
