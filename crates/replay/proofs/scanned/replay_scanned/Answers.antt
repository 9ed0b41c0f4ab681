-- `scanned::replay_scanned` meets its contract.
use native.Mathlib.Omega.{arith}
use mathlib.Core.Path.{◌≡◌, refl, sym, ap, ◌∙◌}
use lib.ListN.{length}
use lib.Seq.{length-take-le}
use Rattle.system.specs.Limits.{area_words}
use Rattle.reader.specs.Book.{system_of}
use Rattle.rewriting.specs.Evaluation.{start}
use Rattle.evaluation.specs.Expansion.{answer_and_buffers, checked}
use Rattle.evaluation.proofs.Expanding.{checks, Passed, passed, refuses, evaluates, whole_length, same-result}
use Rattle.replay.specs.Replay.{replay}
use Rattle.replay.specs.Replaying.{replay_of}
use Rattle.replay.proofs.Handing.{replayed-lies, replayed, halted}
use Rattle.replay.proofs.scanned.replay_scanned.Goals as goal
use Rattle.replay.proofs.scanned.replay_scanned.Goals.{After-retrace, In-Ok}

-- ---- what is known there

passes : (c : In-Ok) → let a = c.args in Passed a.scan.now.words.now a.term.now a.out.now a.work.now
passes c = passed _ _ _ _ c.in-Ok.ensures.checked

passes' : (c : After-retrace) → let a = c.args in Passed a.scan.now.words.now a.term.now a.out.now a.work.now
passes' c = passed _ _ _ _ c.in-Ok.ensures.checked

-- the lent part came back with its length
ran : (c : After-retrace) → length c.retrace.new.area ≡ area_words
ran c = c.retrace.auto.area ∙ length-take-le area_words c.args.work.now (passes' c).room-work

-- ---- the goals

pub returns-in-Err : goal.returns-in-Err
returns-in-Err c =
    let a = c.args in
    let h = c.in-Err.ensures.checked in
    let bad : (checked a.scan.now.words.now a.term.now a.out.now a.work.now).number ≡ 0 → ⊥ = λ z. h.1 (ap (λ y. y.number) h.0 ∙ z) in
    ap (λ y. answer_and_buffers y a.out.now a.work.now) (c.into.ensures ∙ h.0) ∙ sym (refuses a.scan.now.words.now a.term.now a.out.now a.work.now _ bad)

pub slice_bounds-retrace-end : goal.slice_bounds-retrace-end
slice_bounds-retrace-end c = omega (arith, (passes (goal.at.slice_bounds-retrace-end c).In-Ok).room-work)

pub retrace-requires : goal.retrace-requires
retrace-requires c =
    let a = c.args in
    let p = passes (goal.at.retrace-requires c).In-Ok in
    let k = checks a.scan.now.words.now a.term.now p.good in
    record {
      whole = rw c.in-Ok.ensures.same k.whole;
      bounded = k.bounded;
      words = length-take-le area_words a.work.now p.room-work;
    }

pub hand_back-requires : goal.hand_back-requires
hand_back-requires c =
    let a = c.args in
    let p = passes (goal.at.hand_back-requires c).In-Ok in
    let ws = c.retrace.new.area in
    let size = ran (goal.at.hand_back-requires c).After-retrace in (
      omega (arith, p.room-work, whole_length a.work.now ws p.room-work size),
      replayed-lies a.work.now ws p.room-work size _ c.in-Ok-retrace.e c.in-Ok-retrace.ensures,
      p.room-answer,
    )

pub returns-in-Ok-retrace : goal.returns-in-Ok-retrace
returns-in-Ok-retrace c =
    let a = c.args in
    let e = c.in-Ok-retrace.e in
    let p = passes (goal.at.returns-in-Ok-retrace c).In-Ok in
    let o = replay (system_of a.scan.now.words.now) a.«record».now (start a.term.now) in
    let k = evaluates a.scan.now.words.now a.term.now a.out.now a.work.now (replay_of a.out.now a.work.now o) p.room-answer p.room-work p.good in
    let z = replayed a.work.now c.retrace.new.area p.room-work (ran (goal.at.returns-in-Ok-retrace c).After-retrace) o e a.out.now (rw (← c.in-Ok.ensures.same) c.in-Ok-retrace.ensures) in
    same-result (λ i. record { number = c.into-in-Ok-retrace.ensures i; place = c.words.ensures i; steps = e.steps }) c.hand_back.ensures.answer c.hand_back.ensures.zeroed ∙ z ∙ sym k

pub returns-in-Err-retrace : goal.returns-in-Err-retrace
returns-in-Err-retrace c =
    let a = c.args in
    let p = passes (goal.at.returns-in-Err-retrace c).In-Ok in
    let o = replay (system_of a.scan.now.words.now) a.«record».now (start a.term.now) in
    let k = evaluates a.scan.now.words.now a.term.now a.out.now a.work.now (replay_of a.out.now a.work.now o) p.room-answer p.room-work p.good in
    let z = halted a.work.now c.retrace.new.area p.room-work (ran (goal.at.returns-in-Err-retrace c).After-retrace) o c.in-Err-retrace.halted a.out.now
    (rw (← c.in-Ok.ensures.same) c.in-Err-retrace.ensures) in
    same-result c.into-in-Err-retrace.ensures refl c.clear.ensures ∙ z ∙ sym k
