-- `running::run_at` meets its contract: at each place a law of Rounds, Steps or Onward.
use native.Mathlib.Omega.{arith}
use mathlib.Core.Path.{refl, sym, ◌∙◌, subst}
use lib.ListN.{length}
use Rattle.machine.proofs.advance.Areas.{tracks-first}
use Rattle.records.specs.recording.Kept.{paired}
use Rattle.records.proofs.Limiting.{pair_fits}
use Rattle.steps.proofs.steps.Stepping.{step-inside}
use Rattle.runs.proofs.running.Running.{running-start}
use Rattle.runs.proofs.running.Rounds.{round-of, meets-here, ends-final, ends-deep, comes-before}
use Rattle.runs.proofs.running.Steps.{before-room, stops-met, room-left, waits_there, long-there}
use Rattle.runs.proofs.running.Onward.{Goes, number_fits, goes}
use Rattle.runs.proofs.running.run_at.Goals as goal

pub loop-redex-init : goal.loop-redex-init
loop-redex-init c = running-start _ c.requires

pub advance-a-requires : goal.advance-a-requires
advance-a-requires c = tracks-first c.loop-redex.invariant.holds

pub returns-in-Final : goal.returns-in-Final
returns-in-Final c =
    let k = round-of c.args.index.now.book.accepted c.loop-redex.invariant c.requires c.advance-a.result c.advance-a.new.area c.advance-a.new.frame c.advance-a.ensures.advanced in
    ends-final k c.in-Final.is _ refl

pub returns-in-Deep : goal.returns-in-Deep
returns-in-Deep c =
    let k = round-of c.args.index.now.book.accepted c.loop-redex.invariant c.requires c.advance-a.result c.advance-a.new.area c.advance-a.new.frame c.advance-a.ensures.advanced in
    ends-deep k c.in-Deep.is _ refl

-- ---- a rewrite is next

pub returns-in-Some : goal.returns-in-Some
returns-in-Some c =
    let k = round-of c.args.index.now.book.accepted c.loop-redex.invariant c.requires c.advance-a.result c.advance-a.new.area c.advance-a.new.frame c.advance-a.ensures.advanced in
    let b = comes-before k c.in-Ready.is in
    stops-met k b c.in-Some.limit (sym c.in-Some.is ∙ meets-here k c.limit_met.ensures.limit) _ refl

pub overflow_sub-steps : goal.overflow_sub-steps
overflow_sub-steps c = let z = c.loop-redex.invariant.since in omega arith

pub size_after-requires : goal.size_after-requires
size_after-requires c =
    let k = round-of c.args.index.now.book.accepted c.loop-redex.invariant c.requires c.advance-a.result c.advance-a.new.area c.advance-a.new.frame c.advance-a.ensures.advanced in
    (comes-before k c.in-Ready.is).steppable

pub returns-then-size_after-gt-TERM_WORDS : goal.returns-then-size_after-gt-TERM_WORDS
returns-then-size_after-gt-TERM_WORDS c =
    let k = round-of c.args.index.now.book.accepted c.loop-redex.invariant c.requires c.advance-a.result c.advance-a.new.area c.advance-a.new.frame c.advance-a.ensures.advanced in
    let b = comes-before k c.in-Ready.is in
    let free = sym (meets-here k c.limit_met.ensures.limit) ∙ c.in_default.is in
    let size = c.size_after.ensures b.steppable.x b.steppable.contracts in
    long-there k b free c.if-from-steps.true (omega (arith, size, c.if-size_after-gt-TERM_WORDS.true)) _ refl

pub returns-else-size_after-gt-TERM_WORDS : goal.returns-else-size_after-gt-TERM_WORDS
returns-else-size_after-gt-TERM_WORDS c =
    let k = round-of c.args.index.now.book.accepted c.loop-redex.invariant c.requires c.advance-a.result c.advance-a.new.area c.advance-a.new.frame c.advance-a.ensures.advanced in
    let b = comes-before k c.in-Ready.is in
    let free = sym (meets-here k c.limit_met.ensures.limit) ∙ c.in_default.is in
    let size = c.size_after.ensures b.steppable.x b.steppable.contracts in
    waits_there k b free c.if-from-steps.true (omega (arith, size, c.if-size_after-gt-TERM_WORDS.false)) _ refl

pub bounds-frame-level : goal.bounds-frame-level
bounds-frame-level c =
    let k = round-of c.args.index.now.book.accepted c.loop-redex.invariant c.requires c.advance-a.result c.advance-a.new.area c.advance-a.new.frame c.advance-a.ensures.advanced in
    let b = comes-before k c.in-Ready.is in
    omega (arith, before-room k b, b.tracks.slots)

pub step-r-requires : goal.step-r-requires
step-r-requires c =
    let k = round-of c.args.index.now.book.accepted c.loop-redex.invariant c.requires c.advance-a.result c.advance-a.new.area c.advance-a.new.frame c.advance-a.ensures.advanced in
    (comes-before k c.in-Ready.is).steppable

pub returns-then-r : goal.returns-then-r
returns-then-r c =
    let k = round-of c.args.index.now.book.accepted c.loop-redex.invariant c.requires c.advance-a.result c.advance-a.new.area c.advance-a.new.frame c.advance-a.ensures.advanced in
    let b = comes-before k c.in-Ready.is in
    let free = sym (meets-here k c.limit_met.ensures.limit) ∙ c.in_default.is in
    let on = goes k b free c.if-from-steps.false c.step-r.result _ c.step-r.ensures.stepped in
    subst (Goes k c.in-Ready.redex c.step-r.new.area c.step-r.result.gap) c.if-r.true on _ refl

pub put_pair-requires : goal.put_pair-requires
put_pair-requires c =
    let k = round-of c.args.index.now.book.accepted c.loop-redex.invariant c.requires c.advance-a.result c.advance-a.new.area c.advance-a.new.frame c.advance-a.ensures.advanced in
    let b = comes-before k c.in-Ready.is in
    let free = sym (meets-here k c.limit_met.ensures.limit) ∙ c.in_default.is in
    let f = pair_fits k.a.from.bounds (length k.a.words) k.steps (room-left k b free).1 in
    let n = number_fits k b in
    let i = step-inside c.args.index.now.book.accepted b.steppable in
    let t = b.tracks.represents.valid.bounded in
    (λ y. omega (arith, f y, k.running.room), omega arith, omega arith)

pub overflow_add-steps : goal.overflow_add-steps
overflow_add-steps c = omega (arith, c.in_default.ensures.counted)

pub loop-redex-smaller : goal.loop-redex-smaller
loop-redex-smaller c =
    let z = c.loop-redex.invariant.since in
    omega (arith, c.if-from-steps.false)

pub loop-redex-preserved : goal.loop-redex-preserved
loop-redex-preserved c =
    let k = round-of c.args.index.now.book.accepted c.loop-redex.invariant c.requires c.advance-a.result c.advance-a.new.area c.advance-a.new.frame c.advance-a.ensures.advanced in
    let b = comes-before k c.in-Ready.is in
    let free = sym (meets-here k c.limit_met.ensures.limit) ∙ c.in_default.is in
    let on = goes k b free c.if-from-steps.false c.step-r.result _ c.step-r.ensures.stepped in
    subst (Goes k c.in-Ready.redex c.step-r.new.area c.step-r.result.gap) c.if-r.false on _
    (c.put_pair.ensures ∙ (λ i. paired k.a.from.bounds.recorded k.words k.steps (c.from-at.ensures i) (c.number.ensures i)))
