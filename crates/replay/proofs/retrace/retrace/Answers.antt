use Prim.Native.Nat.{min, ◌+◌, ◌*◌, ◌≤◌}
use native.Mathlib.Omega.{arith}
use mathlib.Core.Path.{ap, ◌∙◌, subst}
use Rattle.std.proofs.Common.{rules}
use Rattle.std.specs.Prelude.{Result, Ok, Err, MatchResult}
use Rattle.walks.specs.declared.walk.Finger.{Finger}
use Rattle.rows.specs.Rows.{term_in}
use Rattle.rewriting.specs.Evaluation.{start}
use Rattle.replay.specs.declared.retrace.Halt.{Halt}
use Rattle.replay.specs.declared.retrace.Pair.{Pair}
use Rattle.replay.specs.Replay.{replay}
use Rattle.replay.specs.retrace.Retraces.{Follows, Retraces}
use lib.ListN.{length, length-drop}
use Rattle.std.specs.Iterator.Adapters.{enumerate_count, enumerate_source}
use Rattle.std.specs.Slice.Iter.{chunks_rest}
use Rattle.reader.specs.Book.{system_of}
use Rattle.system.specs.Signature.{signature_of}
use Rattle.rows.specs.gap.Gaps.{behind}
use Rattle.rows.specs.lengths.Written.{Laid}
use Rattle.replay.proofs.retrace.Stepping.{follows-in}
use Rattle.replay.proofs.retrace.Tracing.{Cut, half-left, pair-left, pair-first, pair-second, pair-rest, Tracing, tracing-start, traces-end, traces-half, turns}
use Rattle.replay.proofs.retrace.retrace.Goals as goal
use Rattle.replay.proofs.retrace.retrace.Goals.{In-Some, After-follow}

pub loop-steps-init : goal.loop-steps-init
loop-steps-init c =
    let a = c.args in
    let ws = c.lay-back.new.area in
    let it = c.into_iter-steps-iterator.ensures.into_iter_gives in
    let l = subst (λ n. Laid (signature_of a.book.now.words.now) a.term.now n ws (behind c.lay-back.result)) c.requires.words c.lay-back.ensures in
    let source = ap enumerate_source it ∙ c.enumerate-steps-items.ensures.source in
    let none = ap enumerate_count it ∙ c.enumerate-steps-items.ensures.count in
    record {
      tracing = rw none (tracing-start a.book.now a.term.now a.«record».now ws (behind c.lay-back.result) c.requires.whole l);
      rest = rw (source, none) c.chunks.ensures.rest;
      size = rw source c.chunks.ensures.size;
    }

-- what the turn takes of the record
cut : (c : In-Some) →
    Cut c.args.«record».now (enumerate_count c.loop-steps.steps-iterator) (chunks_rest (enumerate_source c.loop-steps.steps-iterator)) c.in-Some.words.now
    (chunks_rest (enumerate_source c.next.new.self))
cut c =
    let l = c.loop-steps in
    let h = c.in-Some.ensures.steps.0.1 in
    record { behind = l.invariant.rest; cut = h.0; many = h.1 ∙ ap (λ n. min n (length (chunks_rest (enumerate_source l.steps-iterator)))) l.invariant.size; some = h.2 }

pub returns-then-words-lt2 : goal.returns-then-words-lt2
returns-then-words-lt2 c =
    let z = half-left (cut (goal.at.returns-then-words-lt2 c).In-Some) (search rules) in
    rw c.in-Some.ensures.steps.1 (traces-half _ _ _ c.loop-steps.invariant.tracing z.0 z.1)

-- the pair that was read
abbrev pair : After-follow → Pair
pair c = record { at = c.wide.result; number = c.wide-in-loop-steps.result }

-- what came of it, over the book of the index
turned : (c : After-follow) →
    Cut c.args.«record».now (enumerate_count c.loop-steps.steps-iterator) (chunks_rest (enumerate_source c.loop-steps.steps-iterator)) c.in-Some.words.now
    (chunks_rest (enumerate_source c.next.new.self)) → (e : Result Finger Halt) →
    Follows (system_of c.build_index-index.result.book.words.now) (term_in c.loop-steps.area c.loop-steps.f.gap) (pair c) c.follow.new.area e →
    MatchResult e (λ f. Tracing (system_of c.args.book.now.words.now) c.args.term.now c.args.«record».now c.follow.new.area f (enumerate_count c.loop-steps.steps-iterator + 1))
    (λ why. Retraces c.follow.new.area (replay (system_of c.args.book.now.words.now) c.args.«record».now (start c.args.term.now))
    (Err (record { why = why; steps = enumerate_count c.loop-steps.steps-iterator })))
turned c p e h =
    let a = c.args in
    let v = c.loop-steps.invariant.tracing in
    let m = c.in-len2.len_at_least in
    turns (system_of a.book.now.words.now) a.term.now a.«record».now v (pair-left p m) (pair c)
    (c.wide.ensures.0 ∙ pair-first p m) (c.wide-in-loop-steps.ensures.0 ∙ pair-second p m) c.follow.new.area e
    (follows-in a.book.now v.points
    (subst (λ b. Follows (system_of b.words.now) (term_in c.loop-steps.area c.loop-steps.f.gap) (pair c) c.follow.new.area e) c.build_index-index.ensures h))

pub returns-in-Err : goal.returns-in-Err
returns-in-Err c = rw c.in-Some.ensures.steps.1 (turned (goal.at.returns-in-Err c).After-follow (cut (goal.at.returns-in-Err c).In-Some) (Err c.in-Err.why) c.in-Err.ensures.followed)

pub loop-steps-preserved : goal.loop-steps-preserved
loop-steps-preserved c =
    let h = c.in-Some.ensures.steps in
    let some = (goal.at.loop-steps-preserved c).In-Some in
    record {
      tracing = rw h.2 (turned (goal.at.loop-steps-preserved c).After-follow (cut some) (Ok c.in-Ok.next) c.in-Ok.ensures.followed);
      rest = rw h.2 (pair-rest (cut some) c.in-len2.len_at_least);
      size = h.0.0 ∙ c.loop-steps.invariant.size;
    }

pub returns : goal.returns
returns c =
    let h = c.in-None.ensures.steps in
    let l = c.loop-steps.invariant in
    let k = enumerate_count c.loop-steps.steps-iterator in
    let e : length c.args.«record».now ≤ 2 * k = omega (arith, length-drop (2 * k) c.args.«record».now, ap length l.rest, h.0.1.0) in
    traces-end _ _ _ l.tracing e _ (let z = l.tracing.fits in omega arith)
