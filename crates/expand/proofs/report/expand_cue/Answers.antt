-- `expand_cue` meets its contract.
use native.Mathlib.Omega.{arith}
use Rattle.std.proofs.Common.{rules}
use Rattle.buffers.specs.Words.{zeros}
use Rattle.rewriting.specs.Evaluation.{unrecorded}
use Rattle.evaluation.proofs.Handed.{handed-fits}
use Rattle.expand.proofs.report.Reports.{answer-printed}
use Rattle.expand.proofs.report.expand_cue.Goals as goal

pub put_answer-requires : goal.put_answer-requires
put_answer-requires g c =
    let a = c.args in
    let x = c.expand-a in
    (search rules, (handed-fits a.book.now a.cue.now (unrecorded a.allowance) _ _ _ x.ensures, (rw x.auto.out (omega arith), c.requires)))

pub returns : goal.returns
unfolding zeros
returns g c =
    let x = c.expand-a in
    rw (answer-printed x.result x.new.out x.new.work _ x.ensures) at c.put_answer.ensures
