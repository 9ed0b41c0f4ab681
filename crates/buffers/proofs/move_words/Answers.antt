-- `move_words` meets its contract.
use Rattle.std.proofs.Common.{◌∙◌, arith}
use Rattle.buffers.proofs.Over.{over-copy}
use Rattle.buffers.proofs.move_words.Goals as goal

pub returns : goal.returns
returns c =
    let a = c.args in
    c.copy_within.ensures.after ∙ over-copy a.w.now a.from a.to a.n _ (omega arith) (omega arith) (omega arith)
