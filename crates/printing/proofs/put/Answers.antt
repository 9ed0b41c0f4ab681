-- `put` meets its contract.
use Rattle.std.proofs.Common.{length, refl, arith}
use Rattle.buffers.proofs.Over.{over-put}
use Rattle.printing.proofs.put.Goals as goal

pub returns : goal.returns
returns c =
    let a = c.args in
    record {
      ends = refl;
      fits = omega arith;
      becomes = rw c.copy_from_slice.ensures.after (over-put a.text.now a.at (length a.bytes.now) _ a.bytes.now c.requires refl (omega arith));
    }
