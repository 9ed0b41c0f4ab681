use mathlib.Core.Path.{◌≡◌, ◌∙◌}
use native.Mathlib.Omega.{arith}
use native.Mathlib.Numerals.{add-one}
use lib.ListN.{length, take, length-set}
use lib.Seq.{length-take-le, take-suc, take_all}
use Rattle.buffers.proofs.Over.{over-snoc}
use Rattle.buffers.proofs.copy_in.Goals as goal

pub loop-i-preserved : goal.loop-i-preserved
loop-i-preserved c =
    let l = c.loop-i in
    let src = c.args.src.now in
    let n : length (take l.i src) ≡ l.i = length-take-le l.i src (omega arith) in
    (omega arith, rw length-set l.invariant.1, rw (l.invariant.2, add-one, take-suc src l.i 0 (omega arith), over-snoc, n))

pub returns : goal.returns
returns c =
    let l = c.loop-i in
    l.invariant.2 ∙ rw (take_all l.i c.args.src.now (omega arith))
