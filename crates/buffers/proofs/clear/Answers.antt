-- `clear` meets its contract.
use Rattle.std.proofs.Common.{◌≡◌, ◌+◌, ◌-◌, length, take, drop, ap, ◌∙◌, arith}
use Rattle.std.proofs.Math.ListN.{replicate}
use Rattle.buffers.specs.Words.{zeros}
use Rattle.buffers.proofs.Over.{length_part, over-put}
use Rattle.buffers.proofs.Zeros.{length-zeros}
use Rattle.buffers.proofs.clear.Goals as goal

pub returns : goal.returns
unfolding zeros
returns c =
    let a = c.args in
    let size : a.at + a.n - a.at ≡ a.n = omega arith in
    let long : length (take (a.at + a.n - a.at) (drop a.at a.w.now)) ≡ a.n = rw size (length_part a.at a.n a.w.now c.requires) in
    let filled : c.fill.new.self ≡ zeros a.n = c.fill.ensures.after (λ y h. h) ∙ ap (λ m. replicate m 0) long in
    rw filled (over-put a.w.now a.at a.n _ (zeros a.n) c.requires (length-zeros a.n) size)
