use native.Mathlib.Numerals.{add-one}
use native.Mathlib.Omega.{arith}
use Rattle.std.proofs.Common.{◌≡◌, min, length, ap, ◌∙◌}
use Rattle.system.specs.Signature.{signature_of}
use Rattle.sorts.specs.Sorts.{offset}
use Rattle.sorts.proofs.sides.Lists.{offset-zero, offset-next, offset-listed}
use Rattle.sorts.proofs.sides.offset.Goals as goal

pub loop-j-init : goal.loop-j-init
loop-j-init c = (offset-zero _, omega arith)

pub loop-j-preserved : goal.loop-j-preserved
loop-j-preserved c =
    let g = signature_of c.args.book.now in
    let j = c.loop-j.j in
    let z = offset-next g j (omega arith) in
    let q = ap (offset g) (add-one j) in
    (omega arith, omega arith)

pub returns : goal.returns
returns c =
    let g = signature_of c.args.book.now in
    let end : c.loop-j.j ≡ min c.args.w (length g) = omega arith in
    let z = c.ranges.w in
    (c.loop-j.invariant.0 ∙ ap (offset g) end ∙ offset-listed g c.args.w, omega arith)
