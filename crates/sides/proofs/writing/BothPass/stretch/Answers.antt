-- A variable's stretch is copied with its lengths.
use native.Mathlib.Omega.{arith}
use Rattle.system.specs.Signature.{signature_of}
use Rattle.sides.proofs.writing.Turns.{variable-fits, variable-within, variable-copyable, writes-variable}
use Rattle.sides.proofs.writing.BothPass.stretch.Goals as goal

pub copy-requires : goal.copy-requires
copy-requires c =
    let q = c.requires in
    let o = q.4.written.onward in
    let r = o.measured.gapped in
    let z = r.lies.low in
    let y = r.lies.high in
    let b = o.before in
    (r.room, omega arith, variable-fits q.4 q.3, variable-within q.4 q.3)

pub returns : goal.returns
returns c t rest rest' k v =
    let p = c.args.self.now in
    writes-variable v k (c.copy.ensures (signature_of p.book.now) p.gap (variable-copyable v k))
