-- `lengths::push_length` meets its contract: the word's arguments end where `hop` says, and its length is told by that.
use Prim.Native.Nat.{◌+◌, ◌-◌, ◌≤◌}
use native.Mathlib.Omega.{arith}
use mathlib.Core.Path.{◌≡◌}
use Rattle.system.specs.Limits.{term_words}
use Rattle.system.specs.Signature.{signature_of}
use Rattle.rows.proofs.lengths.Measures.{measured-from}
use Rattle.rows.proofs.lengths.Lengthens.{length-small, lengthened-word}
use Rattle.rows.proofs.lengths.push_length.Goals as goal
use Rattle.rows.proofs.lengths.push_length.Goals.{After-hop-length}

small : (c : After-hop-length) → c.hop-length.result + c.args.back ≤ term_words
small c =
    let a = c.args in
    let k = c.arity in
    length-small c.requires.0 (a.back - 1) k.result c.hop-length.result k.ensures.0
    (c.hop-length.ensures (signature_of a.book.now) (measured-from c.requires.0 0))

-- ---- the goals

pub overflow_add-length : goal.overflow_add-length
overflow_add-length c = let s = small c in omega arith

pub overflow_cast-area : goal.overflow_cast-area
overflow_cast-area c = let s = small c in omega arith

pub returns : goal.returns
returns c =
    let a = c.args in
    let k = c.arity in
    let s = c.requires.1 in
    let e : (a.back - 1) + 1 ≡ a.back = omega arith in
    (e, lengthened-word c.requires.0 (a.back - 1) k.result c.hop-length.result k.ensures.0 (c.hop-length.ensures (signature_of a.book.now) (measured-from c.requires.0 0)) e)
