-- `lengths::push` meets its contract: the word's arguments end where `hop` says, and its length is told by that.
use Prim.Native.Nat.{◌+◌, ◌-◌, ◌≤◌}
use native.Mathlib.Omega.{arith}
use mathlib.Core.Path.{◌≡◌}
use lib.ListN.{drop}
use Rattle.system.specs.Limits.{term_words}
use Rattle.system.specs.Signature.{span, signature_of}
use Rattle.rows.specs.Rows.{term_in}
use Rattle.rows.proofs.lengths.Writes.{push-small, written-word}
use Rattle.rows.proofs.lengths.push.Goals as goal
use Rattle.rows.proofs.lengths.push.Goals.{After-hop-end}

ended : (c : After-hop-end) →
    c.hop-end.result ≡ c.args.to + span (signature_of c.args.book.now) (drop c.args.to (term_in c.args.area.now c.args.gap)) c.arity.result
ended c = c.hop-end.ensures (signature_of c.args.book.now) c.requires.0.measured

small : (c : After-hop-end) → (c.args.to ≤ c.hop-end.result) × (c.hop-end.result ≤ term_words)
small c =
    let k = c.arity in
    push-small c.requires.0 c.args.w k.result c.hop-end.result k.ensures.0 (ended c)

-- ---- the goals

pub overflow_cast-area : goal.overflow_cast-area
overflow_cast-area c = let s = small c in omega arith

pub returns : goal.returns
returns c =
    let a = c.args in
    let k = c.arity in
    let s = c.requires.1 in
    written-word c.requires.0 a.w k.result c.hop-end.result k.ensures.0 (ended c) (a.to - 1) (omega arith)
