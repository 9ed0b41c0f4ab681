-- An entry of an operator's strategy, whichever entries were begun before.
use native.Mathlib.Omega.{arith}
use mathlib.Core.Logic.{inl, inr}
use Rattle.layout.proofs.entries.Asks.{plain_end, operator-end, operator-rules, operator-argument}
use Rattle.layout.proofs.entries.built_in_entry.Goals as goal

pub returns-then-n-eq0 : goal.returns-then-n-eq0
returns-then-n-eq0 c f =
    let n = c.built_in_arity-n in
    elim c.then-n-eq0.either [
      | inl z ↦ plain_end c.args.w f c.args.c n.result n.ensures.0 n.ensures.1 z
      | inr h ↦ operator-end c.args.w f c.args.c n.result n.ensures.0 n.ensures.1 h.0 h.1
    ]

pub returns-then-c-n : goal.returns-then-c-n
returns-then-c-n c f =
    let n = c.built_in_arity-n in
    operator-rules c.args.w f c.args.c n.result n.ensures.0 n.ensures.1 c.if-n-eq0.false c.if-c-n.true

pub returns : goal.returns
returns c f =
    let n = c.built_in_arity-n in
    operator-argument c.args.w f c.args.c n.result n.ensures.0 n.ensures.1 c.if-n-eq0.false (omega arith)
