-- `sides::passes` meets its contract.
use mathlib.Core.Path.{◌∙◌}
use Rattle.system.specs.Signature.{signature_of}
use Rattle.sorts.proofs.sides.Rules.{rule-fails, rule-checked, unknown-is}
use Rattle.sorts.proofs.sides.passes.Goals as goal

pub returns-then-has_sort : goal.returns-then-has_sort
returns-then-has_sort c =
    let a = c.args in
    rule-checked (signature_of a.book.now) a.kinds.now (record { lhs = a.lhs.now; rhs = a.rhs.now }) c.offset-k.result c.offset-k.ensures.0
    c.has_sort.result _ _ unknown-is c.has_sort.ensures c.if-has_sort.true c.has_sort-then-has_sort.result _ c.has_sort-then-has_sort.ensures

pub returns-else-has_sort : goal.returns-else-has_sort
returns-else-has_sort c =
    let a = c.args in
    c.if-has_sort.false ∙ rule-fails (signature_of a.book.now) a.kinds.now (record { lhs = a.lhs.now; rhs = a.rhs.now }) c.offset-k.result c.offset-k.ensures.0
    c.has_sort.result _ _ unknown-is c.has_sort.ensures c.if-has_sort.false
