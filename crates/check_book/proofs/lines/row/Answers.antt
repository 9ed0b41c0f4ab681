-- `row` meets its contract.
use mathlib.Core.Path.{refl}
use Rattle.check_book.proofs.lines.row.Goals as goal

pub returns-in-Missing-clause-told : goal.returns-in-Missing-clause-told
returns-in-Missing-clause-told c = rw c.in-Missing.is (refl, refl)

pub returns-in-Range-clause-told : goal.returns-in-Range-clause-told
returns-in-Range-clause-told c = rw c.in-Range.is (refl, refl)

pub returns-in-Entry-clause-told : goal.returns-in-Entry-clause-told
returns-in-Entry-clause-told c = rw c.in-Entry.is (refl, refl)

pub returns-in-Unknown-clause-told : goal.returns-in-Unknown-clause-told
returns-in-Unknown-clause-told c = rw c.in-Unknown.is (refl, refl)

pub returns-in-Unbalanced-clause-told : goal.returns-in-Unbalanced-clause-told
returns-in-Unbalanced-clause-told c = rw c.in-Unbalanced.is (refl, refl)

pub returns-in-VariableHead-clause-told : goal.returns-in-VariableHead-clause-told
returns-in-VariableHead-clause-told c = rw c.in-VariableHead.is (refl, refl)

pub returns-in-Unbound-clause-told : goal.returns-in-Unbound-clause-told
returns-in-Unbound-clause-told c = rw c.in-Unbound.is (refl, refl)

pub returns-in-Trailing-clause-told : goal.returns-in-Trailing-clause-told
returns-in-Trailing-clause-told c = rw c.in-Trailing.is (refl, refl)

pub returns-in-BuiltInHead-clause-told : goal.returns-in-BuiltInHead-clause-told
returns-in-BuiltInHead-clause-told c = rw c.in-BuiltInHead.is (refl, refl)
