-- `testing::lists` meets its contract: behind the last symbol is the list's end.
use mathlib.Core.Bool.{◌&&◌}
use mathlib.Core.Path.{◌≡◌, sym, ap, ◌∙◌}
use lib.ListN.{length}
use borrow.Author.Tests.{eq-eqb, ne_eqb}
use Rattle.system.specs.Signature.{signature_of}
use Rattle.sorts.specs.Sorts.{entries}
use Rattle.sort_test.specs.SortTest.{all_small, lists}
use Rattle.sort_test.proofs.testing.TestSteps.{entries_at, narrow-book}
use Rattle.sort_test.proofs.testing.lists.Goals as goal
use Rattle.sort_test.proofs.testing.lists.Goals.{After-offset}

ends : (c : After-offset) → c.offset.result ≡ entries (signature_of c.args.book.now.words.now)
ends c = c.offset.ensures.0 ∙ entries_at (signature_of c.args.book.now.words.now) (narrow-book c.args.book.now.accepted).few

-- ---- the goals

pub returns-then-kinds-offset : goal.returns-then-kinds-offset
unfolding lists
returns-then-kinds-offset c =
    let ks = c.args.kinds.now in
    let n = entries (signature_of c.args.book.now.words.now) in
    let e = ends (goal.at.returns-then-kinds-offset c).After-offset in
    c.all_small.ensures ∙ sym (ap (λ b. b && all_small ks) (eq-eqb (length ks) n (c.if-kinds-offset.true ∙ e)))

pub returns-else-kinds-offset : goal.returns-else-kinds-offset
unfolding lists
returns-else-kinds-offset c =
    let ks = c.args.kinds.now in
    let n = entries (signature_of c.args.book.now.words.now) in
    let e = ends (goal.at.returns-else-kinds-offset c).After-offset in
    ne_eqb (length ks) c.offset.result c.if-kinds-offset.false
    ∙ sym (ap (λ b. b && all_small ks) (ne_eqb (length ks) n (λ z. c.if-kinds-offset.false (z ∙ sym e))))
