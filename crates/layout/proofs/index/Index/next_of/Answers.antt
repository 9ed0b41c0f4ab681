-- `Index::next_of` meets its contract.
use Prim.Native.Nat.{ℕ, ◌+◌, ◌<◌}
use native.Mathlib.Omega.{arith}
use mathlib.Core.Path.{◌≡◌}
use lib.ListN.{get_or}
use Rattle.std.specs.Prelude.{Option, Some, None, IfSome}
use Rattle.system.specs.System.{rule, head}
use Rattle.reader.specs.Book.{system_of}
use Rattle.layout.specs.index.Index.{bucket, rule_after, RuleNumber}
use Rattle.layout.proofs.Books.{rule-count}
use Rattle.layout.proofs.index.Lists.{from-above, from-within}
use Rattle.layout.proofs.index.Noting.{rules-few}
use Rattle.layout.proofs.index.Index.next_of.Goals as goal
use Rattle.layout.proofs.index.Index.next_of.Goals.{Start}

-- a number that is found is above one that it is above
above : (rules n k : ℕ) (r : Option ℕ) → k < n → RuleNumber rules n r → IfSome r (λ m. k < m)
above rules n k None l h = tt
above rules n k (Some m) l h = omega (arith, h.0)

-- the word that is read
is : (c : Start) → let i = c.args.self.now in get_or i.places.now.nexts c.args.k 0 ≡ rule_after (system_of i.book.words.now) c.args.k
is c =
    let i = c.args.self.now in
    let n = rule-count i.book.words.now i.book.shape i.book.accepted in
    let m = c.requires in
    i.indexed.linked.follows c.args.k (omega arith) (omega arith)

pub bounds-self-k : goal.bounds-self-k
bounds-self-k c = let n = rules-few c.args.self.now.book.accepted in let slots = c.args.self.now.indexed.linked.next_slots in omega arith

pub offset_bounds-self-k : goal.offset_bounds-self-k
offset_bounds-self-k c = let n = rules-few c.args.self.now.book.accepted in omega arith

pub number-requires : goal.number-requires
number-requires c =
    let i = c.args.self.now in
    let s = system_of i.book.words.now in
    let n = rule-count i.book.words.now i.book.shape i.book.accepted in
    let e = is (goal.at.number-requires c).Start in
    let h = from-within s (c.args.k + 1) (bucket (head (rule s c.args.k).lhs)) (omega arith) in
    omega arith

pub returns-clause-number : goal.returns-clause-number
returns-clause-number c = rw (is (goal.at.returns-clause-number c).Start) at c.number.ensures

pub returns-clause-later : goal.returns-clause-later
returns-clause-later c =
    let i = c.args.self.now in
    let s = system_of i.book.words.now in
    let h = from-above s (c.args.k + 1) (bucket (head (rule s c.args.k).lhs)) in
    above _ _ c.args.k c.number.result (omega arith) (rw (is (goal.at.returns-clause-later c).Start) at c.number.ensures)
