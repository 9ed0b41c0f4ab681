-- `Index::first_of` meets its contract.
use Prim.Native.Nat.{◌%◌}
use native.Mathlib.Omega.{arith}
use mathlib.Core.Path.{◌≡◌}
use lib.ListN.{get_or}
use Rattle.reader.specs.Book.{system_of}
use Rattle.layout.specs.index.Index.{bucket, buckets, rule_from}
use Rattle.layout.proofs.Books.{rule-count}
use Rattle.layout.proofs.index.Lists.{from-within}
use Rattle.layout.proofs.index.Index.first_of.Goals as goal
use Rattle.layout.proofs.index.Index.first_of.Goals.{After-wide}

-- the word that is read
is : (c : After-wide) → let i = c.args.self.now in
    get_or i.places.now.firsts (c.wide.result % buckets) 0 ≡ rule_from (system_of i.book.words.now) 0 (bucket c.args.w)
is c = rw c.wide.ensures.0 (c.args.self.now.indexed.linked.heads (bucket c.args.w) (omega arith))

pub number-requires : goal.number-requires
number-requires c =
    let i = c.args.self.now in
    let e = is (goal.at.number-requires c).After-wide in
    let n = rule-count i.book.words.now i.book.shape i.book.accepted in
    let h = from-within (system_of i.book.words.now) 0 (bucket c.args.w) (omega arith) in
    omega arith

pub returns : goal.returns
returns c = rw (is (goal.at.returns c).After-wide) at c.number.ensures
