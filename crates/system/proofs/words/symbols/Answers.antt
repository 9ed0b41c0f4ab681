-- As many symbols as the first word says, or as there are words.
use native.Mathlib.Omega.{arith}
use lib.ListN.{get_or}
use mathlib.Core.Path.{◌≡◌, ap}
use Rattle.system.proofs.words.BookWords.{signature-length}
use Rattle.system.proofs.words.symbols.Goals as goal

pub returns-in-Some : goal.returns-in-Some
returns-in-Some c =
    let k = c.in-Some.ensures.cases in
    let n : get_or c.args.book.now 0 0 ≡ c.in-Some.n.now = ap (λ ws. get_or ws 0 0) k.0 in
    let m = c.min.ensures in
    let w = c.wide.ensures in
    omega (arith, signature-length c.args.book.now)

pub returns-in-None : goal.returns-in-None
returns-in-None c = let k = c.in-None.ensures.cases in omega (arith, signature-length c.args.book.now)
