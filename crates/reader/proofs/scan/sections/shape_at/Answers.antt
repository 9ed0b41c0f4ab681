-- There are no more symbols than words.
use native.Mathlib.Omega.{arith}
use Prim.Native.Nat.{◌+◌}
use Rattle.system.proofs.words.BookWords.{signature-within}
use Rattle.reader.proofs.scan.sections.shape_at.Goals as goal

pub overflow_add-result : goal.overflow_add-result
overflow_add-result c = let h = signature-within c.args.book.now in omega arith

pub returns : goal.returns
returns c =
    let n = c.symbols-symbols.ensures in
    let r = c.wide.ensures.0 in
    λ j. record { symbols = n j; strategies = n j + 2; rules = r j; first_rule = c.args.at + 1 }
