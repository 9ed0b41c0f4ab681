-- A symbol is a word below the number of symbols, or a built-in one.
use Rattle.system.proofs.Signatures.{symbol-lt, symbol-unlisted}
use Rattle.system.specs.Signature.{signature_of}
use borrow.Author.Tests.{lt-ltb}
use native.Mathlib.Omega.{arith}
use mathlib.Core.Path.{sym, ◌∙◌}
use Rattle.system.proofs.words.is_symbol.Goals as goal

pub returns-then-wide-symbols : goal.returns-then-wide-symbols
returns-then-wide-symbols c =
    let e = c.wide.ensures in
    lt-ltb c.wide.result c.symbols.result (omega arith) ∙ sym (symbol-lt (signature_of c.args.book.now) c.args.w (omega arith))

pub returns-else-wide-symbols : goal.returns-else-wide-symbols
returns-else-wide-symbols c =
    let e = c.wide.ensures in
    c.is_built_in.ensures ∙ sym (symbol-unlisted (signature_of c.args.book.now) c.args.w (omega arith))
