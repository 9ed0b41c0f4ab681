-- The arity of symbol i stands at index i + 1; any other word takes as many as a built-in one.
use Rattle.system.proofs.words.BookWords.{signature-room, signature-arity}
use Rattle.system.proofs.Signatures.{arity-unlisted}
use Rattle.system.specs.Signature.{signature_of}
use Rattle.system.specs.Signature.{arity}
use lib.ListN.{length}
use Prim.Native.Nat.{◌<◌}
use native.Mathlib.Omega.{arith}
use mathlib.Core.Path.{sym, ap, ◌∙◌}
use Rattle.system.proofs.words.arity.Goals as goal

pub bounds-book-i : goal.bounds-book-i
bounds-book-i c = let ws = c.args.book.now in
    signature-room ws c.wide-i.result (omega arith)

pub returns-then-i-symbols : goal.returns-then-i-symbols
returns-then-i-symbols c = let ws = c.args.book.now in
    let h : c.wide-i.result < length (signature_of ws) = omega arith in (
      c.wide.ensures.0 ∙ sym (signature-arity ws c.wide-i.result h) ∙ ap (λ n. arity (signature_of ws) n) c.wide-i.ensures.0,
      c.wide.ensures.1,
    )

pub returns : goal.returns
returns c = let a = c.args in
    (c.built_in_arity.ensures.0 ∙ sym (arity-unlisted (signature_of a.book.now) a.w (let e = c.wide-i.ensures in omega arith)), omega arith)
