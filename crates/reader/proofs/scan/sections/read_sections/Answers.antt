-- The whole book: after each section that was taken an equation says what is left to be read.
use Rattle.system.specs.Limits.{max_arity, max_symbols}
use Rattle.system.specs.Signature.{signature_of}
use Rattle.system.specs.declared.numbers.Fault.TheVariants.{Range}
use Rattle.reader.specs.Parser.{times, each, number, read_strategy, read_rules}
use Rattle.reader.proofs.scan.numbers.Sections.{passed}
use Rattle.reader.proofs.scan.sections.ScanSteps.{scan-refused, scan-start, scan-count, scan-arities, scan-strategies-count, scan-strategies, scan-whole}
use Prim.Native.Nat.{◌+◌}
use mathlib.Core.Path.{◌∙◌}
use Rattle.reader.proofs.scan.sections.read_sections.Goals as goal

pub returns-in_err-n : goal.returns-in_err-n
returns-in_err-n c =
    let ws = c.args.book.now in
    passed _ c.from_residual.ensures.1 ∙ scan-refused ws _ (number ws Range 1 max_symbols 0) _ (scan-start ws) c.in_err-n.ensures.value

pub returns-in_err-count : goal.returns-in_err-count
returns-in_err-count c =
    let ws = c.args.book.now in
    let n = c.in_ok-n in
    passed _ c.from_residual-in_err-count.ensures.1
    ∙ scan-refused ws _ (times n.n (number ws Range 0 max_arity) 1) _ (scan-count ws n.ensures.inside) c.in_err-count.ensures.value

pub returns-in_err-read_number : goal.returns-in_err-read_number
returns-in_err-read_number c =
    let ws = c.args.book.now in
    let n = c.in_ok-n in
    let i = c.in_ok-count in
    let a = scan-arities ws n.ensures.inside i.ensures.value in
    passed _ c.from_residual-in_err-read_number.ensures.1 ∙ scan-refused ws _ (number ws Range n.n n.n i.count) _ a.left c.in_err-read_number.ensures.value

pub returns-in_err-rules : goal.returns-in_err-rules
returns-in_err-rules c =
    let ws = c.args.book.now in
    let n = c.in_ok-n in
    let i = c.in_ok-count in
    let a = scan-arities ws n.ensures.inside i.ensures.value in
    passed _ c.from_residual-in_err-rules.ensures.1
    ∙ scan-refused ws _ (each (read_strategy ws) (signature_of ws) (i.count + 1)) _ (scan-strategies-count ws a c.in_ok-read_number.ensures.inside)
    (rw a.words at c.in_err-rules.ensures.value)

pub returns-in_err-end : goal.returns-in_err-end
returns-in_err-end c =
    let ws = c.args.book.now in
    let a = scan-arities ws c.in_ok-n.ensures.inside c.in_ok-count.ensures.value in
    let s = scan-strategies ws a c.in_ok-read_number.ensures.inside (rw a.words at c.in_ok-rules.ensures.value) in
    passed _ c.from_residual-in_err-end.ensures.1 ∙ scan-refused ws _ (read_rules ws (signature_of ws) c.in_ok-rules.rules) _ s.left c.in_err-end.ensures

pub returns : goal.returns
returns c =
    let ws = c.args.book.now in
    let a = scan-arities ws c.in_ok-n.ensures.inside c.in_ok-count.ensures.value in
    let s = scan-strategies ws a c.in_ok-read_number.ensures.inside (rw a.words at c.in_ok-rules.ensures.value) in
    scan-whole ws a c.in_ok-read_number.ensures.inside s c.in_ok-end.ensures
