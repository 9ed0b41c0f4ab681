-- A side: its length decides, and then its words.
use Rattle.reader.specs.Parser.{number, read_side, read_words}
use Rattle.reader.specs.scan.Sections.{side_of}
use Rattle.system.specs.Limits.{side_words}
use Rattle.system.specs.Signature.{signature_of}
use Rattle.system.specs.declared.numbers.Fault.TheVariants.{Range}
use Rattle.reader.proofs.scan.numbers.Sections.{passed, stop}
use Rattle.reader.proofs.scan.numbers.NumberSteps.{then-inside}
use mathlib.Core.Bool.{true}
use mathlib.Core.Path.{sym, ap, ◌∙◌}
use Rattle.reader.proofs.scan.sides.read_side.Goals as goal

pub returns-in_err-n-clause-value : goal.returns-in_err-n-clause-value
unfolding read_side
returns-in_err-n-clause-value c =
    let a = c.args in
    passed _ c.from_residual.ensures.1 ∙ stop _ _ (number a.book.now Range 1 side_words a.at) _ c.in_err-n.ensures.value

pub returns-clause-value : goal.returns-clause-value
unfolding read_side
returns-clause-value c =
    let a = c.args in
    c.read_words.ensures.value
    ∙ sym (ap side_of (then-inside a.book.now Range 1 side_words a.at (λ n. read_words a.book.now (signature_of a.book.now) a.role true n 1 a.known) c.in_ok-n.ensures.inside))
