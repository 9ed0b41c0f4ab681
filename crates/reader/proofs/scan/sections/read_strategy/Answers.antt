-- A strategy: its length decides, and then its entries.
use Rattle.reader.specs.Parser.{times, number, read_strategy}
use Rattle.reader.specs.scan.Sections.{section_of}
use Rattle.system.specs.declared.numbers.Fault.TheVariants.{Range, Entry}
use Rattle.system.specs.Limits.{max_entries}
use Rattle.reader.proofs.scan.numbers.Sections.{passed, stop}
use Rattle.reader.proofs.scan.numbers.NumberSteps.{then-inside}
use mathlib.Core.Path.{sym, ap, ◌∙◌}
use Rattle.reader.proofs.scan.sections.read_strategy.Goals as goal

pub returns-in_err-n-clause-value : goal.returns-in_err-n-clause-value
unfolding read_strategy
returns-in_err-n-clause-value c =
    let a = c.args in
    passed _ c.from_residual.ensures.1 ∙ stop _ _ (number a.book.now Range 0 max_entries a.at) (λ n. times n (number a.book.now Entry 0 a.arity)) c.in_err-n.ensures.value

pub returns-clause-value : goal.returns-clause-value
unfolding read_strategy
returns-clause-value c =
    let a = c.args in
    c.read_numbers.ensures.value
    ∙ sym (ap section_of (then-inside a.book.now Range 0 max_entries a.at (λ n. times n (number a.book.now Entry 0 a.arity)) c.in_ok-n.ensures.inside))
