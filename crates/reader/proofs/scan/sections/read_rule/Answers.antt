-- A rule: its left side decides, and then its right side.
use Rattle.reader.specs.Parser.{read_side, read_rule}
use Rattle.reader.specs.scan.Sections.{section_of}
use Rattle.system.specs.Signature.{signature_of}
use Rattle.reader.specs.declared.scan.sides.SideRole.TheVariants.{Left, Right}
use Rattle.reader.proofs.scan.numbers.Sections.{passed, stop}
use Rattle.reader.proofs.scan.sections.SectionSteps.{rule-right, side-last}
use mathlib.Core.Path.{sym, ap, ◌∙◌}
use Rattle.reader.proofs.scan.sections.read_rule.Goals as goal

pub returns-in_err-l-clause-value : goal.returns-in_err-l-clause-value
unfolding read_rule
returns-in_err-l-clause-value c =
    let a = c.args in
    passed _ c.from_residual.ensures.1 ∙ stop _ _ (read_side a.book.now (signature_of a.book.now) Left 0 a.at) _ c.in_err-l.ensures.value

pub returns-in_err-r-clause-value : goal.returns-in_err-r-clause-value
returns-in_err-r-clause-value c =
    let a = c.args in
    let l = c.in_ok-l in
    let r = rule-right a.book.now (signature_of a.book.now) a.at l.ensures.value in
    passed _ c.from_residual-in_err-r.ensures.1
    ∙ stop _ _ (read_side a.book.now (signature_of a.book.now) Right l.l.known l.l.end) _ c.in_err-r.ensures.value ∙ sym (ap section_of r.1)

pub returns-clause-value : goal.returns-clause-value
returns-clause-value c =
    let a = c.args in
    let l = c.in_ok-l in
    let r = rule-right a.book.now (signature_of a.book.now) a.at l.ensures.value in
    side-last (read_side a.book.now (signature_of a.book.now) Right l.l.known l.l.end) _ c.in_ok-r.ensures.value ∙ sym (ap section_of r.1)
