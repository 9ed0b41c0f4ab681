use Rattle.reader.specs.scan.Sections.{section_of}
use Rattle.reader.specs.Parser.{read_strategy}
use Rattle.reader.proofs.scan.numbers.Sections.{passed, each-end, each_next, each-stop}
use mathlib.Core.Path.{sym, ap, ◌∙◌}
use Rattle.reader.proofs.scan.sections.read_strategies.Goals as goal

pub returns-in_err-end-clause-value : goal.returns-in_err-end-clause-value
returns-in_err-end-clause-value c =
    let l = c.loop-arity in
    let a = c.args in
    let e = c.in_err-end.ensures.value ∙ ap (λ n. section_of (read_strategy a.book.now n l.end)) c.wide.ensures.0 in
    passed _ c.from_residual.ensures.1 ∙ sym (each-stop (read_strategy a.book.now) a.arities.now l.arity-index l.end c.loop-arity-test.true e) ∙ l.invariant.1

pub loop-arity-preserved : goal.loop-arity-preserved
loop-arity-preserved c =
    let l = c.loop-arity in
    let a = c.args in
    let e = c.in_ok-end.ensures.value ∙ ap (λ n. section_of (read_strategy a.book.now n l.end)) c.wide.ensures.0 in
    (c.in_ok-end.ensures.within, sym (each_next (read_strategy a.book.now) a.arities.now l.arity-index l.end c.loop-arity-test.true e) ∙ l.invariant.1)

pub returns-clause-value : goal.returns-clause-value
returns-clause-value c =
    let l = c.loop-arity in
    let a = c.args in
    sym (each-end (read_strategy a.book.now) a.arities.now l.arity-index l.end c.loop-arity-test.false) ∙ l.invariant.1
