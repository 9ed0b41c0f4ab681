-- The rules: their count decides, then the rules, one by one, and then whether a word is left.
use Rattle.system.specs.Limits.{max_rules}
use Rattle.system.specs.Signature.{signature_of}
use Rattle.system.specs.declared.numbers.Fault.TheVariants.{Range}
use Rattle.reader.specs.Parser.{number, times, read_rule, read_rules}
use Rattle.reader.specs.scan.Sections.{section_of}
use Rattle.reader.proofs.scan.numbers.Sections.{passed, refused, stop, times-end, times-next, times-stop}
use Rattle.reader.proofs.scan.sections.SectionSteps.{rules-left, rules-end, rules-surplus, ending}
use Prim.Native.Nat.{◌+◌, ◌-◌}
use native.Mathlib.Omega.{arith}
use mathlib.Core.Path.{◌≡◌, sym, ap, ◌∙◌}
use Rattle.reader.proofs.scan.sections.read_rules.Goals as goal

pub returns-in_err-n : goal.returns-in_err-n
unfolding read_rules
returns-in_err-n c =
    let a = c.args in
    passed _ c.from_residual.ensures.1 ∙ stop _ _ (number a.book.now Range 0 max_rules a.at) _ c.in_err-n.ensures.value

pub returns-in_err-end : goal.returns-in_err-end
returns-in_err-end c =
    let l = c.loop in
    let a = c.args in
    let n = c.in_ok-n in
    let g = signature_of a.book.now in
    let p = read_rule a.book.now g in
    let e = sym (times-stop p (n.n - l.counter) l.end (omega arith) (refused _ (p l.end) c.in_err-end.ensures.value)) ∙ l.invariant.1 in
    passed _ c.from_residual-in_err-end.ensures.1
    ∙ stop _ _ (times n.n p (a.at + 1)) (ending a.book.now g) e ∙ sym (ap section_of (rules-left a.book.now g a.at n.ensures.inside))

pub loop-preserved : goal.loop-preserved
loop-preserved c =
    let l = c.loop in
    let a = c.args in
    let n = c.in_ok-n.n in
    let m : n - (l.counter + 1) ≡ n - l.counter - 1 = omega arith in
    (c.in_ok-end.ensures.within, rw m (sym (times-next (read_rule a.book.now (signature_of a.book.now)) (n - l.counter) l.end (omega arith) c.in_ok-end.ensures.value) ∙ l.invariant.1))

pub returns-then-end-book : goal.returns-then-end-book
returns-then-end-book c =
    let l = c.loop in
    let a = c.args in
    let n = c.in_ok-n in
    let e = sym (times-end (read_rule a.book.now (signature_of a.book.now)) (n.n - l.counter) l.end (omega arith)) ∙ l.invariant.1 in
    rules-surplus a.book.now (signature_of a.book.now) a.at n.ensures.inside e c.if-end-book.true

pub returns : goal.returns
returns c =
    let l = c.loop in
    let a = c.args in
    let n = c.in_ok-n in
    let e = sym (times-end (read_rule a.book.now (signature_of a.book.now)) (n.n - l.counter) l.end (omega arith)) ∙ l.invariant.1 in
    rules-end a.book.now (signature_of a.book.now) a.at n.ensures.inside e c.if-end-book.false
