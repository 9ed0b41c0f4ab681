use Rattle.reader.specs.Parser.{number}
use Rattle.reader.proofs.scan.numbers.Sections.{passed, times-end}
use Rattle.reader.proofs.scan.numbers.NumberSteps.{numbers-next, numbers-stop}
use native.Mathlib.Omega.{arith}
use Prim.Native.Nat.{◌+◌, ◌-◌}
use mathlib.Core.Path.{◌≡◌, sym, ◌∙◌}
use Rattle.reader.proofs.scan.numbers.read_numbers.Goals as goal

pub returns-in_err-read_number-clause-value : goal.returns-in_err-read_number-clause-value
returns-in_err-read_number-clause-value c =
    let l = c.loop-i in
    let a = c.args in
    passed _ c.from_residual.ensures.1
    ∙ sym (numbers-stop a.book.now a.otherwise 0 a.high l.i (a.at + a.n - l.i) (omega arith) c.in_err-read_number.ensures.value) ∙ l.invariant.1

pub loop-i-preserved : goal.loop-i-preserved
loop-i-preserved c =
    let l = c.loop-i in
    let a = c.args in
    let n = c.in_ok-read_number.ensures.inside in
    let h = n.here in
    let m : a.at + a.n - (l.i + 1) ≡ a.at + a.n - l.i - 1 = omega arith in
    (omega arith, rw m (sym (numbers-next a.book.now a.otherwise 0 a.high l.i (a.at + a.n - l.i) (omega arith) n) ∙ l.invariant.1))

pub returns-clause-value : goal.returns-clause-value
returns-clause-value c =
    let l = c.loop-i in
    let a = c.args in
    let e : l.i ≡ a.at + a.n = omega arith in
    rw (← e) (sym (times-end (number a.book.now a.otherwise 0 a.high) (a.at + a.n - l.i) l.i (omega arith)) ∙ l.invariant.1)
