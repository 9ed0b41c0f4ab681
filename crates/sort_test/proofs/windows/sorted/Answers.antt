use native.Mathlib.Omega.{arith}
use mathlib.Core.Path.{sym, ◌∙◌}
use Rattle.system.specs.Signature.{signature_of}
use Rattle.sort_test.proofs.windows.TermSteps.{passes-next, passes-fail, passes-end}
use Rattle.sort_test.proofs.windows.sorted.Goals as goal

pub returns-then-not-pass : goal.returns-then-not-pass
returns-then-not-pass c =
    passes-fail (signature_of c.args.book.now) c.requires.2.few c.args.kinds.now c.args.term.now c.requires.0 c.loop-low.invariant
    (sym c.pass.ensures ∙ c.if-not-pass.true)

pub loop-low-preserved : goal.loop-low-preserved
loop-low-preserved c =
    passes-next (signature_of c.args.book.now) c.requires.2.few c.args.kinds.now c.args.term.now c.requires.0 c.loop-low.invariant
    (sym c.pass.ensures ∙ c.if-not-pass.false)

pub returns : goal.returns
returns c =
    passes-end (signature_of c.args.book.now) c.requires.2.few c.args.kinds.now c.args.term.now c.requires.0 c.loop-low.invariant c.loop-low-test.false

pub returns-else-not-pass : goal.returns-else-not-pass
returns-else-not-pass c =
    passes-end (signature_of c.args.book.now) c.requires.2.few c.args.kinds.now c.args.term.now c.requires.0
    (passes-next (signature_of c.args.book.now) c.requires.2.few c.args.kinds.now c.args.term.now c.requires.0 c.loop-low.invariant
    (sym c.pass.ensures ∙ c.if-not-pass.false)) (omega arith)
