use native.Mathlib.Omega.{arith}
use mathlib.Core.Path.{refl}
use lib.ListN.{replicate}
use Rattle.system.specs.Signature.{signature_of}
use Rattle.sort_test.proofs.windows.TermSteps.{passing-starts, passing-ends, passing-due, passing-most, passing-fails, passing-next, sort-at}
use Rattle.sort_test.proofs.windows.pass.Goals as goal

pub loop-w-init : goal.loop-w-init
loop-w-init c =
    let g = signature_of c.args.book.now in
    passing-starts g c.requires.3.few c.args.kinds.now c.args.term.now c.args.low c.requires.0 (replicate 256 0) _ refl
    (sort-at g c.args.kinds.now c.args.term.now c.offset.ensures.0 c.listed.ensures)

pub overflow_sub-due : goal.overflow_sub-due
overflow_sub-due c =
    let z = passing-due (signature_of c.args.book.now) c.requires.3.few c.args.kinds.now c.args.term.now c.args.low c.loop-w.invariant c.loop-w-test.true in
    omega arith

pub visit-requires : goal.visit-requires
visit-requires c =
    let z = passing-most (signature_of c.args.book.now) c.requires.3.few c.args.kinds.now c.args.term.now c.args.low c.loop-w.invariant in
    (c.requires.2, (let y = c.requires.1 in omega arith), c.requires.3)

pub returns-then-not-visit : goal.returns-then-not-visit
returns-then-not-visit c =
    passing-fails (signature_of c.args.book.now) c.requires.3.few c.args.kinds.now c.args.term.now c.args.low c.loop-w.invariant
    c.loop-w-test.true c.visit.ensures.compared c.if-not-visit.true

pub overflow_add-due : goal.overflow_add-due
overflow_add-due c =
    let z = passing-most (signature_of c.args.book.now) c.requires.3.few c.args.kinds.now c.args.term.now c.args.low c.loop-w.invariant in
    let y = c.requires.1 in
    let x = c.arity-due.ensures.1 in
    omega arith

pub loop-w-preserved : goal.loop-w-preserved
loop-w-preserved c =
    let is = c.if-not-visit.false in
    passing-next (signature_of c.args.book.now) c.requires.3.few c.args.kinds.now c.args.term.now c.args.low c.loop-w.invariant
    c.loop-w-test.true c.visit.ensures.compared is c.arity-due.ensures.0 _ (c.visit.ensures.put is)

pub returns : goal.returns
returns c =
    passing-ends (signature_of c.args.book.now) c.requires.3.few c.args.kinds.now c.args.term.now c.args.low c.loop-w.invariant c.loop-w-test.false
