use Rattle.reader.proofs.scan.sides.SideSteps.{words-missing, words-fault, words-short, words-done, words-turn, side-open}
use Rattle.system.specs.Signature.{signature_of}
use lib.Dec.{eqb}
use lib.ListN.{get_or, length}
use Prim.Native.Nat.{◌+◌, ◌-◌, ◌<◌, ◌≤◌}
use native.Mathlib.Omega.{arith}
use mathlib.Core.Path.{◌≡◌, sym, ◌∙◌}
use Rattle.std.proofs.lemmas.Grind.{common_steps}
use Rattle.reader.proofs.scan.sides.read_words.Goals as goal

pub returns-in_default-clause-value : goal.returns-in_default-clause-value
returns-in_default-clause-value c =
    let l = c.loop-j in
    let a = c.args in
    let past : length a.book.now ≤ a.at + l.j = grind (arith, common_steps) in
    sym (words-missing a.book.now (signature_of a.book.now) a.role (eqb l.j 0) (a.n - l.j) l.due l.seen (a.at + l.j) (omega arith) past) ∙ l.invariant.3

pub returns-in-Some-side_fault-clause-value : goal.returns-in-Some-side_fault-clause-value
returns-in-Some-side_fault-clause-value c =
    let l = c.loop-j in
    let a = c.args in
    let there : a.at + l.j < length a.book.now = grind (arith, common_steps) in
    let e : c.in-Some.w.now ≡ get_or a.book.now (a.at + l.j) 0 = grind (arith, common_steps) in
    sym (words-fault a.book.now (signature_of a.book.now) a.role (eqb l.j 0) (a.n - l.j) l.due l.seen (a.at + l.j) (omega arith) there (rw e at c.in-Some-side_fault.ensures))
    ∙ l.invariant.3

pub overflow_sub-due : goal.overflow_sub-due
overflow_sub-due c =
    let l = c.loop-j in
    let a = c.args in
    side-open (signature_of a.book.now) a.role (eqb l.j 0) l.due l.seen _ c.in_default-side_fault.ensures

pub loop-j-preserved : goal.loop-j-preserved
loop-j-preserved c =
    let l = c.loop-j in
    let a = c.args in
    let there : a.at + l.j < length a.book.now = grind (arith, common_steps) in
    let k = c.learn-seen.ensures.1 in
    let r = c.arity.ensures.1 in
    let e : c.in-Some.w.now ≡ get_or a.book.now (a.at + l.j) 0 = grind (arith, common_steps) in
    let t = words-turn a.book.now (signature_of a.book.now) a.role a.n l.due l.seen a.at l.j (omega arith) there c.arity.result c.learn-seen.result
    (rw e at c.in_default-side_fault.ensures) (rw e at c.arity.ensures.0) (rw e at c.learn-seen.ensures.0) in
    (omega arith, omega arith, omega arith, sym t ∙ l.invariant.3)

pub returns-then-due-ne0-clause-value : goal.returns-then-due-ne0-clause-value
returns-then-due-ne0-clause-value c =
    let l = c.loop-j in
    let a = c.args in
    let e : a.at + l.j ≡ a.at + a.n = omega arith in
    rw (← e) (sym (words-short a.book.now (signature_of a.book.now) a.role (eqb l.j 0) (a.n - l.j) l.due l.seen (a.at + l.j) (omega arith) (omega arith)) ∙ l.invariant.3)

pub returns-clause-value : goal.returns-clause-value
returns-clause-value c =
    let l = c.loop-j in
    let a = c.args in
    let e : a.at + l.j ≡ a.at + a.n = omega arith in
    rw (← e) (sym (words-done a.book.now (signature_of a.book.now) a.role (eqb l.j 0) (a.n - l.j) l.due l.seen (a.at + l.j) (omega arith) (omega arith)) ∙ l.invariant.3)
