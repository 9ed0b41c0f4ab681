-- `argument_span` meets its contract: the term is whole once its check has answered 0; from there the argument starts within it.
use Prim.Native.Nat.{◌+◌, ◌≤◌}
use native.Mathlib.Omega.{arith}
use mathlib.Core.Path.{◌≡◌, sym, ap, ◌∙◌}
use mathlib.Core.Option.{some}
use lib.ListN.{length}
use Rattle.reader.specs.Answers.{argument_at}
use Rattle.system.proofs.Taken.{number-taken, number-untaken}
use Rattle.system.proofs.words.SpanSteps.{tail, tail-length}
use Rattle.terms.proofs.Answering.{CheckedTerm, checked, argument-refused, argument-zero, argument-beyond, argument-there, tells_none, tells-some}
use Rattle.terms.proofs.argument_span.Goals as goal
use Rattle.terms.proofs.argument_span.Goals.{After-spans-start, Else-not-is_taken}
use Rattle.terms.proofs.argument_span.Goals.{then-not-is_taken-via-then-not-is_taken as refused}
use Rattle.terms.proofs.argument_span.Goals.{then-not-is_taken-via-else-not-is_taken+then-i-eq0 as none_asked}
use Rattle.terms.proofs.argument_span.Goals.{then-not-is_taken-via-else-not-is_taken+else-i-eq0+then-arity-i as beyond}

whole : (c : Else-not-is_taken) → let a = c.args in CheckedTerm a.book.now a.term.now
whole c = checked _ _ (sym (ap (λ s. s.number) c.check_term-c.ensures) ∙ number-taken c.is_taken.ensures c.if-not-is_taken.false)

whole' : (c : After-spans-start) → let a = c.args in CheckedTerm a.book.now a.term.now
whole' c = checked _ _ (sym (ap (λ s. s.number) c.check_term-c.ensures) ∙ number-taken c.is_taken.ensures c.if-not-is_taken.false)

starts : (c : After-spans-start) → 1 + c.spans-start.result ≤ length c.args.term.now
starts c =
    let l = (whole' c).some_words in
    let p = rw tail-length at c.spans-start.ensures.1 in
    omega arith

-- ---- the goals

pub returns-then-not-is_taken : goal.returns-then-not-is_taken
returns-then-not-is_taken c =
    let a = c.args in
    let ws = a.book.now in
    let t = a.term.now in
    let n = ap (λ s. s.number) c.check_term-c.ensures in
    let told = tells_none ws t a.i (elim c.then-not-is_taken.branch [
      | refused w ↦ argument-refused ws t a.i (λ z. number-untaken c.is_taken.ensures w.if-not-is_taken.true (n ∙ z))
      | none_asked w ↦ argument-zero ws t (checked _ _ (sym n ∙ number-taken c.is_taken.ensures w.if-not-is_taken.false)) a.i w.if-i-eq0.true
      | beyond w ↦ argument-beyond ws t (checked _ _ (sym n ∙ number-taken c.is_taken.ensures w.if-not-is_taken.false)) a.i (let h = w.if-i-eq0.false in omega arith)
          (let h = w.if-arity-i.true in let r = w.arity.ensures.0 in omega arith)
    ]) in
    record { value = told.0; within = told.1 }

pub bounds-term-0 : goal.bounds-term-0
bounds-term-0 c = (whole (goal.at.bounds-term-0 c).Else-not-is_taken).some_words

pub slice_bounds-spans-count : goal.slice_bounds-spans-count
slice_bounds-spans-count c = (whole (goal.at.slice_bounds-spans-count c).Else-not-is_taken).some_words

pub slice_bounds-spans-start : goal.slice_bounds-spans-start
slice_bounds-spans-start c = (whole (goal.at.slice_bounds-spans-start c).Else-not-is_taken).some_words

pub slice_bounds-span-count : goal.slice_bounds-span-count
slice_bounds-span-count c = starts c

pub slice_bounds-span-start : goal.slice_bounds-span-start
slice_bounds-span-start c = starts c

pub returns : goal.returns
returns c =
    let a = c.args in
    let t = a.term.now in
    let r = c.arity.ensures.0 in
    let s = c.spans-start in
    let e : argument_at a.book.now t a.i ≡ some (1 + s.result) =
    argument-there a.book.now t (whole (goal.at.returns c).Else-not-is_taken) a.i (omega arith) (omega arith) ∙ ap (λ m. some (1 + m)) (sym (rw tail at s.ensures.0)) in
    let told = tells-some a.book.now t a.i (1 + s.result) c.span-length.result e (starts (goal.at.returns c).After-spans-start) c.span-length.ensures.0 c.span-length.ensures.1 in
    record { value = told.0; within = told.1 }
