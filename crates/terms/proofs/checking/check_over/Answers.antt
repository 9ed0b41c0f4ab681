-- The words of an accepted book, and so the term's own answer.
use mathlib.Core.Path.{sym, ap, ◌∙◌}
use Rattle.reader.specs.Answers.{whole_answer}
use Rattle.terms.proofs.checking.Checks.{term-checked, found-some, found-none}
use Rattle.terms.proofs.checking.check_over.Goals as goal

pub returns-in-Some : goal.returns-in-Some
returns-in-Some c =
    let t = c.args.term.now in
    c.new.ensures ∙ ap (whole_answer t) (sym (found-some c.in-Some.ensures)) ∙ sym (term-checked _ t c.args.book.now.accepted.accepted)

pub returns-in-None : goal.returns-in-None
returns-in-None c =
    let t = c.args.term.now in
    c.new-in-None.ensures ∙ ap (whole_answer t) (sym (found-none c.in-None.ensures)) ∙ sym (term-checked _ t c.args.book.now.accepted.accepted)
