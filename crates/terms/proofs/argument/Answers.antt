-- `argument` meets its contract: the words where the argument stands.
use mathlib.Core.Path.{ap}
use Rattle.reader.specs.Answers.{argument_at}
use Rattle.terms.proofs.Answering.{span-words}
use Rattle.terms.proofs.argument.Goals as goal

pub returns : goal.returns
returns c =
    let a = c.args in
    let e = c.argument_span-s.ensures.value in
    let start = ap (λ x. x.start) e in
    record {
      words = span-words a.book.now a.term.now (argument_at a.book.now a.term.now a.i) _ _ start (ap (λ x. x.length) e);
      place = rw start;
    }
