-- `replay` meets its contract.
use mathlib.Core.Path.{sym, ap, ◌∙◌, subst}
use Rattle.replay.specs.Replaying.{replaying, AcceptsExactly, IsMistold}
use Rattle.replay.proofs.Operations.{accepts-exactly, is-mistold}
use Rattle.replay.proofs.replay.Goals as goal

pub returns : goal.returns
returns c =
    let a = c.args in
    let e = c.replay_scanned.ensures ∙ ap (λ w. replaying w.now c.args.term.now c.args.«record».now c.args.out.now c.args.work.now) c.scan_book.ensures in
    let b = a.book.now in
    let t = a.term.now in
    let w = a.«record».now in
    let o = a.out.now in
    let v = a.work.now in
    record {
      replayed = e;
      exact = subst (AcceptsExactly b t w o v) (sym e) (accepts-exactly b t w o v);
      mistold = subst (IsMistold b t w) (sym e) (is-mistold b t w o v);
    }
