-- `expand_square` meets its contract.
use Prim.Native.Nat.{◌<◌}
use native.Mathlib.Omega.{arith}
use mathlib.Core.Path.{◌≡◌, sym, ◌∙◌, subst}
use borrow.Author.Rules.{rules}
use Rattle.system.specs.BuiltIns.{literals}
use Rattle.rewriting.specs.Evaluation.{unrecorded}
use Rattle.evaluation.specs.Expansion.{expansion}
use Rattle.demands.specs.Square.{square_of, IsSquared}
use Rattle.demands.proofs.Square.{is-squared}
use Rattle.demands.proofs.expand_square.Goals as goal

pub returns : goal.returns
returns c =
    let a = c.args in
    let b = a.book.now in
    let o = a.out.now in
    let w = a.work.now in
    let n : c.from.result ≡ a.n = search rules in
    let e = c.expand_scanned.ensures ∙ (λ i. expansion (c.scan_book-s.ensures i).now (square_of (n i)) (unrecorded a.limit) o w) in
    let level : a.n < literals = omega arith in
    record {
      expanded = e;
      squared = subst (IsSquared b a.n a.limit o w) (sym e) (is-squared b a.limit a.n level o w);
    }
