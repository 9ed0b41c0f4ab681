-- `weighed::expand_by_weight` meets its contract.
use mathlib.Core.Path.{sym, ap, ◌∙◌, subst}
use Rattle.rewriting.specs.Evaluation.{unrecorded}
use Rattle.termination.specs.WeightTest.{weight_limit}
use Rattle.evaluation.specs.Expansion.{expansion}
use Rattle.demands.specs.Finite.{NeverSpent}
use Rattle.demands.proofs.Finite.{by-weight}
use Rattle.demands.proofs.weighed.expand_by_weight.Goals as goal

pub returns-clause-unspent : goal.returns-clause-unspent
returns-clause-unspent c =
    let a = c.args in
    let b = a.book.now in
    let t = a.term.now in
    let o = a.out.now in
    let s = a.work.now in
    let m = a.weights.now in
    let l = unrecorded (weight_limit m t) in
    let e = c.expand_weighed.ensures.expanded ∙ ap (λ n. expansion b t (unrecorded n) o s) c.weigh-limit.ensures in
    subst (NeverSpent b m t l) (sym e) (by-weight b m t l o s)
