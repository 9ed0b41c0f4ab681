-- `falling::keeps` meets its contract.
use Rattle.std.proofs.Common.{◌∙◌, leb, rules, tests}
use Rattle.std.proofs.lemmas.Iterator.{YieldsList-from_slice, YieldsList-from_zip}
use Rattle.std.proofs.lemmas.Iterator.Search.{all_from_yields_List}
use Rattle.termination.proofs.falling.Counting.{counts-keep}
use Rattle.termination.proofs.falling.keeps.Goals as goal

pub returns : goal.returns
returns c =
    all_from_yields_List (λ p. leb p.0 p.1) c.all.new.self _ _ c.all.ensures.ran
    (YieldsList-from_zip (YieldsList-from_slice c.count-right.result (search rules)) (YieldsList-from_slice c.count-left.result (search rules))) (λ x b q k. search (rules, tests))
    ∙ counts-keep (record { lhs = c.args.lhs.now; rhs = c.args.rhs.now }) c.count-left.ensures c.count-right.ensures
