-- `sides::shared_end` meets its contract.
use Rattle.std.proofs.Common.{reverse, ◌∙◌, rules, tests}
use Rattle.std.specs.List.{zip}
use Rattle.std.proofs.lemmas.List.Folds.{length-prefix_len}
use Rattle.std.proofs.lemmas.Iterator.{YieldsList-from_zip}
use Rattle.std.proofs.lemmas.Iterator.Adapters.{YieldsList-from_rev_slice}
use Rattle.std.proofs.lemmas.Iterator.Consumers.{YieldsList-at, count_from_yields_List}
use Rattle.std.proofs.lemmas.Iterator.Search.{YieldsList-from_take_while}
use Rattle.sides.proofs.Ends.{same, ends-alike}
use Rattle.sides.proofs.sides.shared_end.Goals as goal

pub returns : goal.returns
returns c =
    let l = c.args.lhs.now in
    let r = c.args.rhs.now in
    let n = count_from_yields_List _ c.count.result c.count.ensures.ran
    (YieldsList-from_take_while _ same
    (YieldsList-at c.take_while.ensures.source
    (YieldsList-from_zip (YieldsList-at c.zip.ensures.first (YieldsList-from_rev_slice l (cc))) (YieldsList-at c.zip.ensures.second (YieldsList-from_rev_slice r (cc)))))
    c.take_while.ensures.closure c.take_while.ensures.done (λ x b q k. search (rules, tests))) in
    ends-alike l r c.count.result (n ∙ length-prefix_len same (zip (reverse l) (reverse r)))
