-- `testing::in_range` meets its contract.
use Rattle.std.proofs.Common.{◌∙◌, ◌&&◌, leb, rules, tests}
use Rattle.std.proofs.lemmas.Iterator.{YieldsList-from_slice}
use Rattle.std.proofs.lemmas.Iterator.Search.{all_from_yields_List}
use Rattle.system.specs.Limits.{max_weight}
use Rattle.termination.proofs.Ranges.{in_range_all}
use Rattle.termination.proofs.testing.in_range.Goals as goal

pub returns : goal.returns
returns c =
    let m = c.args.weights.now in
    all_from_yields_List (λ w. leb 1 w && leb w max_weight) _ _ _ c.all.ensures.ran (YieldsList-from_slice m cc) (λ x b q k. search (rules, tests))
    ∙ in_range_all m
