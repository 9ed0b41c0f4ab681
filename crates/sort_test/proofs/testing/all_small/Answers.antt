-- `testing::all_small` meets its contract.
use Rattle.std.proofs.Common.{◌∙◌, leb, rules, tests}
use Rattle.std.proofs.lemmas.Iterator.{YieldsList-from_slice}
use Rattle.std.proofs.lemmas.Iterator.Search.{all_from_yields_List}
use Rattle.system.specs.Limits.{max_sort}
use Rattle.sort_test.proofs.testing.TestSteps.{all_small_is}
use Rattle.sort_test.proofs.testing.all_small.Goals as goal

pub returns : goal.returns
returns c =
    let ks = c.args.kinds.now in
    all_from_yields_List (λ k. leb k max_sort) _ _ _ c.all.ensures.ran (YieldsList-from_slice ks c.iter.ensures.rest) (λ x b q k. search (rules, tests))
    ∙ all_small_is ks
