-- `cue_test_strategies` meets its contract.
use Rattle.cue.proofs.cue_test_strategies.Goals as goal

pub returns-clause-told : goal.returns-clause-told
returns-clause-told c = let e = c.into.ensures in rw e c.test_strategies.ensures.told
