-- `testing::first_rising` meets its contract.
use Rattle.std.proofs.Common.{◌≡◌, true, false, rules, tests}
use Rattle.std.proofs.lemmas.Iterator.{IsFirst-from_position}
use Rattle.reader.specs.Book.{system_of}
use Rattle.layout.proofs.listed.Turns.{YieldsList-from_rules, all-come}
use Rattle.layout.proofs.listed.Firsts.{first-position}
use Rattle.termination.specs.WeightTest.{falls}
use Rattle.termination.proofs.testing.first_rising.Goals as goal

pub returns : goal.returns
returns c =
    let s = system_of c.args.book.now.words.now in
    let m = c.args.weights.now in
    let r = c.rules_of in
    first-position (falls m) s c.position.result
    (IsFirst-from_position c.position.new.self _ _ (λ r. falls m r ≡ false) (λ r. falls m r ≡ true) c.position.ensures.ran
    (YieldsList-from_rules r.result s.rules (all-come c.args.book.now.accepted r.result r.ensures.left r.ensures.book))
    (λ x q k. search (rules, tests)) (λ x q k. search (rules, tests)))
