-- `testing::first_ill` meets its contract.
use Rattle.std.proofs.Common.{◌≡◌, true, false, length, sym, subst, MatchOption, rules, tests}
use Rattle.std.proofs.Math.Option.{none, some}
use Rattle.std.proofs.iter.Serving.{serving}
use Rattle.std.proofs.lemmas.Iterator.{IsFirst-from_position}
use Rattle.system.specs.FirstFailing.{first_failing}
use Rattle.system.specs.Signature.{Signature, signature_of}
use Rattle.system.specs.System.{rule}
use Rattle.reader.specs.Book.{system_of}
use Rattle.layout.proofs.Books.{signature}
use Rattle.layout.proofs.listed.Turns.{YieldsList-from_rules, all-come}
use Rattle.layout.proofs.listed.Firsts.{first-position}
use Rattle.sorts.specs.SortCheck.{sorted_rule}
use Rattle.sort_test.proofs.testing.TestSteps.{narrow-book}
use Rattle.sort_test.proofs.testing.first_ill.Goals as goal

pub returns : goal.returns
returns c =
    let a = c.args in
    let s = system_of a.book.now.words.now in
    let ks = a.kinds.now in
    let r = c.rules_of in
    let test = λ (g : Signature). first_failing (λ k. sorted_rule g ks (rule s k)) 0 (length s.rules) in
    subst (λ g. MatchOption c.position.result (test g ≡ none) (λ k. test g ≡ some k)) (sym (signature a.book.now.words.now a.book.now.shape c.args.book.now.accepted))
    (first-position (sorted_rule (signature_of a.book.now.words.now) ks) s c.position.result
    (IsFirst-from_position c.position.new.self _ _ (λ r. sorted_rule (signature_of a.book.now.words.now) ks r ≡ false) (λ r. sorted_rule (signature_of a.book.now.words.now) ks r ≡ true)
    c.position.ensures.ran (YieldsList-from_rules r.result s.rules (all-come c.args.book.now.accepted r.result r.ensures.left r.ensures.book))
    (λ x q k. search (rules, tests)) (λ x q k. search (rules, tests))))

pub position-requires-clause-callable : goal.position-requires-clause-callable
position-requires-clause-callable c = let z = narrow-book c.args.book.now.accepted in grind serving
