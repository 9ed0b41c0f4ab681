use Prim.Native.Nat.{◌+◌}
use native.Mathlib.Omega.{arith}
use mathlib.Core.Logic.{inl}
use mathlib.Core.Path.{◌≡◌, refl, sym, ◌∙◌}
use borrow.Author.Rules.{rules}
use lib.ListN.{get_or}
use Rattle.std.specs.Iterator.Adapters.{enumerate_source, enumerate_count}
use Rattle.system.specs.Signature.{signature_of}
use Rattle.reader.specs.Book.{system_of}
use Rattle.layout.proofs.listed.Turns.{Turned, left-few, turned, ended, placed}
use Rattle.matching.specs.Bindings.{no_bindings, taken, match_listed, match_of}
use Rattle.matching.specs.rules.Searches.{stretches}
use Rattle.matching.proofs.Sources.{match_low, match-high}
use Rattle.matching.proofs.rules.Finding.{search-starts, search-ends, given-up, left-word, root-differs}
use Rattle.matching.proofs.rules.Lists.{unmatched-here}
use Rattle.matching.proofs.rules.Searches.{walk-starts, walk_ends, walk-stops, walk-fits, walk-goes}
use Rattle.matching.proofs.rules.first_rule.Goals as goal
use Rattle.matching.proofs.rules.first_rule.Goals.{After-bind-n, In-Some, At-rules}

-- the rule of this turn
here : (c : In-Some) → Turned c.args.book.now.words.now c.in-Some.number c.in-Some.rule (enumerate_source c.next.new.self)
here c = let e = c.in-Some.ensures.steps in rw e.1 (turned c.rules.invariant.2.at e.0)

-- only listed rules can match, so what is found among them is what is found
all_listed : (c : At-rules) → let a = c.args in match_listed (system_of a.book.now.words.now) a.ws.now ≡ match_of (system_of a.book.now.words.now) a.ws.now
all_listed c =
    let a = c.args in
    let is = c.wide.ensures.0 ∙ c.word_of.ensures in
    match_low a.book.now.words.now a.book.now.shape c.args.book.now.accepted a.ws.now (let l = c.if-wide-ge-LITERAL.false in omega arith)

-- ---- the goals

pub returns-then-wide-ge-LITERAL : goal.returns-then-wide-ge-LITERAL
returns-then-wide-ge-LITERAL c =
    let a = c.args in
    let is = c.wide.ensures.0 ∙ c.word_of.ensures in
    c.computed_match.ensures ∙ match-high a.book.now.words.now a.book.now.shape c.args.book.now.accepted a.ws.now (let h = c.if-wide-ge-LITERAL.true in omega arith)

pub rules-init : goal.rules-init
unfolding no_bindings
rules-init c =
    let n = left-few (enumerate_source c.into_iter-number-iterator.result) in
    let z : enumerate_count c.into_iter-number-iterator.result ≡ 0 = cc in
    ((tt, tt, inl (omega arith)), tt, search-starts c.args.book.now.accepted refl z (cc) (cc))

pub rules-preserved-then-consumed-eq0 : goal.rules-preserved-then-consumed-eq0
rules-preserved-then-consumed-eq0 c =
    let h = here (goal.at.rules-preserved-then-consumed-eq0 c).In-Some in
    let e = c.in-Some.ensures.steps in
    let f = root-differs c.args.book.now.accepted h c.args.ws.now c.consumed.ensures.0 c.if-consumed-eq0.true in
    (search rules, tt, given-up c.args.book.now.accepted c.rules.invariant.2 e.1 (rw e.1 at h.goes) e.2 f)

pub words-init : goal.words-init
unfolding no_bindings
words-init c = walk-starts (placed c.args.book.now.accepted (here (goal.at.words-init c).In-Some)) c.args.ws.now

-- what the word of this turn takes, and what is bound then
word : (c : After-bind-n) → get_or c.in-Some.rule.lhs.now c.words.word-index 0 ≡ get_or c.args.book.now.words.now (c.in-Some.rule.at + 1 + c.words.word-index) 0
word c =
    let d : Turned c.args.book.now.words.now (enumerate_count c.rules.number-iterator) c.in-Some.rule (enumerate_source c.next.new.self) =
    turned c.rules.invariant.2.at c.in-Some.ensures.steps.0 in
    sym (left-word c.args.book.now.accepted d c.words.word-index c.words-test.true)

took : (c : After-bind-n) → let w = c.words in let a = c.args in
    c.bind-n.result ≡ taken (signature_of a.book.now.words.now) a.ws.now (get_or a.book.now.words.now (c.in-Some.rule.at + 1 + w.word-index) 0) w.q (stretches w.starts w.lengths)
took c = rw (word c) at c.bind-n.ensures.taken

pub rules-preserved : goal.rules-preserved
rules-preserved c =
    let h = here (goal.at.rules-preserved c).In-Some in
    let e = c.in-Some.ensures.steps in
    let f = walk-stops (placed c.args.book.now.accepted h) c.words.invariant c.words-test.true (sym (took (goal.at.rules-preserved c).After-bind-n) ∙ c.if-n-eq0.true) in
    (search rules, tt, given-up c.args.book.now.accepted c.rules.invariant.2 e.1 (rw e.1 at h.goes) e.2 f)

pub overflow_add-q : goal.overflow_add-q
overflow_add-q c =
    let h = placed c.args.book.now.accepted (here (goal.at.overflow_add-q c).In-Some) in
    let f = walk-fits h c.words.invariant c.words-test.true (took (goal.at.overflow_add-q c).After-bind-n) c.if-n-eq0.false in
    let g = c.well_formed in
    omega arith

pub words-preserved : goal.words-preserved
words-preserved c =
    let h = placed c.args.book.now.accepted (here (goal.at.words-preserved c).In-Some) in
    let b = (goal.at.words-preserved c).After-bind-n in
    walk-goes h c.words.invariant c.words-test.true (took b) c.if-n-eq0.false (rw (word b) at (sym (c.bind-n.ensures.bound c.if-n-eq0.false)))

pub returns-in-None : goal.returns-in-None
returns-in-None c =
    search-ends c.args.book.now.accepted c.rules.invariant.2 (ended c.rules.invariant.2.at c.in-None.ensures.steps.0.0) ∙ all_listed (goal.at.returns-in-None c).At-rules

pub returns-after-words : goal.returns-after-words
returns-after-words c =
    let h = here (goal.at.returns-after-words c).In-Some in
    let t = placed c.args.book.now.accepted h in
    let unmatched = rw (← c.in-Some.ensures.steps.1) at c.rules.invariant.2.unmatched in
    let x = stretches c.words.starts c.words.lengths in
    rw c.listed.ensures (unmatched-here c.args.book.now.accepted c.args.ws.now t h.stands unmatched x (walk_ends t c.words.invariant c.words-test.false))
    ∙ all_listed (goal.at.returns-after-words c).At-rules
