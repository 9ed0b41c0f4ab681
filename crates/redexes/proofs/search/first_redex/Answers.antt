use Prim.Native.Nat.{ℕ, ◌+◌, ◌≤◌, ◌<◌}
use native.Mathlib.Omega.{arith}
use mathlib.Core.Path.{◌≡◌, refl, sym, ap, ◌∙◌}
use mathlib.Core.List.{List}
use lib.ListN.{length, get_or, drop}
use Rattle.system.specs.Limits.{term_words}
use Rattle.reader.specs.Book.{system_of}
use Rattle.layout.specs.index.Index.{bucket, rule_from}
use Rattle.layout.specs.index.Accepted.{RulesAt}
use Rattle.layout.specs.rules.Rules.{rule_span}
use Rattle.system.specs.System.{rule}
use Rattle.layout.proofs.Books.{Turn, turn-of}
use Rattle.rows.specs.declared.gap.Gap.{Gap}
use Rattle.rows.specs.Rows.{Gapped, term_in}
use Rattle.rows.specs.gap.Gaps.{words_in}
use Rattle.rows.proofs.lengths.Measures.{words-length}
use Rattle.matching.proofs.rules.Lists.{along-starts, along-next}
use Rattle.redexes.proofs.search.Taking.{word-from}
use Rattle.redexes.proofs.search.Tries.{tries, no_rule_left, fewer-left, first-fails, first_goes, others-wide, others-word, try-fails, try-fits, try-goes, finds-computed, finds-nothing, finds-rule}
use Rattle.redexes.proofs.search.first_redex.Goals as goal
use Rattle.redexes.proofs.search.first_redex.Goals.{After-rule-rule}

-- ---- what is known there: the first word, that it is a word of the term, and the rule of this turn

first : (t : List ℕ) (p : ℕ) {w : ℕ} → w ≡ get_or t p 0 → w ≡ get_or (drop p t) 0 0
first t p e = word-from t p 0 p (omega arith) e

within : {area : List ℕ} {gap : Gap} (p : ℕ) → Gapped area gap → p < words_in gap → (p < length (term_in area gap)) × (length (term_in area gap) ≤ term_words)
within p m i = let n = words-length m in let l = m.lies in (omega arith, omega arith)

-- the rule of this turn
more : (c : After-rule-rule) → c.in-Some.number < c.args.index.now.book.shape.rules
more c = (tries c.rules.invariant c.in-Some.is).0

stands : (c : After-rule-rule) → let i = c.args.index.now in RulesAt i.book.words.now c.in-Some.number (get_or i.places.now.rules c.in-Some.number 0)
stands c = c.args.index.now.indexed.rules.stands c.in-Some.number (more c)

turn : (c : After-rule-rule) → let i = c.args.index.now in let at = get_or i.places.now.rules c.in-Some.number 0 in
    Turn i.book.words.now i.book.shape c.in-Some.number at (rule_span i.book.words.now at)
turn c = turn-of c.args.index.now.book.accepted (more c) (stands c) refl

left : (c : After-rule-rule) → c.rule-rule.result.lhs.now ≡ (rule (system_of c.args.index.now.book.words.now) c.in-Some.number).lhs
left c = ap (λ r. r.lhs) c.rule-rule.ensures.sides

-- ---- the goals

pub word_at-head-requires : goal.word_at-head-requires
word_at-head-requires c = let p = c.requires in (p.0.gapped, p.1)

pub computed_at-requires : goal.computed_at-requires
computed_at-requires c = let p = c.requires in (p.0.gapped, p.1, c.word_at-head.ensures)

pub returns-then-from-ge-LITERAL : goal.returns-then-from-ge-LITERAL
returns-then-from-ge-LITERAL c =
    let is = first (term_in c.args.area.now c.args.spot.gap) c.args.spot.at c.word_at-head.ensures in
    let told = finds-computed c.args.index.now.book.accepted (term_in c.args.area.now c.args.spot.gap) c.args.spot.at c.computed_at.ensures (omega arith) in
    record { found = rw c.redex_for.ensures told.0; bound = told.1 }

pub rules-init : goal.rules-init
rules-init c =
    let w = first (term_in c.args.area.now c.args.spot.gap) c.args.spot.at c.word_at-head.ensures in
    record {
      sized = c.requires.2;
      none_found = refl;
      k = _;
      number = c.first_of-next.ensures;
      along = along-starts c.args.index.now.book.accepted (drop c.args.spot.at (term_in c.args.area.now c.args.spot.gap))
          (ap (λ w. rule_from (system_of c.args.index.now.book.words.now) 0 (bucket w)) w);
    }

pub next_of-next-requires : goal.next_of-next-requires
next_of-next-requires c = more (goal.at.next_of-next-requires c).After-rule-rule

pub rules-smaller-then-rule-head : goal.rules-smaller-then-rule-head
rules-smaller-then-rule-head c = rw c.in-Some.is (fewer-left _ _ (more (goal.at.rules-smaller-then-rule-head c).After-rule-rule) c.next_of-next.ensures.number c.next_of-next.ensures.later)

pub rules-preserved-then-rule-head : goal.rules-preserved-then-rule-head
rules-preserved-then-rule-head c =
    let r = (goal.at.rules-preserved-then-rule-head c).After-rule-rule in
    let t = drop c.args.spot.at (term_in c.args.area.now c.args.spot.gap) in
    let is = first (term_in c.args.area.now c.args.spot.gap) c.args.spot.at c.word_at-head.ensures in
    let fails = first-fails (turn r) (term_in c.args.area.now c.args.spot.gap) c.args.spot.at (λ e. c.if-rule-head.true (ap (λ l. get_or l 0 0) (left r) ∙ e ∙ sym is)) in
    record {
      sized = c.rules.invariant.sized;
      none_found = c.rules.invariant.none_found;
      k = _;
      number = c.next_of-next.ensures.number;
      along = along-next c.args.index.now.book.accepted t (tries c.rules.invariant c.in-Some.is).1 (more r) fails refl;
    }

pub overflow_add-q : goal.overflow_add-q
overflow_add-q c = let h = within c.args.spot.at c.requires.0.gapped c.requires.1 in omega arith

pub words-init : goal.words-init
words-init c =
    let r = (goal.at.words-init c).After-rule-rule in
    let t = term_in c.args.area.now c.args.spot.gap in
    let is = first t c.args.spot.at c.word_at-head.ensures in
    first_goes (turn r) t c.args.spot.at (sym (ap (λ l. get_or l 0 0) (left r)) ∙ c.if-rule-head.false ∙ is)
    (within c.args.spot.at c.requires.0.gapped c.requires.1).0 c.rules.bindings c.rules.invariant.sized c.clear.ensures (others-wide (turn r) t c.args.spot.at (left r))

pub bind-requires : goal.bind-requires
bind-requires c =
    let r = (goal.at.bind-requires c).After-rule-rule in
    let u = turn r in
    let t = term_in c.args.area.now c.args.spot.gap in
    let o = c.words.invariant in
    let wide = others-wide u t c.args.spot.at (left r) in
    let low = u.here.low (c.words.l-index + 1) (let h = c.words-test.true in omega arith) in
    ((_, c.requires.0), o.onward, (let e = others-word u t c.args.spot.at (left r) c.words.l-index c.words-test.true in omega arith), o.sized, o.walked.lies)

pub rules-smaller : goal.rules-smaller
rules-smaller c =
    let e = c.next_of-next.ensures in
    rw c.in-Some.is (fewer-left _ _ (more (goal.at.rules-smaller c).After-rule-rule) e.number e.later)

pub rules-preserved : goal.rules-preserved
rules-preserved c =
    let r = (goal.at.rules-preserved c).After-rule-rule in
    let u = turn r in
    let t = term_in c.args.area.now c.args.spot.gap in
    let p = c.args.spot.at in
    let o = c.words.invariant in
    let none = sym c.in_default-bind.is ∙ c.bind.ensures.taken _ c.requires.0 in
    let fails = try-fails u t p (others-wide u t p (left r)) o (let h = c.words-test.true in omega arith) (others-word u t p (left r) c.words.l-index c.words-test.true) none in
    record {
      sized = c.bind.auto.bindings ∙ o.sized;
      none_found = c.rules.invariant.none_found;
      k = _;
      number = c.next_of-next.ensures.number;
      along = along-next c.args.index.now.book.accepted (drop p t) (tries c.rules.invariant c.in-Some.is).1 (more r) fails refl;
    }

pub overflow_add-q-in-words : goal.overflow_add-q-in-words
overflow_add-q-in-words c =
    let r = (goal.at.overflow_add-q-in-words c).After-rule-rule in
    let u = turn r in
    let t = term_in c.args.area.now c.args.spot.gap in
    let p = c.args.spot.at in
    let y = within p c.requires.0.gapped c.requires.1 in
    let takes = c.in-Some-bind.ensures.taken _ c.requires.0 in
    let f = try-fits u t p (others-wide u t p (left r)) c.words.invariant (let h = c.words-test.true in omega arith) (others-word u t p (left r) c.words.l-index c.words-test.true)
    takes (omega arith) in
    omega arith

pub words-preserved : goal.words-preserved
words-preserved c =
    let r = (goal.at.words-preserved c).After-rule-rule in
    let u = turn r in
    let t = term_in c.args.area.now c.args.spot.gap in
    let p = c.args.spot.at in
    let o = c.words.invariant in
    try-goes u t p (others-wide u t p (left r)) o (let h = c.words-test.true in omega arith) (others-word u t p (left r) c.words.l-index c.words-test.true)
    (c.in-Some-bind.ensures.taken _ c.requires.0) (c.bind.auto.bindings ∙ o.sized) c.in-Some-bind.ensures.bound

-- no rule of the list is left
pub returns-in_default : goal.returns-in_default
returns-in_default c =
    let is = first (term_in c.args.area.now c.args.spot.gap) c.args.spot.at c.word_at-head.ensures in
    let v = c.rules.invariant in
    let told = finds-nothing c.args.index.now.book.accepted (term_in c.args.area.now c.args.spot.gap) c.args.spot.at (omega arith) v.along (no_rule_left v c.in_default.is) in
    record { found = rw v.none_found told.0; bound = told.1 }

-- all words of a left side are matched
pub shape_of-bindings-after-words : goal.shape_of-bindings-after-words
shape_of-bindings-after-words c = c.words.invariant.sized ∙ sym c.requires.2

pub returns-after-words : goal.returns-after-words
returns-after-words c =
    let is = first (term_in c.args.area.now c.args.spot.gap) c.args.spot.at c.word_at-head.ensures in
    let r = (goal.at.returns-after-words c).After-rule-rule in
    let t = term_in c.args.area.now c.args.spot.gap in
    let told = finds-rule c.args.index.now.book.accepted t c.args.spot.at (omega arith)
    (tries c.rules.invariant c.in-Some.is).1 (turn r) (stands r) refl (others-wide (turn r) t c.args.spot.at (left r)) c.words.invariant (omega arith) in
    record { found = told.0; bound = told.1 }
