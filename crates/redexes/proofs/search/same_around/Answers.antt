use native.Mathlib.Omega.{arith}
use mathlib.Core.Path.{◌≡◌, sym, ◌∙◌}
use lib.ListN.{length, get_or, take, drop}
use Rattle.rows.specs.Rows.{term_in}
use Rattle.rows.proofs.lengths.Measures.{words-length}
use Rattle.matching.proofs.SameWords.{same-starts, same_ends, same_next, same-stops, part_length, part-word}
use Rattle.redexes.proofs.search.same_around.Goals as goal
use Rattle.redexes.proofs.search.same_around.Goals.{After-word_at-in-loop-i, Start}

-- both parts have n words
long : (c : Start) →
    let a = c.args in
    let t = term_in a.area.now a.gap in (length (take a.n (drop a.p t)) ≡ a.n) × (length (take a.n (drop a.q t)) ≡ a.n)
long c =
    let a = c.args in
    let t = term_in a.area.now a.gap in
    let w = words-length c.requires.0 in
    (part_length t a.p a.n (omega arith), part_length t a.q a.n (omega arith))

even : (c : Start) →
    let a = c.args in
    let t = term_in a.area.now a.gap in length (take a.n (drop a.p t)) ≡ length (take a.n (drop a.q t))
even c = (long c).0 ∙ sym (long c).1

-- ---- the goals

pub loop-i-init : goal.loop-i-init
loop-i-init c = same-starts (even (goal.at.loop-i-init c).Start)

pub overflow_add-p : goal.overflow_add-p
overflow_add-p c = let s = c.requires in let l = s.0.lies in omega arith

pub word_at-requires : goal.word_at-requires
word_at-requires c = (c.requires.0, omega arith)

pub overflow_add-q : goal.overflow_add-q
overflow_add-q c = let s = c.requires in let l = s.0.lies in omega arith

pub word_at-requires-in-loop-i : goal.word_at-requires-in-loop-i
word_at-requires-in-loop-i c = (c.requires.0, omega arith)

-- the two words of this turn, in their parts
both : (c : After-word_at-in-loop-i) →
    let a = c.args in
    let t = term_in a.area.now a.gap in
    (c.word_at.result ≡ get_or (take a.n (drop a.p t)) c.loop-i.i 0) × (c.word_at-in-loop-i.result ≡ get_or (take a.n (drop a.q t)) c.loop-i.i 0)
both c =
    let a = c.args in
    let t = term_in a.area.now a.gap in
    let h = c.loop-i-test.true in
    (c.word_at.ensures ∙ sym (part-word t a.p a.n c.loop-i.i h), c.word_at-in-loop-i.ensures ∙ sym (part-word t a.q a.n c.loop-i.i h))

pub returns-then-word_at : goal.returns-then-word_at
returns-then-word_at c =
    let b = both (goal.at.returns-then-word_at c).After-word_at-in-loop-i in
    sym (same-stops (even (goal.at.returns-then-word_at c).Start) c.loop-i.invariant (let n = (long (goal.at.returns-then-word_at c).Start).0 in let h = c.loop-i-test.true in omega arith)
    (λ e. c.if-word_at.true (b.0 ∙ e ∙ sym b.1)))

pub loop-i-preserved : goal.loop-i-preserved
loop-i-preserved c =
    let b = both (goal.at.loop-i-preserved c).After-word_at-in-loop-i in
    same_next (even (goal.at.loop-i-preserved c).Start) c.loop-i.invariant (let n = (long (goal.at.loop-i-preserved c).Start).0 in let h = c.loop-i-test.true in omega arith)
    (sym b.0 ∙ c.if-word_at.false ∙ b.1)

pub returns : goal.returns
returns c = sym (same_ends (even (goal.at.returns c).Start) c.loop-i.invariant (let l = (long (goal.at.returns c).Start).0 in omega arith))
