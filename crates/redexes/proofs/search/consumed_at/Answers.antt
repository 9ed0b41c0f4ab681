-- `redexes::consumed_at` meets its contract.
use native.Mathlib.Omega.{arith}
use Prim.Native.Nat.{◌<◌}
use Rattle.rows.specs.gap.Gaps.{words_in}
use Rattle.redexes.proofs.search.Taking.{consumes-none, consumes-variable, consumes-differ, consumes-same}
use Rattle.redexes.proofs.search.consumed_at.Goals as goal
use Rattle.redexes.proofs.search.consumed_at.Goals.{Else-words-q}

inside : (c : Else-words-q) → c.args.q < words_in c.args.gap
inside c = let is = c.words.ensures in let l = c.if-words-q.false in omega arith

-- ---- the goals

pub returns-then-words-q : goal.returns-then-words-q
returns-then-words-q c g m = let a = c.args in consumes-none m a.l a.q (let is = c.words.ensures in let h = c.if-words-q.true in omega arith)

pub returns-then-from-ge-VARIABLE : goal.returns-then-from-ge-VARIABLE
returns-then-from-ge-VARIABLE c g m =
    let a = c.args in
    consumes-variable m a.l a.q (inside (goal.at.returns-then-from-ge-VARIABLE c).Else-words-q) c.length_at.ensures.0 (let is = c.from.ensures in let h = c.if-from-ge-VARIABLE.true in omega arith)

pub returns-then-l-word_at : goal.returns-then-l-word_at
returns-then-l-word_at c g m =
    let a = c.args in
    consumes-differ m a.l a.q (inside (goal.at.returns-then-l-word_at c).Else-words-q) c.word_at.ensures (let is = c.from.ensures in let h = c.if-from-ge-VARIABLE.false in omega arith)
    c.if-l-word_at.true

pub returns : goal.returns
returns c g m =
    let a = c.args in
    consumes-same m a.l a.q (inside (goal.at.returns c).Else-words-q) c.word_at.ensures (let is = c.from.ensures in let h = c.if-from-ge-VARIABLE.false in omega arith) c.if-l-word_at.false
