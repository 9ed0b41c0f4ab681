-- `rules::rule_at` meets its contract.
use Prim.Native.Nat.{◌+◌, ◌≤◌, ◌<◌}
use native.Mathlib.Omega.{arith}
use lib.ListN.{length}
use Rattle.layout.specs.rules.Rules.{RuleSpan, rule_end}
use Rattle.layout.proofs.Books.{place-made, room, rule-count}
use Rattle.layout.proofs.Sizes.{book-short}
use Rattle.layout.proofs.listed.Walks.{Placed, placed-at}
use Rattle.layout.proofs.rules.rule_at.Goals as goal
use Rattle.layout.proofs.rules.rule_at.Goals.{Start, After-wide-2}

more : (c : Start) → c.requires.0 < c.args.book.now.shape.rules
more c = let b = c.args.book.now in let n = rule-count b.words.now b.shape b.accepted in let m = c.requires.1 in omega arith

fits : (c : Start) → let b = c.args.book.now in (rule_end b.words.now c.args.at ≤ length b.words.now) × (length b.words.now ≤ 65535)
fits c = let b = c.args.book.now in (room b.accepted (more c) c.requires.2, book-short b.words.now b.shape b.accepted)

-- where the code found the rule
abbrev span : After-wide-2 → RuleSpan
span c = let at = c.args.at in let w = c.wide.result in let n = c.wide-2.result in
    record { lhs = at + 1; width = w; rhs = at + 1 + w + 1; size = n; next = at + 1 + w + 1 + n }

here : (c : After-wide-2) → Placed c.args.book.now.words.now c.requires.0 c.args.at (span c)
here c =
    let b = c.args.book.now in
    let n = rule-count b.words.now b.shape b.accepted in
    let m = c.requires.1 in
    placed-at {sh = b.shape} b.accepted (omega arith) c.requires.2
    (place-made b.words.now c.args.at c.wide.result c.wide-2.result c.wide.ensures.0 c.wide-2.ensures.0)

-- ---- the goals

pub overflow_add-first : goal.overflow_add-first
overflow_add-first c = let f = fits (goal.at.overflow_add-first c).Start in omega arith

pub offset_bounds-words-at : goal.offset_bounds-words-at
offset_bounds-words-at c = let f = fits (goal.at.offset_bounds-words-at c).Start in omega arith

pub bounds-words-at : goal.bounds-words-at
bounds-words-at c = let f = fits (goal.at.bounds-words-at c).Start in omega arith

pub overflow_add-left : goal.overflow_add-left
overflow_add-left c = let f = fits (goal.at.overflow_add-left c).Start in let e = c.wide.ensures.0 in omega arith

pub overflow_add-second : goal.overflow_add-second
overflow_add-second c = let f = fits (goal.at.overflow_add-second c).Start in let e = c.wide.ensures.0 in omega arith

pub offset_bounds-words-left : goal.offset_bounds-words-left
offset_bounds-words-left c = let f = fits (goal.at.offset_bounds-words-left c).Start in let e = c.wide.ensures.0 in omega arith

pub bounds-words-left : goal.bounds-words-left
bounds-words-left c = let f = fits (goal.at.bounds-words-left c).Start in let e = c.wide.ensures.0 in omega arith

pub overflow_add-end : goal.overflow_add-end
overflow_add-end c = let h = here (goal.at.overflow_add-end c).After-wide-2 in omega (arith, h.right-fits, h.short)

pub offset_bounds-words-first : goal.offset_bounds-words-first
offset_bounds-words-first c = let h = here (goal.at.offset_bounds-words-first c).After-wide-2 in omega (arith, h.left-ends)

pub slice_bounds-result-end : goal.slice_bounds-result-end
slice_bounds-result-end c = let h = here (goal.at.slice_bounds-result-end c).After-wide-2 in omega (arith, h.left-fits)

pub offset_bounds-words-second : goal.offset_bounds-words-second
offset_bounds-words-second c = let h = here (goal.at.offset_bounds-words-second c).After-wide-2 in omega (arith, h.right-fits, h.short)

pub slice_bounds-result-end-2 : goal.slice_bounds-result-end-2
slice_bounds-result-end-2 c = let h = here (goal.at.slice_bounds-result-end-2 c).After-wide-2 in omega (arith, h.right-fits)

pub invariant_of-result : goal.invariant_of-result
invariant_of-result c =
    let f = (here (goal.at.invariant_of-result c).After-wide-2).fits in
    record { inside = f.inside; headed = f.headed; short = f.short; known = f.known }

pub returns-clause-sides : goal.returns-clause-sides
returns-clause-sides c k more rest =
    (placed-at c.args.book.now.accepted more rest (place-made c.args.book.now.words.now c.args.at c.wide.result c.wide-2.result c.wide.ensures.0 c.wide-2.ensures.0)).is
