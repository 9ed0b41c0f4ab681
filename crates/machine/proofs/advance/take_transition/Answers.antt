-- `machine::take_transition` meets its contract: a law of Performing for each way out.
use Prim.Native.Nat.{◌+◌}
use native.Mathlib.Omega.{arith}
use mathlib.Core.Path.{◌≡◌, ap, ◌∙◌}
use lib.ListN.{get_or, drop, length-set}
use Rattle.system.specs.Signature.{span}
use Rattle.reader.specs.Book.{system_of}
use Rattle.rows.proofs.lengths.Measures.{measured-from}
use Rattle.rows.specs.Rows.{term_in}
use Rattle.machine.specs.advance.Area.{base_of}
use Rattle.machine.proofs.advance.Bounds.{Bounds, bounds}
use Rattle.machine.proofs.advance.Performing.{taking-of, performed-end, performed-repeated, performed-rules, performed-deep, argument-fits, performed-argument}
use Rattle.machine.proofs.advance.Performing.{performed-measured}
use Rattle.machine.proofs.advance.take_transition.Goals as goal
use Rattle.machine.proofs.advance.take_transition.Goals.{After-hop-q, Start}

-- the call: the bounds that the state gives
within : (c : Start) → let a = c.args in Bounds a.area.now a.frame.now a.at.gap (base_of a.frame.now) a.at.level
within c = let a = c.args in bounds a.index.now.book.words.now a.index.now.book.shape c.args.index.now.book.accepted a.area.now a.frame.now a.at.gap (base_of a.frame.now) a.at.level c.requires

-- where the argument starts
hops : (c : After-hop-q) → let a = c.args in
    let t = term_in a.area.now a.at.gap in
    let p = get_or a.frame.now a.at.level 0 in
    c.hop-q.result ≡ p + 1 + span (system_of a.index.now.book.words.now).arities (drop (p + 1) t) c.in-Argument.i
hops c =
    let a = c.args in
    let t = term_in a.area.now a.at.gap in
    let g = (system_of a.index.now.book.words.now).arities in
    c.hop-q.ensures g (measured-from c.requires.represents.measured _)
    ∙ ap (λ y. y + 1 + span g (drop (y + 1) t) c.in-Argument.i) c.from-p.ensures

-- ---- the goals

pub overflow_add-begun : goal.overflow_add-begun
overflow_add-begun c = let b = within (goal.at.overflow_add-begun c).Start in omega arith

pub word_at-w-requires : goal.word_at-w-requires
word_at-w-requires c = let b = within (goal.at.word_at-w-requires c).Start in (b.gapped, omega (arith, b.within, c.from-p.ensures))

pub returns-in-End : goal.returns-in-End
returns-in-End c =
    let τ = taking-of c.args.index.now.book.accepted c.args.at c.requires c.from.ensures c.from-p.ensures c.word_at-w.ensures c.entry_of.ensures in
    let told = performed-measured (performed-end τ c.in-End.is) in
    record { performed = told.0; measured = told.1 }

pub returns-in-Repeated : goal.returns-in-Repeated
returns-in-Repeated c =
    let τ = taking-of c.args.index.now.book.accepted c.args.at c.requires c.from.ensures c.from-p.ensures c.word_at-w.ensures c.entry_of.ensures in
    let told = performed-measured (performed-repeated τ c.in-Repeated.is) in
    record { performed = told.0; measured = told.1 }

pub returns-in-Rules : goal.returns-in-Rules
returns-in-Rules c =
    let τ = taking-of c.args.index.now.book.accepted c.args.at c.requires c.from.ensures c.from-p.ensures c.word_at-w.ensures c.entry_of.ensures in
    let told = performed-measured (performed-rules τ c.in-Rules.is) in
    record { performed = told.0; measured = told.1 }

pub returns-then-level-ge-DEEPEST : goal.returns-then-level-ge-DEEPEST
returns-then-level-ge-DEEPEST c =
    let τ = taking-of c.args.index.now.book.accepted c.args.at c.requires c.from.ensures c.from-p.ensures c.word_at-w.ensures c.entry_of.ensures in
    let told = performed-measured (performed-deep τ c.in-Argument.i c.in-Argument.is c.if-level-ge-DEEPEST.true) in
    record { performed = told.0; measured = told.1 }

pub hop-q-requires : goal.hop-q-requires
hop-q-requires c =
    let b = within (goal.at.hop-q-requires c).Start in
    (b.gapped, omega (arith, b.within, c.from-p.ensures))

pub bounds-area-level-in-Argument-2 : goal.bounds-area-level-in-Argument-2
bounds-area-level-in-Argument-2 c = let b = within (goal.at.bounds-area-level-in-Argument-2 c).Start in rw length-set (omega arith)

pub overflow_cast-frame : goal.overflow_cast-frame
overflow_cast-frame c =
    let τ = taking-of c.args.index.now.book.accepted c.args.at c.requires c.from.ensures c.from-p.ensures c.word_at-w.ensures c.entry_of.ensures in
    let z = argument-fits τ c.in-Argument.i c.in-Argument.is c.if-level-ge-DEEPEST.false c.hop-q.result (hops c) in
    omega arith

pub returns-in-Argument : goal.returns-in-Argument
returns-in-Argument c =
    let τ = taking-of c.args.index.now.book.accepted c.args.at c.requires c.from.ensures c.from-p.ensures c.word_at-w.ensures c.entry_of.ensures in
    let told = performed-measured (performed-argument τ c.in-Argument.i c.in-Argument.is c.if-level-ge-DEEPEST.false c.hop-q.result (hops c)) in
    record { performed = told.0; measured = told.1 }
