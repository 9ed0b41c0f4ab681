-- `Index::entry_of` meets its contract.
use Prim.Native.Nat.{◌-◌, ◌<◌, min}
use native.Mathlib.Omega.{arith}
use borrow.Author.Rules.{rules}
use borrow.Author.Tests.{tests}
use mathlib.Core.Path.{◌≡◌, sym, ap, ◌∙◌}
use lib.Dec.{eqb}
use lib.ListN.{length, get_or, take, drop}
use Rattle.std.specs.List.{list_any}
use Rattle.std.proofs.lemmas.Iterator.{YieldsList-from_slice}
use Rattle.std.proofs.lemmas.Iterator.Search.{any_from_yields_List}
use Rattle.system.specs.System.{strategy}
use Rattle.reader.specs.Book.{system_of}
use Rattle.layout.proofs.entries.Asks.{entry-unlisted, entry_past, entry-repeated, entry_read, from_zero, from_more}
use Rattle.layout.proofs.index.Index.entry_of.Goals as goal
use Rattle.layout.proofs.index.Index.entry_of.Goals.{After-entries_of-entries, After-any}

pub returns-then-self-symbol : goal.returns-then-self-symbol
returns-then-self-symbol c =
    let a = c.args in
    let f = c.wide-symbol in
    let b = c.built_in_entry in
    entry-unlisted a.self.now.book.words.now a.self.now.book.shape c.args.self.now.book.accepted a.w f.result a.f a.c f.ensures.0 c.if-self-symbol.true b.result (b.ensures a.f)

-- the strategy whose entries these are
here : (c : After-entries_of-entries) → c.entries_of-entries.result.now ≡ strategy (system_of c.args.self.now.book.words.now) c.args.w
here c = c.entries_of-entries.ensures ∙ ap (strategy (system_of c.args.self.now.book.words.now)) c.wide-symbol.ensures.0

pub returns-in_default : goal.returns-in_default
returns-in_default c =
    let a = c.args in
    let e = here (goal.at.returns-in_default c).After-entries_of-entries in
    sym (entry_past (strategy (system_of a.self.now.book.words.now) a.w) a.f a.c (rw e at c.in_default.ensures.lookup.3))

-- whether the entry stands before itself
stood : (c : After-any) → let a = c.args in let es = c.entries_of-entries.result.now in
    c.any.result ≡ list_any (eqb c.in-Some.e) (take (a.c - min a.f a.c) (drop (min a.f a.c) es))
stood c =
    let a = c.args in
    let es = c.entries_of-entries.result.now in
    any_from_yields_List (eqb c.in-Some.e) _ _ c.any.result c.any.ensures.ran
    (YieldsList-from_slice (take (a.c - min a.f a.c) (drop (min a.f a.c) es)) (search rules)) (λ x b q k. search (rules, tests))

any : (c : After-any) → let a = c.args in let es = strategy (system_of a.self.now.book.words.now) a.w in
    (a.c < length es) × (c.in-Some.e ≡ get_or es a.c 0) × (c.any.result ≡ list_any (eqb c.in-Some.e) (take (a.c - min a.f a.c) (drop (min a.f a.c) es)))
any c =
    let a = c.args in
    let h = c.in-Some.ensures.lookup.3 in
    let e : c.entries_of-entries.result.now ≡ strategy (system_of a.self.now.book.words.now) a.w =
    c.entries_of-entries.ensures ∙ ap (strategy (system_of a.self.now.book.words.now)) c.wide-symbol.ensures.0 in
    (rw e at h.0, sym c.in-Some.e-is ∙ rw e at (h.1 0), rw e at (stood c))

pub returns-then-any : goal.returns-then-any
returns-then-any c =
    let a = c.args in
    let h = any (goal.at.returns-then-any c).After-any in
    entry-repeated (strategy (system_of a.self.now.book.words.now) a.w) a.f a.c c.in-Some.e h.0 h.1 h.2 c.if-any.true

pub returns-in-0 : goal.returns-in-0
returns-in-0 c =
    let a = c.args in
    let h = any (goal.at.returns-in-0 c).After-any in
    from_zero c.wide.result c.in-0.is
    ∙ entry_read (strategy (system_of a.self.now.book.words.now) a.w) a.f a.c c.in-Some.e h.0 h.1 h.2 c.if-any.false (c.wide.ensures.0 ∙ c.in-Some.e-is)

pub returns-in_default-wide : goal.returns-in_default-wide
returns-in_default-wide c =
    let a = c.args in
    let h = any (goal.at.returns-in_default-wide c).After-any in
    from_more c.wide.result (λ z. omega arith)
    ∙ entry_read (strategy (system_of a.self.now.book.words.now) a.w) a.f a.c c.in-Some.e h.0 h.1 h.2 c.if-any.false (c.wide.ensures.0 ∙ c.in-Some.e-is)
