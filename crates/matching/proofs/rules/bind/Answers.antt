-- `rules::bind` meets its contract.
use Prim.Native.Nat.{◌+◌, ◌-◌, ◌≤◌}
use native.Mathlib.Omega.{arith}
use mathlib.Core.Path.{◌≡◌}
use lib.ListN.{length, get_or, drop}
use Rattle.system.specs.Limits.{variable}
use Rattle.system.specs.Signature.{signature_of}
use Rattle.system.proofs.words.SpanSteps.{tail, tail-length}
use Rattle.matching.specs.Bindings.{consumed}
use Rattle.matching.proofs.rules.Binds.{nothing-binds, symbol-binds, new-binds, unlike-binds, again-binds}
use Rattle.matching.proofs.rules.bind.Goals as goal
use Rattle.matching.proofs.rules.bind.Goals.{After-consumed-n, After-wide-w}

-- ---- what the word takes by itself, and that these words and the variable's stretch lie in ws

took : (c : After-consumed-n) →
    let a = c.args in c.consumed-n.result ≡ consumed (signature_of a.book.now) a.l (drop a.q a.ws.now)
took c = let a = c.args in rw (tail a.ws.now a.q) at c.consumed-n.ensures.0

fits : (c : After-consumed-n) → let a = c.args in a.q + c.consumed-n.result ≤ length a.ws.now
fits c = let i = c.requires.0 in let m = c.consumed-n.ensures.1 in omega (arith, tail-length c.args.ws.now c.args.q)

stretch : (c : After-wide-w) →
    let a = c.args in
    get_or a.starts.now (c.wide-w.result - variable) 0 + get_or a.lengths.now (c.wide-w.result - variable) 0 ≤ length a.ws.now
stretch c = c.requires.2.inside (c.wide-w.result - variable)

-- ---- the goals

pub returns-then-w-lt-VARIABLE : goal.returns-then-w-lt-VARIABLE
returns-then-w-lt-VARIABLE c =
    let a = c.args in
    let told = symbol-binds (signature_of a.book.now) a.ws.now c.wide-w.ensures.0 a.q a.starts.now a.lengths.now (took (goal.at.returns-then-w-lt-VARIABLE c).After-consumed-n)
    c.if-w-lt-VARIABLE.true in
    record { taken = told.0; bound = told.1.0; unbound = told.1.1 }

pub returns-then-n-eq0 : goal.returns-then-n-eq0
returns-then-n-eq0 c =
    let a = c.args in
    let told = nothing-binds (signature_of a.book.now) a.ws.now c.wide-w.ensures.0 a.q a.starts.now a.lengths.now (took (goal.at.returns-then-n-eq0 c).After-consumed-n) c.if-n-eq0.true in
    record { taken = told.0; bound = told.1.0; unbound = told.1.1 }

pub returns-then-m-eq0 : goal.returns-then-m-eq0
returns-then-m-eq0 c =
    let a = c.args in
    let told = new-binds (signature_of a.book.now) a.ws.now c.wide-w.ensures.0 a.q a.starts.now a.lengths.now (took (goal.at.returns-then-m-eq0 c).After-consumed-n)
    c.if-w-lt-VARIABLE.false c.if-n-eq0.false
    c.if-m-eq0.true in
    record { taken = told.0; bound = told.1.0; unbound = told.1.1 }

pub same_parts-requires : goal.same_parts-requires
same_parts-requires c = (stretch (goal.at.same_parts-requires c).After-wide-w, fits (goal.at.same_parts-requires c).After-consumed-n)

pub returns-then-not-same_parts : goal.returns-then-not-same_parts
returns-then-not-same_parts c =
    let a = c.args in
    let told = unlike-binds (signature_of a.book.now) a.ws.now c.wide-w.ensures.0 a.q a.starts.now a.lengths.now (took (goal.at.returns-then-not-same_parts c).After-consumed-n)
    c.if-w-lt-VARIABLE.false c.if-m-eq0.false
    c.same_parts.ensures c.if-not-same_parts.true in
    record { taken = told.0; bound = told.1.0; unbound = told.1.1 }

pub returns : goal.returns
returns c =
    let a = c.args in
    let told = again-binds (signature_of a.book.now) a.ws.now c.wide-w.ensures.0 a.q a.starts.now a.lengths.now (took (goal.at.returns c).After-consumed-n) c.if-w-lt-VARIABLE.false c.if-m-eq0.false
    c.same_parts.ensures c.if-not-same_parts.false in
    record { taken = told.0; bound = told.1.0; unbound = told.1.1 }
