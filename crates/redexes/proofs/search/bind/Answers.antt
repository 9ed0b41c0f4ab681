-- `redexes::bind` meets its contract.
use Prim.Native.Nat.{ℕ, ◌+◌, ◌-◌, ◌≤◌, ◌<◌}
use native.Mathlib.Omega.{arith}
use mathlib.Core.Path.{◌≡◌, ◌∙◌}
use mathlib.Core.List.{List}
use lib.ListN.{get_or, drop}
use Rattle.std.specs.Prelude.{Some}
use Rattle.system.specs.Limits.{variable, variables}
use Rattle.system.specs.Signature.{Signature}
use Rattle.rows.specs.declared.gap.Gap.{Gap}
use Rattle.rows.specs.Measured.{Measured}
use Rattle.rows.specs.Rows.{term_in}
use Rattle.rows.specs.gap.Gaps.{words_in}
use Rattle.rows.proofs.lengths.Measures.{words-length}
use Rattle.matching.specs.Bindings.{consumed}
use Rattle.matching.specs.rules.Searches.{Within}
use Rattle.redexes.specs.search.Redexes.{bound_in, some_words}
use Rattle.redexes.proofs.search.Binds.{new-bound, old-bound, symbol-bound}
use Rattle.redexes.proofs.search.Binds.{nothing-takes, takes-some, takes-inside, symbol-takes, new-takes, length-differs, words-differ, again-takes, stretch-inside}
use Rattle.redexes.proofs.search.bind.Goals as goal

-- ---- what is met lies in the term, and so does what the variable stands for

module _ {g : Signature} {area : List ℕ} {gap : Gap} (m : Measured g area gap) where
  met-inside : (l : ℕ) {p q n : ℕ} → p ≤ q → Some n ≡ some_words (consumed g l (drop q (term_in area gap))) → q + n ≤ words_in gap
  met-inside l o e = let k = words-length m.gapped in let z = takes-inside g (term_in area gap) l o area e in omega arith

  bound-inside : (bs : List ℕ) {l w p q : ℕ} → w ≡ l → variable ≤ w → w - variable < variables → p ≤ q → q ≤ words_in gap →
      Within (drop p (term_in area gap)) (bound_in bs).starts (bound_in bs).lengths →
      p + get_or bs (w - variable) 0 + get_or bs (variables + (w - variable)) 0 ≤ words_in gap
  bound-inside bs is high few o i lies =
      let k = words-length m.gapped in
      let z = stretch-inside bs is high few (term_in area gap) (omega arith) lies in
      omega arith

-- ---- the goals

pub returns-in_err-n-clause-taken : goal.returns-in_err-n-clause-taken
returns-in_err-n-clause-taken c g m =
    let e = nothing-takes g (term_in c.args.area.now c.args.spot.gap) c.args.l c.requires.1 c.args.bindings.now (c.in_err-n.ensures g m) in
    let r = c.from_residual.ensures in
    cc

pub returns-then-w-lt-VARIABLE-clause-taken : goal.returns-then-w-lt-VARIABLE-clause-taken
returns-then-w-lt-VARIABLE-clause-taken c g m =
    symbol-takes g (term_in c.args.area.now c.args.spot.gap) c.args.l c.requires.1 c.args.bindings.now (c.in_ok-n.ensures g m) c.from-w.ensures c.if-w-lt-VARIABLE.true

pub returns-then-w-lt-VARIABLE-clause-bound : goal.returns-then-w-lt-VARIABLE-clause-bound
returns-then-w-lt-VARIABLE-clause-bound c =
    symbol-bound c.args.bindings.now c.from-w.ensures c.if-w-lt-VARIABLE.true (c.args.q - c.args.spot.at) c.in_ok-n.n

pub overflow_cast-bindings : goal.overflow_cast-bindings
overflow_cast-bindings c =
    let m = c.requires.0.1 in
    let i = met-inside m c.args.l c.requires.1 (c.in_ok-n.ensures c.requires.0.0 m) in
    let l = m.gapped.lies in
    omega arith

pub overflow_cast-bindings-then-m-eq0 : goal.overflow_cast-bindings-then-m-eq0
overflow_cast-bindings-then-m-eq0 c =
    let m = c.requires.0.1 in
    let i = met-inside m c.args.l c.requires.1 (c.in_ok-n.ensures c.requires.0.0 m) in
    let l = m.gapped.lies in
    omega arith

pub returns-then-m-eq0-clause-taken : goal.returns-then-m-eq0-clause-taken
returns-then-m-eq0-clause-taken c g m =
    new-takes g (term_in c.args.area.now c.args.spot.gap) c.args.l c.requires.1 c.args.bindings.now (c.in_ok-n.ensures g m)
    c.from-w.ensures c.if-w-lt-VARIABLE.false (omega arith) (omega arith)

pub returns-then-m-eq0-clause-bound : goal.returns-then-m-eq0-clause-bound
returns-then-m-eq0-clause-bound c =
    new-bound c.args.bindings.now c.from-w.ensures c.if-w-lt-VARIABLE.false (omega arith) (c.args.q - c.args.spot.at) c.in_ok-n.n (omega arith)

pub returns-then-m-n-clause-taken : goal.returns-then-m-n-clause-taken
returns-then-m-n-clause-taken c g m =
    length-differs g (term_in c.args.area.now c.args.spot.gap) c.args.l c.requires.1 c.args.bindings.now (c.in_ok-n.ensures g m)
    c.from-w.ensures c.if-w-lt-VARIABLE.false (omega arith) c.from-m.ensures c.if-m-eq0.false c.requires.4 c.if-m-n.true

pub overflow_add-spot : goal.overflow_add-spot
overflow_add-spot c =
    let m = c.requires.0.1 in
    let i = met-inside m c.args.l c.requires.1 (c.in_ok-n.ensures c.requires.0.0 m) in
    let z = bound-inside m c.args.bindings.now c.from-w.ensures c.if-w-lt-VARIABLE.false (omega arith) c.requires.1 (omega arith) c.requires.4 in
    let l = m.gapped.lies in
    omega arith

pub same_at-requires : goal.same_at-requires
same_at-requires c =
    let m = c.requires.0.1 in
    let e = c.in_ok-n.ensures c.requires.0.0 m in
    let i = met-inside m c.args.l c.requires.1 e in
    let z = bound-inside m c.args.bindings.now c.from-w.ensures c.if-w-lt-VARIABLE.false (omega arith) c.requires.1 (omega arith) c.requires.4 in
    let some = takes-some c.requires.0.0 (term_in c.args.area.now c.args.spot.gap) c.args.l c.requires.1 c.args.bindings.now e in
    (m.gapped, omega arith, omega arith, i)

pub returns-then-not-same_at-clause-taken : goal.returns-then-not-same_at-clause-taken
returns-then-not-same_at-clause-taken c g m =
    words-differ g (term_in c.args.area.now c.args.spot.gap) c.args.l c.requires.1 c.args.bindings.now (c.in_ok-n.ensures g m)
    c.from-w.ensures c.if-w-lt-VARIABLE.false (omega arith) c.from-m.ensures c.if-m-eq0.false c.if-m-n.false c.from.ensures c.same_at.ensures c.if-not-same_at.true

pub returns-clause-taken : goal.returns-clause-taken
returns-clause-taken c g m =
    again-takes g (term_in c.args.area.now c.args.spot.gap) c.args.l c.requires.1 c.args.bindings.now (c.in_ok-n.ensures g m)
    c.from-w.ensures c.if-w-lt-VARIABLE.false (omega arith) c.from-m.ensures c.if-m-eq0.false c.if-m-n.false c.from.ensures c.same_at.ensures c.if-not-same_at.false

pub returns-clause-bound : goal.returns-clause-bound
returns-clause-bound c =
    old-bound c.args.bindings.now c.from-w.ensures c.if-w-lt-VARIABLE.false (omega arith) (c.args.q - c.args.spot.at) c.in_ok-n.n (λ z. c.if-m-eq0.false (c.from-m.ensures ∙ z))
