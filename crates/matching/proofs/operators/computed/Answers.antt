-- Two words or three tell whether a built-in rule matches.
use Prim.Native.Nat.{ℕ}
use native.Mathlib.Omega.{arith}
use mathlib.Core.Path.{◌≡◌, sym, ap, ◌∙◌}
use mathlib.Core.Bool.{true}
use mathlib.Core.Option.{Option, none, some}
use mathlib.Core.List.{List, [], ◌∷◌}
use Rattle.std.specs.Prelude.{Option as Found, None, Some}
use Rattle.system.specs.BuiltIns.{is_literal}
use Rattle.system.specs.Rules.{maximum_rule, minimum_rule, square_rule}
use Rattle.matching.specs.declared.FirstRule.{FirstRule}
use Rattle.matching.specs.declared.FirstRule.TheVariants.{Computed}
use Rattle.matching.specs.Matching.{Computation}
use Rattle.matching.specs.Bindings.{computed_rule}
use Rattle.matching.proofs.Computed.{computed-first, computed-second, computed-square, computed-maximum, computed-minimum, computed-plain}
use Rattle.matching.proofs.operators.computed.Goals as goal
use Rattle.matching.proofs.operators.computed.Goals.{Start, Else-not-is_literal}

abbrev words : Start → List ℕ
words c = let a = c.args in a.first ∷ a.m ∷ a.n ∷ []

-- the first argument is a literal there
left : (c : Else-not-is_literal) → is_literal c.args.m ≡ true
left c = sym c.is_literal.ensures ∙ c.if-not-is_literal.false

-- ---- what is found

nothing : {o : Option Computation} → o ≡ none → ◌≡◌ {A = Found FirstRule} None (computed_rule o)
nothing e = sym (ap computed_rule e)

puts : {o : Option Computation} (k : ℕ) {w v : ℕ} → o ≡ some (record { number = k; word = w }) → v ≡ w → ◌≡◌ {A = Found FirstRule} (Some (Computed k v)) (computed_rule o)
puts k e q = ap (λ y. Some (Computed k y)) q ∙ sym (ap computed_rule e)

-- ---- the goals

pub returns-then-not-is_literal : goal.returns-then-not-is_literal
returns-then-not-is_literal c = nothing (computed-first (words (goal.at.returns-then-not-is_literal c).Start) (sym c.is_literal.ensures ∙ c.if-not-is_literal.true))

pub squared-requires : goal.squared-requires
squared-requires c = left (goal.at.squared-requires c).Else-not-is_literal

pub returns-in-16642 : goal.returns-in-16642
returns-in-16642 c =
    let x = goal.at.returns-in-16642 c in
    puts square_rule (computed-square (words x.Start) (left x.Else-not-is_literal) (sym c.wide.ensures.0 ∙ c.in-16642.is)) c.squared.ensures

pub returns-in-16640 : goal.returns-in-16640
returns-in-16640 c =
    let x = goal.at.returns-in-16640 c in
    puts maximum_rule (computed-maximum (words x.Start) (left x.Else-not-is_literal) (sym c.if-is_literal.ensures) (sym c.wide.ensures.0 ∙ c.in-16640.is)) c.larger.ensures

pub returns-in-16641 : goal.returns-in-16641
returns-in-16641 c =
    let x = goal.at.returns-in-16641 c in
    puts minimum_rule (computed-minimum (words x.Start) (left x.Else-not-is_literal) (sym c.if-is_literal-2.ensures) (sym c.wide.ensures.0 ∙ c.in-16641.is)) c.smaller.ensures

pub returns-in_default : goal.returns-in_default
returns-in_default c =
    let is = c.wide.ensures.0 in
    let e = c.in-16640.is in
    nothing (computed-second (words (goal.at.returns-in_default c).Start) (λ q. omega arith) (sym c.if-is_literal.ensures))

pub returns-in_default-2 : goal.returns-in_default-2
returns-in_default-2 c =
    let is = c.wide.ensures.0 in
    let e = c.in-16641.is in
    nothing (computed-second (words (goal.at.returns-in_default-2 c).Start) (λ q. omega arith) (sym c.if-is_literal-2.ensures))

pub returns-in_default-3 : goal.returns-in_default-3
returns-in_default-3 c =
    let is = c.wide.ensures.0 in
    nothing (computed-plain (words (goal.at.returns-in_default-3 c).Start) (λ q. omega arith) (λ q. omega arith) (λ q. omega arith))
