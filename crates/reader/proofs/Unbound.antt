-- 7 in a left side (02, F-7): what the reader knows after some words is the count of different variables among them, and so 7 is for one above that
-- count, and for no other.
use Prim.Native.Nat.{ℕ, ◌<◌}
use native.Mathlib.Omega.{arith}
use native.Mathlib.Decide.{dec_lt}
use mathlib.Core.Path.{◌≡◌, refl, sym, ap, ◌∙◌}
use mathlib.Core.Logic.{◌↔◌}
use mathlib.Core.Bool.{false}
use mathlib.Core.Option.{some}
use mathlib.Core.List.{List}
use Rattle.reader.specs.declared.scan.sides.SideRole.TheVariants.{Left}
use Rattle.system.specs.declared.numbers.Fault.TheVariants.{Unbound}
use Rattle.system.specs.Terms.{different, Numbered, end, symbol, next, again, InOrder}
use Rattle.reader.specs.Parser.{variable_fault, learn_all}
use Rattle.system.proofs.Numbering.{numbered-different, numbered-exactly}
use Rattle.reader.proofs.SideWords.{variable-next, variable-skips, learn-new, learn-old}

learns : {n m : ℕ} {ls : List ℕ} → Numbered n m ls → learn_all n ls ≡ m
unfolding learn_all
learns end = refl
learns (symbol {n} {w} {ws} l nb) = ap (λ k. learn_all k ws) (learn-old Left n w (λ e. omega arith)) ∙ learns nb
learns (next {n} {w} {ws} e nb) = ap (λ k. learn_all k ws) (learn-new Left n w refl e) ∙ learns nb
learns (again {n} {v} {w} {ws} e l nb) = ap (λ k. learn_all k ws) (learn-old Left n w (λ d. omega arith)) ∙ learns nb

-- the reader's count is that of different variables
pub learns-different : (a : List ℕ) → InOrder a → learn_all 0 a ≡ different a
learns-different a h = let n = (numbered-exactly a).1 h in learns n.1.1 ∙ sym (numbered-different n.1.1 n.1.0)

-- behind the words a of a left side, 7 is for a variable above that count
pub unbound-exactly : (a : List ℕ) (k : ℕ) → InOrder a → (variable_fault Left false (learn_all 0 a) k ≡ some Unbound) ↔ (different a < k)
unbound-exactly a k h =
    let d = learns-different a h in (
      λ e. elim (dec_lt (different a) k) [
        | yes l ↦ l
        | no l ↦ absurd (let z = sym (variable-next Left false (learn_all 0 a) k refl refl (omega arith)) ∙ e in let y : ◌≡◌ {A = ℕ} 0 1 = cc in omega arith)
      ],
      λ l. variable-skips Left false (learn_all 0 a) k refl refl (omega arith),
    )
