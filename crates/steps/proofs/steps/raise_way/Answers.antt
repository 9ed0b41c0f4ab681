use Prim.Native.Nat.{ℕ, suc, ◌+◌, ◌-◌, ◌<◌}
use native.Mathlib.Omega.{arith}
use mathlib.Core.Path.{◌≡◌, sym, ap, ◌∙◌}
use mathlib.Core.List.{List}
use lib.ListN.{length, get_or}
use Rattle.system.specs.Limits.{term_words}
use Rattle.rows.specs.Rows.{counts_at}
use Rattle.steps.proofs.steps.Raising.{Raising, raised-kept, raising-start, raising-end, raising-asks, raising-next}
use Rattle.steps.proofs.steps.Kept.{way-length, way-word}
use Rattle.steps.specs.steps.Raised.{way_in}
use Rattle.steps.proofs.steps.raise_way.Goals as goal

-- the word that is read in a turn is the next of the way, though some lengths are raised
read-next : {ws₀ ws : List ℕ} {n d e k : ℕ} → Raising ws₀ (way_in ws₀ n) d e ws k → k < n → get_or ws (counts_at + (term_words - 1 - k)) 0 ≡ get_or (way_in ws₀ n) k 0
read-next {ws₀} {n} {k} r l =
    let z : term_words - 1 - k ≡ term_words - suc k = omega arith in
    raised-kept r.raised (term_words - 1 - k) ∙ ap (λ y. get_or ws₀ (counts_at + y) 0) z ∙ sym (way-word ws₀ n k l)

on_way : (ws : List ℕ) {n k : ℕ} → k < n → k < length (way_in ws n)
on_way ws {n} l = let z = way-length ws n in omega arith

pub loop-k-init : goal.loop-k-init
loop-k-init c = let a = c.args in raising-start a.area.now (way_in a.area.now a.n) a.width a.size

pub raise_at-requires : goal.raise_at-requires
raise_at-requires c =
    raising-asks c.requires.2 c.loop-k.invariant (on_way c.args.area.now c.loop-k-test.true) _ (read-next c.loop-k.invariant c.loop-k-test.true)

pub loop-k-preserved : goal.loop-k-preserved
loop-k-preserved c =
    raising-next c.requires.2 c.loop-k.invariant (on_way c.args.area.now c.loop-k-test.true) _ (read-next c.loop-k.invariant c.loop-k-test.true) c.raise_at.ensures

pub returns : goal.returns
returns c = raising-end c.requires.2 c.loop-k.invariant (let z = way-length c.args.area.now c.args.n in omega arith)
