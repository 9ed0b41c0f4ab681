use Prim.Native.Nat.{ℕ, ◌+◌, ◌≤◌, ◌<◌}
use native.Mathlib.Omega.{arith}
use mathlib.Core.Path.{◌≡◌, sym, ◌∙◌}
use mathlib.Core.List.{List}
use lib.ListN.{length, get_or, drop, length-drop}
use lib.Seq.{length-take-le, get_or-take, get_or-drop}
use Rattle.system.specs.Limits.{area_words, term_words}
use Rattle.rows.specs.Rows.{counts_at}
use Rattle.steps.proofs.steps.Raising.{Raising, raised-kept, raising-start, raising-end, raising-asks, raising-next}
use Rattle.walks.specs.walk.Way.{way_in}
use Rattle.replay.proofs.retrace.raise_way.Goals as goal
use Rattle.replay.proofs.retrace.raise_way.Goals.{In-loop-j}

-- the word that is read in a turn is the next of the way, though some lengths are raised
read-next : {ws₀ ws : List ℕ} {n d e j : ℕ} → Raising ws₀ (way_in ws₀ n) d e ws j → j < n → get_or ws (counts_at + j) 0 ≡ get_or (way_in ws₀ n) j 0
read-next {ws₀} {n} {j} r l = raised-kept r.raised j ∙ sym (get_or-drop counts_at ws₀ j 0) ∙ sym (get_or-take n (drop counts_at ws₀) j 0 l)

-- it has so many
way-length : (ws : List ℕ) (n : ℕ) → length ws ≡ area_words → n ≤ term_words → length (way_in ws n) ≡ n
way-length ws n e l = length-take-le n (drop counts_at ws) (omega (arith, length-drop counts_at ws))

on_way : (c : In-loop-j) → c.loop-j.j < length (way_in c.args.area.now c.args.level)
on_way c = let n = way-length c.args.area.now c.args.level c.requires.0 c.requires.1 in omega (arith, c.loop-j-test.true)

pub loop-j-init : goal.loop-j-init
loop-j-init c = let a = c.args in raising-start a.area.now (way_in a.area.now a.level) a.width a.size

pub raise_at-requires : goal.raise_at-requires
raise_at-requires c =
    raising-asks c.requires.2 c.loop-j.invariant (on_way (goal.at.raise_at-requires c).In-loop-j) _ (read-next c.loop-j.invariant c.loop-j-test.true)

pub loop-j-preserved : goal.loop-j-preserved
loop-j-preserved c =
    raising-next c.requires.2 c.loop-j.invariant (on_way (goal.at.loop-j-preserved c).In-loop-j) _ (read-next c.loop-j.invariant c.loop-j-test.true) c.raise_at.ensures

pub returns : goal.returns
returns c = raising-end c.requires.2 c.loop-j.invariant (let n = way-length c.args.area.now c.args.level c.requires.0 c.requires.1 in omega arith)
