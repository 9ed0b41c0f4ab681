-- Up the way, to where the subterm holds a position: the ends of the loop of `walk::climb`.
use Prim.Native.Nat.{ℕ, ◌≤◌, ◌<◌}
use native.Mathlib.Omega.{arith}
use mathlib.Core.Path.{◌≡◌, sym, ap, ◌∙◌, subst}
use mathlib.Core.Bool.{true}
use mathlib.Core.List.{List}
use Rattle.system.specs.System.{System}
use Rattle.system.specs.Terms.{WellFormed}
use Rattle.rows.specs.Rows.{term_in}
use Rattle.rows.specs.gap.Gaps.{words_in}
use Rattle.rewriting.proofs.Ways.{way-active, way-top}
use Rattle.walks.specs.declared.walk.Finger.{Finger}
use Rattle.walks.specs.walk.Descent.{within, Above}
use Rattle.walks.specs.walk.Way.{Points, Over}
use Rattle.walks.proofs.Descent.{above_root}
use Rattle.walks.proofs.walk.Insides.{within-ends}
use Rattle.walks.proofs.walk.Pointing.{points-words, points-bounds}

module _ (s : System) (wf : WellFormed s) {t ws : List ℕ} {f : Finger} (v : Points s t ws f) where
  -- the subterm here holds q
  pub climbed-here : (q : ℕ) → within s.arities (term_in ws f.gap) f.at q ≡ true → Over s t ws f q
  climbed-here q h =
      let x = within-ends s.arities t f.at q (ap (λ y. within s.arities y f.at q) (sym v.term) ∙ h) in
      let b = points-bounds s wf v in
      record { points = v; above = record { active = way-active v.way; within = omega (arith, b.within, points-words v); low = x.0; high = x.1 } }

  -- no position is left on the way: the whole term does
  pub climbed-all : (q : ℕ) → q < words_in f.gap → f.level ≤ 0 → Over s t ws f q
  climbed-all q h l =
      let e = way-top v.way (omega (arith, v.levels)) in
      record { points = v; above = subst (λ p. Above s t p q) (sym e) (above_root s v.whole q (omega (arith, points-words v))) }
