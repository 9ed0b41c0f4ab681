-- The ways of a term and the open levels of a machine tell the same: the machine's levels are a way, and to each way there are levels. (A way
-- may be longer than a machine has levels.)
use Prim.Native.Nat.{ℕ, suc, ◌<◌}
use mathlib.Core.Path.{◌≡◌, refl, sym, ap, ◌∙◌, subst}
use mathlib.Core.List.{List, [], ◌∷◌, ◌++◌}
use lib.ListN.{length, get_or}
use Rattle.system.specs.Signature.{argument}
use Rattle.system.specs.System.{System}
use Rattle.system.specs.Terms.{Member}
use Rattle.system.proofs.Members.{member-index}
use Rattle.rewriting.specs.Machine.{others, strategy_at, down, position}
use Rattle.rewriting.specs.Opened.{Opened, base}
use Rattle.rewriting.specs.Ways.{Way, top}
use Rattle.rewriting.specs.levels.Lengths.{above}
use Rattle.rewriting.proofs.Laws.{position-snoc}
use Rattle.rewriting.proofs.OpenLevels.{opened-open}
use Rattle.rewriting.proofs.Aboves.{above-snoc}

-- open levels that lead to p, with the symbols ps on the way
pub record Levels (s : System) (t ps : List ℕ) (p : ℕ) : Type 0 where
  pub counts : List ℕ
  pub opened : Opened s t 0 counts
  pub position : position s t counts 0 ≡ p
  pub above : above s t counts 0 ≡ ps

-- where an entry stands in a strategy
entry-index : (e : ℕ) (es : List ℕ) → Member e es → (c : ℕ) × (c < length es) × (get_or es c 0 ≡ e)
entry-index e es m = member-index (λ e. (c : ℕ) × (c < length es) × (get_or es c 0 ≡ e)) es (λ c l. (c, l, refl)) e m

module _ {s : System} {t : List ℕ} where
  pub way-levels : {ps : List ℕ} {p : ℕ} → Way s t ps p → Levels s t ps p
  unfolding above position down
  way-levels top = record { counts = []; opened = base; position = refl; above = refl }
  way-levels (Way.down {ps} {p} i w m) =
      let x = way-levels w in
      let c = entry-index (suc i) (strategy_at s t p) m in
      let e : strategy_at s t p ≡ strategy_at s t (position s t x.counts 0) = ap (strategy_at s t) (sym x.position) in
      record {
        counts = x.counts ++ suc c.0 ∷ [];
        opened = opened-open s t c.0 i x.opened (subst (λ es. c.0 < length es) e c.1) (subst (λ es. get_or es c.0 0 ≡ suc i) e c.2);
        position = position-snoc s t x.counts (suc c.0) 0 ∙ ap (λ q. down s t q (suc c.0)) x.position ∙ ap (λ z. argument s.arities t p (others z)) c.2;
        above = above-snoc s t x.counts (suc c.0) 0 ∙ (λ j. x.above j ++ x.position j ∷ []);
      }
