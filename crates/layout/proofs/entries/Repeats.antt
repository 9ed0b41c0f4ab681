-- Whether an entry is one of those that stand before it in a strategy.
use Prim.Native.Nat.{ℕ, suc, ◌+◌, ◌-◌, ◌≤◌, ◌<◌, min}
use native.Mathlib.Omega.{arith}
use native.Mathlib.Decide.{dec_lt}
use mathlib.Core.Path.{◌≡◌, refl, ap, ◌∙◌, subst}
use mathlib.Core.Logic.{◌⊎◌}
use mathlib.Core.Bool.{Bool, true, false, ◌||◌}
use mathlib.Core.List.{List, [], ◌∷◌, ◌++◌}
use lib.ListN.{length, get_or, take, drop, length-drop}
use lib.Seq.{take_all, take-suc, get_or-drop}
use lib.Dec.{eqb}
use Rattle.std.specs.List.{list_any}
use borrow.Author.Tests.{eqb-true, eq-eqb}
use Rattle.system.specs.Terms.{Member, first, later, among}
use Rattle.layout.specs.entries.Entries.{between}
use Rattle.system.proofs.Members.{member-nil, member-snoc}

pub among-member : (e : ℕ) (ds : List ℕ) → among e ds ≡ true → Member e ds
unfolding among
among-member e [] q = absurd (let z : ◌≡◌ {A = ℕ} 0 1 = cc in omega arith)
among-member e (d ∷ ds) q = go (λ k. among-member e ds k) (eqb e d) refl q
  where
    go : (among e ds ≡ true → Member e ds) → (b : Bool) → eqb e d ≡ b → b || among e ds ≡ true → Member e (d ∷ ds)
    go on true h k = subst (λ y. Member e (y ∷ ds)) (eqb-true e d h) first
    go on false h k = later (on k)

pub member-among : {e : ℕ} {ds : List ℕ} → Member e ds → among e ds ≡ true
unfolding among
member-among {e} first = rw (eq-eqb e e refl)
member-among {e} (later {d} {es} h) = or-true (eqb e d) (among e es) (member-among h)
  where
    or-true : (b c : Bool) → c ≡ true → b || c ≡ true
    or-true true c h = refl
    or-true false c h = h

-- none between f and what is not above it
pub between_none {ℓ} : {X : Type ℓ} (es : List ℕ) (f c e : ℕ) → c ≤ f → Member e (between es f c) → X
between_none es f c e h st = member-nil (subst (λ y. Member e (take y (drop f es))) (let z : c - f ≡ 0 = omega arith in z) st)

-- one more
pub between_more : (es : List ℕ) (f c e : ℕ) → c < length es → Member e (between es f (suc c)) → (e ≡ get_or es c 0) ⊎ Member e (between es f c)
between_more es f c e more st = elim (dec_lt c f) [
  | yes h ↦ between_none es f (suc c) e h st
  | no h ↦
      let z : suc c - f ≡ suc (c - f) = omega arith in
      let y : take (suc c - f) (drop f es) ≡ between es f c ++ get_or es c 0 ∷ [] =
      ap (λ k. take k (drop f es)) z ∙ take-suc (drop f es) (c - f) 0 (rw (length-drop f es) (omega arith))
      ∙ ap (λ k. between es f c ++ k ∷ []) (get_or-drop f es (c - f) 0 ∙ ap (λ k. get_or es k 0) (let w : f + (c - f) ≡ c = omega arith in w)) in
      member-snoc e (get_or es c 0) (between es f c) (subst (Member e) y st)
]

-- all of them
pub between-all : (es : List ℕ) (c : ℕ) → length es ≤ c → between es 0 c ≡ es
between-all es c h = ap (λ k. take k es) (let z : c - 0 ≡ c = omega arith in z) ∙ take_all c es h

-- whether an entry stands in a list, as `any` looks for it
pub among-any : (e : ℕ) (ds : List ℕ) → among e ds ≡ list_any (eqb e) ds
unfolding among
among-any e [] = refl
among-any e (d ∷ ds) = ap (λ b. eqb e d || b) (among-any e ds)

-- what stands between two entries, by a slice that starts at or before its end
pub between-min : (es : List ℕ) (f c : ℕ) → between es f c ≡ take (c - min f c) (drop (min f c) es)
between-min es f c = elim (dec_lt c f) [
  | yes l ↦ let z : c - f ≡ 0 = omega arith in let y : c - min f c ≡ 0 = omega arith in rw (z, y) refl
  | no l ↦ let z : min f c ≡ f = omega arith in rw z refl
]
