-- The way from the root to a position: its positions, its parts, and that a step at its end leaves it.
use Prim.Native.Nat.{ℕ, suc, ◌≤◌, ◌<◌}
use native.Mathlib.Omega.{arith}
use native.Mathlib.Decide.{dec_lt}
use mathlib.Core.Path.{◌≡◌, refl, sym, subst, subst₂}
use mathlib.Core.List.{List, [], ◌∷◌, ◌++◌}
use lib.ListN.{length, get_or, take, length-append, get_or-append}
use lib.Seq.{take_at, take-append-le, get_or_at}
use Rattle.system.specs.Signature.{argument, replace}
use Rattle.system.specs.System.{System, strategy}
use Rattle.system.specs.Terms.{Whole, Member, WellFormed}
use Rattle.system.proofs.Places.{replace-word, replace-argument}
use Rattle.rewriting.specs.Rewriting.{Active, root, below}
use Rattle.rewriting.specs.Ways.{Way, top, down}
use Rattle.rewriting.proofs.Contractions.{active-within}

-- a list's positions with one more behind them: one of the first, or the last
pub snoc-cases : (P : List ℕ → ℕ → Type 0) (ps : List ℕ) (p k : ℕ) → k < length (ps ++ p ∷ []) →
    (k < length ps → P (take k ps) (get_or ps k 0)) → P ps p → P (take k (ps ++ p ∷ [])) (get_or (ps ++ p ∷ []) k 0)
snoc-cases P ps p k h first last =
    elim (dec_lt k (length ps)) [
      | yes l ↦ subst₂ P (sym (take-append-le k ps (p ∷ []) (omega arith))) (sym (get_or-append ps (p ∷ []) 0 k l)) (first l)
      | no l ↦
          let e : length ps ≡ k = omega (arith, length-append ps (p ∷ [])) in
          subst₂ P (sym (take_at ps (p ∷ []) k e)) (sym (get_or_at ps p [] 0 k e)) last
    ]

module _ {s : System} {t : List ℕ} where
  pub way-active : {ps : List ℕ} {p : ℕ} → Way s t ps p → Active s t p
  way-active top = root
  way-active (down i w m) = below i (way-active w) m

  -- each position is behind the one before it, so at least as many words stand before the last one as there are positions before it
  pub way-room : {ps : List ℕ} {p : ℕ} → Way s t ps p → length ps ≤ p
  unfolding argument
  way-room top = omega arith
  way-room (down {ps} {p} i w m) = omega (arith, length-append ps (p ∷ []), way-room w)

  -- with none before it, it is the root
  pub way-top : {ps : List ℕ} {p : ℕ} → Way s t ps p → length ps ≡ 0 → p ≡ 0
  way-top top e = refl
  way-top (down {ps} {p} i w m) e = absurd (omega (arith, length-append ps (p ∷ [])))

  -- a front of it is a way
  pub way-take : {ps : List ℕ} {p : ℕ} → Way s t ps p → (k : ℕ) → k < length ps → Way s t (take k ps) (get_or ps k 0)
  way-take top k h = absurd (omega arith)
  way-take (down {ps} {p} i w m) k h = snoc-cases (Way s t) ps p k h (λ l. way-take w k l) w

  -- each of its positions is before the last one
  pub way-before : {ps : List ℕ} {p : ℕ} → Way s t ps p → (k : ℕ) → k < length ps → get_or ps k 0 < p
  unfolding argument
  way-before top k h = absurd (omega arith)
  way-before (down {ps} {p} i w m) k h =
      snoc-cases (λ _ q. q < argument s.arities t p i) ps p k h (λ l. let z = way-before w k l in omega arith) (omega arith)

  -- and before those behind it
  pub way-rising : {ps : List ℕ} {p : ℕ} → Way s t ps p → (k : ℕ) → k < length ps → (j : ℕ) → j < length (take k ps) → get_or (take k ps) j 0 < get_or ps k 0
  way-rising w k h j l = way-before (way-take w k h) j l

  -- after a step at q, at its end or behind it
  pub way-kept : {ps : List ℕ} {p : ℕ} (q : ℕ) (v : List ℕ) → q < length t → p ≤ q → Way s t ps p → Way s (replace s.arities t q v) ps p
  unfolding argument
  way-kept q v h l top = top
  way-kept q v h l (down {ps} {p} i w m) =
      let word = replace-word s.arities t v p q (omega arith) (omega arith) in
      subst (Way s (replace s.arities t q v) (ps ++ p ∷ [])) (replace-argument s.arities t v p q i h l)
      (down i (way-kept q v h (omega arith) w) (subst (λ x. Member (suc i) (strategy s x)) (sym word) m))

  pub way_step : WellFormed s → Whole s.arities t → {ps : List ℕ} {p : ℕ} → Way s t ps p → (v : List ℕ) → Way s (replace s.arities t p v) ps p
  way_step wf h {p} w v = way-kept p v (active-within s wf h (way-active w)) (omega arith) w
