-- The lengths after a step at the end of a way: the symbols on the way are raised, number by number. None falls below zero, none comes above the
-- length of the new term, and each is read before it is changed.
use Prim.Native.Nat.{ℕ, ◌+◌, ◌-◌, ◌≤◌, ◌<◌}
use native.Mathlib.Omega.{arith}
use mathlib.Core.Path.{◌≡◌, sym, ap, ◌∙◌, subst₂}
use mathlib.Core.List.{List, ◌++◌}
use lib.ListN.{length, get_or, take, drop, length-drop}
use lib.Seq.{get_or-take}
use Rattle.system.specs.Signature.{Signature, span, argument, replace}
use Rattle.system.specs.System.{System}
use Rattle.system.specs.Terms.{Whole, WellFormed}
use Rattle.system.proofs.Places.{replace-length}
use Rattle.system.proofs.words.SpanSteps.{span-le}
use Rattle.rewriting.specs.Ways.{raise, Way, top, down}
use Rattle.system.specs.Spans.{spans}
use Rattle.system.proofs.Spans.{spans-at}
use Rattle.rewriting.proofs.Raises.{raise-later}
use Rattle.rewriting.proofs.Below.{argument-shorter}
use Rattle.rewriting.proofs.Contractions.{active-within}
use Rattle.rewriting.proofs.RowEdits.{spans-rewrite, spans-front}
use Rattle.rewriting.proofs.Ways.{snoc-cases, way-active, way-before, way-rising}
use Rattle.rewriting.proofs.WayLevels.{Levels, way-levels}

module _ (s : System) (wf : WellFormed s) {t : List ℕ} (h : Whole s.arities t) where
  abbrev g : Signature
  g = s.arities

  -- the words of the subterm at p
  abbrev width : ℕ → ℕ
  width p = span g (drop p t) 1

  -- the subterm at the end of a way takes no more words than those around it
  pub way-shorter : {ps : List ℕ} {p : ℕ} → Way s t ps p → (k : ℕ) → k < length ps → width p ≤ width (get_or ps k 0)
  way-shorter top k l = absurd (omega arith)
  way-shorter (down {ps} {p} i w m) k l =
      let z = argument-shorter s wf h (way-active w) i m in
      snoc-cases (λ _ q. width (argument g t p i) ≤ width q) ps p k l (λ l'. let z' = way-shorter w k l' in omega arith) z

  module _ {ps : List ℕ} {p : ℕ} (w : Way s t ps p) where
    -- ---- the row after a step at p

    module _ (v : List ℕ) (hv : Whole g v) where
      levels : Levels s t ps p
      levels = way-levels w

      pub way-spans-rewrite : spans g (replace g t p v) ≡ raise ps (width p) (length v) (take p (spans g t)) ++ (spans g v ++ drop (p + width p) (spans g t))
      way-spans-rewrite =
          subst₂ (λ ps p. spans g (replace g t p v) ≡ raise ps (width p) (length v) (take p (spans g t)) ++ (spans g v ++ drop (p + width p) (spans g t)))
          levels.above levels.position (spans-rewrite s wf t levels.counts v h levels.opened hv)

      -- before p
      pub way-spans-front : take p (spans g (replace g t p v)) ≡ raise ps (width p) (length v) (take p (spans g t))
      way-spans-front =
          subst₂ (λ ps p. take p (spans g (replace g t p v)) ≡ raise ps (width p) (length v) (take p (spans g t)))
          levels.above levels.position (spans-front s wf t levels.counts v h levels.opened hv)

    -- ---- number by number, in a row whose numbers before p are those of t

    module _ (row : List ℕ) (same : take p row ≡ take p (spans g t)) (k : ℕ) (l : k < length ps) (d e : ℕ) where
      -- the number that comes next is read as it was
      pub way-raise-read : get_or (raise (take k ps) d e row) (get_or ps k 0) 0 ≡ width (get_or ps k 0)
      way-raise-read =
          let q = get_or ps k 0 in
          let b : q < p = way-before w k l in
          raise-later d e (take k ps) row q (way-rising w k l)
          ∙ sym (get_or-take p row q 0 b) ∙ ap (λ ls. get_or ls q 0) same ∙ get_or-take p (spans g t) q 0 b ∙ spans-at g t q

      module _ (wide : d ≡ width p) where
        pub way-raise-room : d ≤ get_or (raise (take k ps) d e row) (get_or ps k 0) 0
        way-raise-room = omega (arith, way-raise-read, way-shorter w k l)

        pub way-raise-fits : (v : List ℕ) → e ≡ length v → get_or (raise (take k ps) d e row) (get_or ps k 0) 0 - d + e ≤ length (replace g t p v)
        way-raise-fits v long =
            let q = get_or ps k 0 in
            let a = active-within s wf h (way-active w) in
            let fits : p + width p ≤ length t = omega (arith, span-le g (drop p t) 1, length-drop p t) in
            omega (arith, way-raise-read, way-raise-room, replace-length g t v p fits, span-le g (drop q t) 1, length-drop q t)
