-- Whether a position is active, by a walk down to it: at each symbol on the way, which argument holds the position, and whether that argument
-- stands in the strategy. What a loop of that walk cites.
use Prim.Native.Nat.{ℕ, suc, ◌+◌, ◌-◌, ◌≤◌, ◌<◌}
use native.Mathlib.Omega.{arith}
use native.Mathlib.Decide.{ℕ_discrete}
use mathlib.Core.Path.{◌≡◌, refl, sym, ap, ◌∙◌}
use mathlib.Core.Bool.{Bool, true, false}
use mathlib.Core.List.{List, [], ◌∷◌, ◌++◌, append-nil}
use lib.ListN.{length, get_or, drop, length-drop}
use Rattle.system.specs.Signature.{Signature, Symbol, arity, span, argument}
use Rattle.system.specs.System.{System, strategy}
use Rattle.system.specs.Terms.{Whole, Member, WellFormed, among}
use Rattle.system.proofs.Forests.{span-forest}
use Rattle.system.proofs.words.SpanSteps.{span-le}
use Rattle.layout.proofs.entries.Repeats.{among-member}
use Rattle.rewriting.specs.Rewriting.{root, below}
use Rattle.rewriting.proofs.Actives.{active-whole, at_parted}
use Rattle.rewriting.proofs.Contractions.{active-within}
use Rattle.walks.specs.Activity.{pending, front, active_at}
use Rattle.walks.specs.walk.Descent.{Above, From}
use Rattle.walks.proofs.Arguments.{argument-first, argument-next, argument-end, argument-of, argument-words}
use Rattle.walks.proofs.Activities.{pending-add, pending-false, argument-pending, active-pending, active_at-sound, active_at-complete}

module _ (s : System) where
  abbrev g : Signature
  g = s.arities

  -- ---- where a walk may start: at the root, or at any active position whose subterm holds q

  module _ {t : List ℕ} where
    pub above_root : Whole g t → (q : ℕ) → q < length t → Above s t 0 q
    above_root h q l =
        let e : span g t 1 ≡ length t = ap (λ z. span g z 1) (sym (append-nil t)) ∙ span-forest g (Symbol g) [] h in
        record { active = root; within = omega arith; low = omega arith; high = omega arith }

  -- ---- from argument to argument

  module _ {t : List ℕ} where
    pub above_within : {p q : ℕ} → Above s t p q → q < length t
    above_within {p} v = let z = v.within in let y = v.high in omega (arith, rw (length-drop p t) at (span-le g (drop p t) 1))

    -- the walk has not come to q: start at the first argument
    pub from_first : {p q : ℕ} → Above s t p q → p < q → From s t p q 0
    from_first {p} {q} v l =
        let e = argument-first g t p in
        let e' = argument-end g t p v.within in
        record {
          above = v;
          known = elim (ℕ_discrete (arity g (get_or t p 0)) 0) [
            | yes z ↦ absurd (let y = ap (argument g t p) z in let y' = v.high in omega arith)
            | no z ↦ omega arith
          ];
          low = omega arith;
        }

    module _ {p q i : ℕ} (v : From s t p q i) where
      abbrev at : ℕ
      at = argument g t p i

      pub from-within : at < length t
      from-within = let l = v.low in omega (arith, above_within v.above)

      -- q lies behind this argument: on to the next
      pub from_next : at + span g (drop at t) 1 ≤ q → From s t p q (suc i)
      from_next l =
          let e = argument-next g t p i in
          let e' = argument-end g t p v.above.within in
          let k = v.known in
          record {
            above = v.above;
            known = elim (ℕ_discrete (arity g (get_or t p 0)) (suc i)) [
              | yes z ↦ absurd (let y = ap (argument g t p) z in let y' = v.above.high in omega arith)
              | no z ↦ omega arith
            ];
            low = omega arith;
          }

      -- the last argument holds q, without a read
      pub from_last : suc i ≡ arity g (get_or t p 0) → q < at + span g (drop at t) 1
      from_last e =
          let x = ap (argument g t p) e in
          let y = v.above.high in
          omega (arith, argument-next g t p i, argument-end g t p v.above.within)

      -- q lies in this argument, which stands in the strategy: down to it
      pub above_down : q < at + span g (drop at t) 1 → Member (suc i) (strategy s (get_or t p 0)) → Above s t at q
      above_down l st = record { active = below i v.above.active st; within = from-within; low = v.low; high = l }

  -- ---- the answers, over a whole term

  module _ (wf : WellFormed s) {t : List ℕ} (h : Whole g t) where
    -- the walk has come to q
    pub above-here : (q : ℕ) → Above s t q q → active_at s t q ≡ true
    above-here q v = active_at-complete s wf h q v.active

    -- q lies in this argument, which does not stand in the strategy
    pub above-out : {p q i : ℕ} → From s t p q i → q < argument g t p i + span g (drop (argument g t p i) t) 1 →
        (Member (suc i) (strategy s (get_or t p 0)) → ⊥) → active_at s t q ≡ false
    unfolding active_at
    above-out {p} {q} {i} v l out =
        let x = active-whole s wf h v.above.active in
        let y = argument-of g t p x.behind i x.whole (at_parted s x) v.known in
        let c = active-pending s wf h v.above.active in
        let r = argument-pending s t x.behind p i (true ∷ []) true c.0 x.whole (at_parted s x) v.known c.1 in
        let a = argument g t p i in
        let j = q - a in
        let e : q ≡ a + j = (let z = v.low in omega arith) in
        let size : span g (drop a t) 1 ≡ length y.here = ap (λ z. span g z 1) (argument-words g t p y) ∙ span-forest g (Symbol g) y.behind y.whole in
        ap (λ z. front (pending s t (true ∷ []) z)) e
        ∙ ap front (pending-add s a j t (true ∷ []))
        ∙ ap (λ z. front (pending s z (pending s t (true ∷ []) a) j)) (argument-words g t p y)
        ∙ ap (λ z. front (pending s (y.here ++ y.behind) z j)) (r.1 ∙ ap (λ z. z ∷ r.0) (flag (among (suc i) (strategy s (get_or t p 0))) refl))
        ∙ pending-false s y.behind r.0 j y.whole (let z = v.low in omega arith)
      where
        flag : (b : Bool) → among (suc i) (strategy s (get_or t p 0)) ≡ b → among (suc i) (strategy s (get_or t p 0)) ≡ false
        flag true z = absurd (out (among-member (suc i) (strategy s (get_or t p 0)) z))
        flag false z = z

    pub above-end : (q : ℕ) → length t ≤ q → active_at s t q ≡ false
    above-end q l = go (active_at s t q) refl
      where
        go : (b : Bool) → active_at s t q ≡ b → active_at s t q ≡ false
        go false e = e
        go true e = absurd (let z = active-within s wf h (active_at-sound s t q e) in omega arith)
