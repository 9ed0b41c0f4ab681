-- The open levels of a state of the machine: their positions are active, one level more and one less, and a rewrite below them leaves them.
use Prim.Native.Nat.{ℕ, suc, ◌+◌, ◌≤◌, ◌<◌}
use native.Mathlib.Omega.{arith}
use mathlib.Core.Path.{◌≡◌, refl}
use mathlib.Core.List.{List, [], ◌∷◌, ◌++◌}
use lib.ListN.{length, get_or}
use Rattle.system.specs.Signature.{replace}
use Rattle.system.specs.System.{System}
use Rattle.system.specs.Terms.{WellFormed}
use Rattle.rewriting.specs.Rewriting.{Active, below}
use Rattle.rewriting.specs.Machine.{strategy_at, down, position}
use Rattle.rewriting.specs.Opened.{Opened, base, level}
use Rattle.system.proofs.Members.{member-get_or}
use Rattle.rewriting.proofs.Actives.{At, at-below}
use Rattle.rewriting.proofs.Laws.{down_lt, position-le, replace-strategy, replace-down}

module _ (s : System) (t : List ℕ) where
  -- the position below is active
  pub opened-active : {p : ℕ} {cs : List ℕ} → Active s t p → Opened s t p cs → Active s t (position s t cs p)
  unfolding position down
  opened-active act base = act
  opened-active act (level {p} {c} {i} h e o) =
      opened-active (rw e (below i act (rw e at (member-get_or (strategy_at s t p) c h)))) o

  -- a whole subterm stands there, if one does where the levels start
  pub opened-at : WellFormed s → {p : ℕ} {cs : List ℕ} → At s (λ _. Unit {0}) t p → Opened s t p cs → At s (λ _. Unit {0}) t (position s t cs p)
  unfolding position down
  opened-at wf x base = x
  opened-at wf x (level {p} {c} {i} h e o) =
      opened-at wf (rw e (at-below s wf i x (rw e at (member-get_or (strategy_at s t p) c h)))) o

  -- as many words before it, behind the first one, as there are levels
  pub opened-room : {p : ℕ} {cs : List ℕ} → Opened s t p cs → p + length cs ≤ position s t cs p
  unfolding position
  opened-room base = omega arith
  opened-room (level {p} {c} {cs} h e o) = let z = opened-room o in let y = down_lt s t p (suc c) in omega arith

  -- one level more
  pub opened-open : {p : ℕ} {cs : List ℕ} (c i : ℕ) → Opened s t p cs → c < length (strategy_at s t (position s t cs p)) → get_or (strategy_at s t (position s t cs p)) c 0 ≡ suc i →
      Opened s t p (cs ++ suc c ∷ [])
  unfolding position
  opened-open c i base h e = level h e base
  opened-open c i (level h' e' o) h e = level h' e' (opened-open c i o h e)

  -- one level less
  pub opened-pop : (cs : List ℕ) (c : ℕ) {p : ℕ} → Opened s t p (cs ++ c ∷ []) → Opened s t p cs × (c ≤ length (strategy_at s t (position s t cs p)))
  unfolding position
  opened-pop [] c (level h e o) = (base, h)
  opened-pop (d ∷ cs) c (level h e o) = let x = opened-pop cs c o in (level h e x.0, x.1)

  -- a rewrite at or below the position leaves the levels above it
  pub opened-replace : (u : List ℕ) (q : ℕ) {p : ℕ} {cs : List ℕ} → Opened s t p cs → position s t cs p ≤ q → q < length t →
      Opened s (replace s.arities t q u) p cs × (position s (replace s.arities t q u) cs p ≡ position s t cs p)
  unfolding position
  opened-replace u q base m h = (base, refl)
  opened-replace u q (level {p} {c} {i} {cs} l e o) m h =
      let d : down s t p (suc c) ≤ q = (let z = position-le s t cs (down s t p (suc c)) in omega arith) in
      let qo = replace-strategy s t u p q (suc c) h d in
      let qd = replace-down s t u p q (suc c) h d in
      let x = opened-replace u q o m h in
      (level {p = p} {c = c} {i = i} {cs = cs} (rw qo l) (rw qo e) (rw qd x.0), rw qd x.1)
