-- The room of a record beside an evaluation without one: the outcome is the same, or 16 where a step within the step limit finds no room.
use Prim.Native.Nat.{ℕ, zero, suc, ◌+◌, ◌*◌, ◌≤◌, ◌<◌}
use native.Mathlib.Omega.{arith}
use native.Mathlib.Decide.{dec_le}
use mathlib.Core.Path.{◌≡◌, refl}
use mathlib.Core.Bool.{true, false}
use mathlib.Core.Option.{Option, none, some}
use mathlib.Core.List.{List, [], ◌∷◌}
use lib.ListN.{length, get_or, drop}
use borrow.Author.Tests.{le-leb, lt-leb}
use Rattle.system.specs.Limits.{term_words, levels}
use Rattle.system.specs.declared.numbers.Limit.TheVariants.{Spent, Overlong, Nested, Full}
use Rattle.system.specs.Signature.{argument}
use Rattle.system.specs.System.{System, strategy}
use Rattle.matching.specs.Matching.{Contraction, contraction}
use Rattle.rewriting.specs.Trace.{Trace}
use Rattle.rewriting.specs.Evaluation.{Limits, unrecorded, recorded, has_room, Config, Outcome, finished, stopped, start, steps, stepped, and_then, rewrite, follow, at_root, evaluate, evaluation}
use Rattle.rewriting.proofs.Walks.{follow-end, follow-pass, follow-fire, follow-open, rewrite-spent, rewrite-full, rewrite-long, rewrite-goes}

-- an outcome with n words of room, beside the one with no record: the same, or 16 where a step within the limit found no room
pub data Cut (limit n : ℕ) : Outcome → Outcome → Type 0 where
  same : (o : Outcome) → Cut limit n o o
  fills : (h : Trace) (o : Outcome) → length h < limit → n < 2 * length h + 2 → Cut limit n (stopped Full h) o

module _ (s : System) (limit n : ℕ) where
  abbrev roomy : Limits
  roomy = recorded limit n

  abbrev free : Limits
  free = unrecorded limit

  has_room_lem : (k : ℕ) → 2 * k + 2 ≤ n → has_room (some n) k ≡ true
  unfolding has_room
  has_room_lem k h = le-leb (2 * k + 2) n h

  no_room_lem : (k : ℕ) → n < 2 * k + 2 → has_room (some n) k ≡ false
  unfolding has_room
  no_room_lem k h = lt-leb (2 * k + 2) n h

  free-room : (k : ℕ) → has_room none k ≡ true
  unfolding has_room
  free-room k = refl

  abbrev Cuts : (Config → Outcome) → (Config → Outcome) → Type 0
  Cuts on on' = (r : Config) → Cut limit n (on r) (on' r)

  after-cut : (o o' : Outcome) (on on' : Config → Outcome) → Cut limit n o o' → Cuts on on' → Cut limit n (and_then o on) (and_then o' on')
  after-cut (finished r) o' on on' (same o) c = c r
  after-cut (stopped m h) o' on on' (same o) c = same (stopped m h)
  after-cut o o' on on' (fills h o'' l m) c = fills h (and_then o' on') l m

  rewrite-cut : (p : ℕ) (r : Config) (x : Contraction) (on on' : Config → Outcome) → Cuts on on' → Cut limit n (rewrite s roomy p r x on) (rewrite s free p r x on')
  rewrite-cut p r x on on' c = elim (dec_le limit (steps r)) [
    | yes h ↦ rw (rewrite-spent s roomy p r x h on, rewrite-spent s free p r x h on') (same (stopped Spent r.trace))
    | no h ↦
        let l : steps r < limit = omega arith in
        elim (dec_le (2 * steps r + 2) n) [
          | no m ↦ rw (rewrite-full s roomy p r x l (no_room_lem (steps r) (omega arith)) on) (fills r.trace (rewrite s free p r x on') l (omega arith))
          | yes m ↦ elim (dec_le (length (stepped s p r x).term) term_words) [
            | no k ↦
                rw (rewrite-long s roomy p r x l (has_room_lem (steps r) m) (omega arith) on, rewrite-long s free p r x l (free-room (steps r)) (omega arith) on')
                (same (stopped Overlong r.trace))
            | yes k ↦ rw (rewrite-goes s roomy p r x l (has_room_lem (steps r) m) k on, rewrite-goes s free p r x l (free-room (steps r)) k on') (c (stepped s p r x))
          ]
        ]
  ]

  module _ (inner inner' again again' : ℕ → Config → Outcome) (hi : (p : ℕ) → Cuts (inner p) (inner' p)) (ha : (p : ℕ) → Cuts (again p) (again' p)) where
    follow-cut : (es : List ℕ) (p : ℕ) → Cuts (follow s roomy inner again es p) (follow s free inner' again' es p)
    follow-cut [] p r = rw (follow-end s roomy inner again p r, follow-end s free inner' again' p r) (same (finished r))
    follow-cut (zero ∷ es) p r = go (contraction s (drop p r.term)) refl (follow-cut es p r)
      where
        go : (o : Option Contraction) → contraction s (drop p r.term) ≡ o → Cut limit n (follow s roomy inner again es p r) (follow s free inner' again' es p r) →
            Cut limit n (follow s roomy inner again (0 ∷ es) p r) (follow s free inner' again' (0 ∷ es) p r)
        go none e ih = rw (follow-pass s roomy inner again es p r e, follow-pass s free inner' again' es p r e) ih
        go (some x) e ih = rw (follow-fire s roomy inner again es p r x e, follow-fire s free inner' again' es p r x e) (rewrite-cut p r x (again p) (again' p) (ha p))
    follow-cut (suc i ∷ es) p r = rw (follow-open s roomy inner again i es p r, follow-open s free inner' again' i es p r)
        (after-cut _ _ (λ r'. follow s roomy inner again es p r') (λ r'. follow s free inner' again' es p r')
        (hi (argument s.arities r.term p i) r) (λ r'. follow-cut es p r'))

  at_root-cut : (inner inner' : ℕ → Config → Outcome) → ((p : ℕ) → Cuts (inner p) (inner' p)) → (left p : ℕ) → Cuts (at_root s roomy inner left p) (at_root s free inner' left p)
  unfolding at_root
  at_root-cut inner inner' hi zero p r =
      follow-cut inner inner' (λ p r. stopped Spent r.trace) (λ p r. stopped Spent r.trace) hi (λ p r. same (stopped Spent r.trace)) (strategy s (get_or r.term p 0)) p r
  at_root-cut inner inner' hi (suc left) p r =
      follow-cut inner inner' (at_root s roomy inner left) (at_root s free inner' left) hi (at_root-cut inner inner' hi left) (strategy s (get_or r.term p 0)) p r

  evaluate-cut : (levels p : ℕ) → Cuts (evaluate s roomy levels p) (evaluate s free levels p)
  unfolding evaluate
  evaluate-cut zero p r = same (stopped Nested r.trace)
  evaluate-cut (suc left) p r = at_root-cut (evaluate s roomy left) (evaluate s free left) (evaluate-cut left) limit p r

  -- the form with a record answers what the plain one does, or 16
  pub evaluation-cut : (t : List ℕ) → Cut limit n (evaluation s roomy t) (evaluation s free t)
  unfolding evaluation
  evaluation-cut t = evaluate-cut levels 0 (start t)

  -- with room for as many pairs as the limit allows steps, never 16
  pub evaluation-room : (t : List ℕ) → 2 * limit ≤ n → evaluation s roomy t ≡ evaluation s free t
  evaluation-room t l = go (evaluation s roomy t) (evaluation s free t) (evaluation-cut t)
    where
      go : (o o' : Outcome) → Cut limit n o o' → o ≡ o'
      go o o' (same o'') = refl
      go o o' (fills h o'' m k) = absurd (omega arith)
