-- A round of a run's loop in which a rewrite is next: each way out of it, and that the next round starts as this one did.
use Prim.Native.Nat.{ℕ, zero, suc, ◌+◌, ◌-◌, ◌≤◌, ◌<◌}
use native.Mathlib.Omega.{arith}
use mathlib.Core.Path.{◌≡◌, refl, sym, ap, ◌∙◌}
use mathlib.Core.Bool.{true}
use mathlib.Core.List.{List, [], ◌∷◌, ◌++◌}
use lib.ListN.{length}
use Rattle.std.specs.Prelude.{Option, Some, None}
use Rattle.system.specs.System.{System}
use Rattle.reader.specs.Book.{system_of}
use Rattle.system.specs.Limits.{term_words, levels}
use Rattle.system.specs.declared.numbers.Limit.{Limit}
use Rattle.system.specs.declared.numbers.Limit.TheVariants.{Overlong}
use Rattle.redexes.specs.declared.search.Redex.{Redex}
use Rattle.matching.specs.Matching.{Contraction}
use Rattle.rows.specs.declared.gap.Gap.{Gap}
use Rattle.rows.specs.Rows.{term_in}
use Rattle.rewriting.specs.Evaluation as evaluation
use Rattle.rewriting.specs.Evaluation.{Config, has_room}
use Rattle.rewriting.specs.Machine.{position, ready}
use Rattle.rewriting.specs.Runs.{Came, barred, waits, before, fitting, come, run}
use Rattle.rewriting.proofs.Runs.{before-spent, before-full, before-free, fitting-long, fitting-goes, come-waits, come-steps}
use Rattle.machine.specs.advance.Area.{outer_in, count_in, Valid}
use Rattle.machine.proofs.advance.Bounds.{spot}
use Rattle.steps.specs.steps.Stepped.{here, stepped}
use Rattle.records.specs.recording.Kept.{met}
use Rattle.records.proofs.Limiting.{Meets, spends, fills, leaves, meets}
use Rattle.runs.specs.declared.running.End.TheVariants.{Waiting, Stopped}
use Rattle.runs.specs.declared.running.Reached.{Reached}
use Rattle.runs.specs.running.Reaches.{Holds}
use Rattle.runs.proofs.running.Running.{base, limits, steps_left, Earlier, goal}
use Rattle.runs.proofs.running.Rounds.{Round, Answers, there, told, left, so_far, Keeps, answers, Before}

module _ (k : Round) {m : Redex} (y : Before k m) where
  abbrev pub s : System
  s = system_of k.book

  abbrev pub b : ℕ
  b = base k.a

  abbrev pub t : List ℕ
  t = term_in k.ws' k.gap

  abbrev pub level : ℕ
  level = k.d.level

  abbrev pub outer : List ℕ
  outer = outer_in k.ws' level

  abbrev pub c : ℕ
  c = count_in k.ws' level

  abbrev pub p : ℕ
  p = here k.positions' (there k)

  abbrev pub x : Contraction
  x = y.steppable.x

  abbrev pub r : Earlier k.a → Config
  r h = record { term = t; trace = (so_far k h).trace }

  pub valid : Valid s t b outer c
  valid = y.tracks.represents.valid

  pub place : p ≡ position s t outer b
  place = spot k.book k.shape k.accepted k.ws' k.positions' k.gap b level y.tracks

  pub before-room : level < levels
  before-room = let z = valid.room in let z' = y.tracks.represents.levels in omega arith

  steps-are : (h : Earlier k.a) → evaluation.steps (r h) ≡ k.steps
  steps-are h = (so_far k h).counted

  -- ---- a limit is met before the rewrite

  -- the tests come first, whether a step is left or not
  tests : (n : ℕ) (h : Earlier k.a) → (on : Came) × (come s (limits k.a) b n (ready outer c x) (r h) ≡ before s (limits k.a) outer c x (r h) on)
  tests zero h = (_, come-waits s (limits k.a) b outer c x (r h))
  tests (suc n) h = (_, come-steps s (limits k.a) b outer c x (r h) n)

  -- stopped just before it, in an area that holds the same state
  pub stops : (l : Limit) (gap : Gap) (ws : List ℕ) → Keeps k gap ws → Holds s b (barred l outer c x (record { term = t; trace = [] })) (record { gap = gap; level = level }) ws k.positions' →
      ((h : Earlier k.a) → goal s k.a h ≡ barred l outer c x (r h)) →
      (e : Reached) → e ≡ told k (Stopped l) (record { gap = gap; level = level }) → Answers k e ws k.positions'
  stops l gap ws z w q e is =
      answers k (Stopped l) (record { gap = gap; level = level }) ws k.positions' z (λ h. barred l outer c x (r h))
      (λ h. record {
        same = q h;
        end-is = refl;
        trace-is = refl;
        holds = record { tracks = w.tracks; term = w.term; around = w.around; begun = w.begun };
      }) e is

  stops-here : (l : Limit) → ((h : Earlier k.a) → goal s k.a h ≡ barred l outer c x (r h)) →
      (e : Reached) → e ≡ told k (Stopped l) (there k) → Answers k e k.ws' k.positions'
  stops-here l q e is = stops l k.gap k.ws' y.kept (record { tracks = y.tracks; term = refl; around = refl; begun = refl }) q e is

  pub stops-met : (l : Limit) → Some l ≡ met (limits k.a) k.steps → (e : Reached) → e ≡ told k (Stopped l) (there k) → Answers k e k.ws' k.positions'
  stops-met l = go (met (limits k.a) k.steps) (meets (limits k.a) k.steps)
    where
      go : (m : Option Limit) → Meets (limits k.a) k.steps m → Some l ≡ m → (e : Reached) → e ≡ told k (Stopped l) (there k) → Answers k e k.ws' k.positions'
      go m (spends h) q e is =
          stops-here l (λ z. y.same z ∙ (tests (left k) z).1 ∙ before-spent s (limits k.a) outer c x (r z) (omega (arith, steps-are z)) _ ∙ ap (λ l. barred l outer c x (r z)) (sym (cc q))) e is
      go m (fills h f) q e is =
          stops-here l (λ z. y.same z ∙ (tests (left k) z).1 ∙ before-full s (limits k.a) outer c x (r z) (omega (arith, steps-are z)) (rw (steps-are z) f) _
          ∙ ap (λ l. barred l outer c x (r z)) (sym (cc q))) e is
      go m (leaves h f) q e is = cc q

  -- ---- none is

  pub room-left : met (limits k.a) k.steps ≡ None → (k.steps < k.a.from.bounds.limit) × (has_room (limits k.a).room k.steps ≡ true)
  room-left e = go (met (limits k.a) k.steps) e (meets (limits k.a) k.steps)
    where
      go : (m : Option Limit) → m ≡ None → Meets (limits k.a) k.steps m → (k.steps < k.a.from.bounds.limit) × (has_room (limits k.a).room k.steps ≡ true)
      go m e (spends h) = cc e
      go m e (fills h f) = cc e
      go m e (leaves h f) = (h, f)

  abbrev pub after : List ℕ
  after = stepped s k.ws' k.positions' (there k) x

  abbrev pub next : Earlier k.a → Config
  next h = evaluation.stepped s (position s t outer b) (r h) x

  pub after_is : (h : Earlier k.a) → (next h).term ≡ after
  after_is h = rw place

  module _ (free : met (limits k.a) k.steps ≡ None) where
    abbrev goes-free : (h : Earlier k.a) (on : Came) → before s (limits k.a) outer c x (r h) on ≡ on
    goes-free h on = before-free s (limits k.a) outer c x (r h) (omega (arith, (room-left free).0, steps-are h)) (rw (steps-are h) (room-left free).1) on

    -- no step is left
    module _ (spare : k.a.from.most ≤ k.steps - k.a.from.steps) where
      at_rest : (h : Earlier k.a) → goal s k.a h ≡ fitting s (limits k.a) (position s t outer b) outer c x (r h) (waits outer c x (r h))
      at_rest h =
          let z : left k ≡ 0 = omega arith in
          y.same h ∙ ap (λ n. come s (limits k.a) b n (ready outer c x) (r h)) z ∙ come-waits s (limits k.a) b outer c x (r h) ∙ goes-free h _

      pub waits_there : length after ≤ term_words → (e : Reached) → e ≡ told k Waiting (there k) → Answers k e k.ws' k.positions'
      waits_there l e is =
          answers k Waiting (there k) k.ws' k.positions' y.kept (λ h. waits outer c x (r h))
          (λ h. record {
            same = at_rest h ∙ fitting-goes s (limits k.a) outer c x (r h) (position s t outer b) (omega (arith, ap length (after_is h))) _;
            end-is = refl;
            trace-is = refl;
            holds = record { tracks = y.tracks; term = refl; around = refl; begun = refl };
          }) e is

      pub long-there : term_words < length after → (e : Reached) → e ≡ told k (Stopped Overlong) (there k) → Answers k e k.ws' k.positions'
      long-there l e is =
          stops-here Overlong (λ h. at_rest h ∙ fitting-long s (limits k.a) outer c x (r h) (position s t outer b) (omega (arith, ap length (after_is h))) _) e is

    -- ---- after `step`

    module _ (more : k.steps - k.a.from.steps < k.a.from.most) where
      -- one of the steps that are left
      pub stepping : (h : Earlier k.a) →
          goal s k.a h ≡ fitting s (limits k.a) (position s t outer b) outer c x (r h) (run s (limits k.a) b (steps_left k.a (k.steps + 1)) (outer ++ 0 ∷ []) (next h))
      stepping h =
          let since = k.running.since in
          let z : left k ≡ suc (steps_left k.a (k.steps + 1)) = omega arith in
          y.same h ∙ ap (λ n. come s (limits k.a) b n (ready outer c x) (r h)) z ∙ come-steps s (limits k.a) b outer c x (r h) (steps_left k.a (k.steps + 1)) ∙ goes-free h _
