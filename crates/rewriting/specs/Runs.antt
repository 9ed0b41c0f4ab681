-- A run of the machine: from a state, in the subterm at a position p, at most k steps; and where it came to. (The step limit is another number: it
-- counts all steps since the evaluation began.)
use Rattle.std.specs.Prelude.{ℕ, zero, suc, ◌-◌, ◌≡◌, true, false, List, [], ◌∷◌, ◌++◌, length, leb, ltb}
use Rattle.system.specs.Limits.{levels, term_words}
use Rattle.system.specs.declared.numbers.Limit.{Limit}
use Rattle.system.specs.declared.numbers.Limit.TheVariants.{Spent, Overlong, Nested, Full}
use Rattle.system.specs.Signature.{Signature}
use Rattle.system.specs.System.{System}
use Rattle.system.specs.Terms.{Whole}
use Rattle.matching.specs.Matching.{Contraction}
use Rattle.rewriting.specs.Evaluation.{Limits, Config, stepped, steps, has_room, Outcome, finished, stopped}
use Rattle.rewriting.specs.Machine.{position, Next, final, deep, ready, advance}

-- where a run came to: the end; an argument that would be opened from level 64 (13); just before a step that 11, 16 or 12 would stop, whether a step
-- of the k is left or not; or just before a step that none of them would stop, with no step left of the k. Before a step: the levels around it, the
-- entries begun there, its 0 among them, and the first rule that matches
pub data Came : Type 0 where
  ended : Config → Came
  sunk : Config → Came
  barred : Limit → (outer : List ℕ) (begun : ℕ) (x : Contraction) → Config → Came
  waits : (outer : List ℕ) (begun : ℕ) (x : Contraction) → Config → Came

-- the term and the steps then
abbrev pub config_of : Came → Config
config_of (ended r) = r
config_of (sunk r) = r
config_of (barred l outer c x r) = r
config_of (waits outer c x r) = r

-- as an outcome: what is handed back
abbrev pub outcome_of : Came → Outcome
outcome_of (ended r) = finished r
outcome_of (sunk r) = stopped Nested r.trace
outcome_of (barred l outer c x r) = stopped l r.trace
outcome_of (waits outer c x r) = stopped Spent r.trace

module _ (s : System) (limits : Limits) where
  -- 11 and 16 before a step, and then on
  unfoldable pub before : List ℕ → ℕ → Contraction → Config → Came → Came
  before outer c x r on =
      elim (ltb (steps r) limits.steps) [
        | false ↦ barred Spent outer c x r
        | true ↦ elim (has_room limits.room (steps r)) [ false ↦ barred Full outer c x r | true ↦ on ]
      ]

  -- and 12, by the length of the whole term that the step would leave
  unfoldable pub fitting : ℕ → List ℕ → ℕ → Contraction → Config → Came → Came
  fitting q outer c x r on = elim (leb (length (stepped s q r x).term) term_words) [ false ↦ barred Overlong outer c x r | true ↦ on ]

  -- from where the machine came to without a rewrite
  unfoldable pub come : ℕ → ℕ → Next → Config → Came
  come p zero next r =
      elim next [
        | final ↦ ended r
        | deep ↦ sunk r
        | ready outer c x ↦ before outer c x r (fitting (position s r.term outer p) outer c x r (waits outer c x r))
      ]
  come p (suc k) next r =
      elim next [
        | final ↦ ended r
        | deep ↦ sunk r
        | ready outer c x ↦
            let q = position s r.term outer p in
            let r₁ = stepped s q r x in
            before outer c x r (fitting q outer c x r (come p k (advance s levels (outer ++ 0 ∷ []) r₁.term p) r₁))
      ]

  -- from a state. With as many steps as the limit allows, from the start at position 0, it is the whole evaluation (`run-evaluates`)
  unfoldable pub run : ℕ → ℕ → List ℕ → Config → Came
  run p k cs r = come p k (advance s levels cs r.term p) r

  -- n steps more, from where a run came to
  abbrev pub onward : ℕ → ℕ → Came → Came
  onward p n (ended r) = ended r
  onward p n (sunk r) = sunk r
  onward p n (barred l outer c x r) = barred l outer c x r
  onward p n (waits outer c x r) = come p n (ready outer c x) r

-- the state just before a step as the counts of a state from which the machine comes to it: its 0 is not begun
abbrev pub unbegun : List ℕ → ℕ → List ℕ
unbegun outer c = outer ++ (c - 1) ∷ []

module _ (s : System) (limits : Limits) where
  -- the same by a new run, from the state that the first one left
  unfoldable pub again : ℕ → ℕ → Came → Came
  again p n (ended r) = ended r
  again p n (sunk r) = sunk r
  again p n (barred l outer c x r) = barred l outer c x r
  again p n (waits outer c x r) = run s limits p n (unbegun outer c) r

-- between the words a and b stands a whole term
pub record Enclosed (g : Signature) (a b t : List ℕ) : Type 0 where
  pub part : List ℕ
  pub whole : Whole g part
  pub equal : t ≡ a ++ (part ++ b)
