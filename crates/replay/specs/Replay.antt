-- The replay of a record (02, F-3): "A second tool takes book, first cue and any record, from anyone".
use Rattle.std.specs.Prelude.{ℕ, ◌<◌, ◌≡◌, true, false, List, [], ◌∷◌, length, drop, leb, eqb}
use Rattle.std.proofs.Math.Option.{Option, none, some}
use Rattle.system.specs.System.{System}
use Rattle.system.specs.Limits.{term_words}
use Rattle.matching.specs.Matching.{Contraction, contraction}
use Rattle.rewriting.specs.Trace.{Trace, in_order}
use Rattle.rewriting.specs.Evaluation.{Config, stepped}
use Rattle.rewriting.specs.Rewriting.{Step, Path}
use Rattle.walks.specs.Activity.{active_at}

-- how a replay ends: each pair was followed; "the first pair that is wrong or half" was come to (17); or the step that a pair tells of would
-- leave more than 4,096 words (12). The trace has "the steps completed"
pub data Replay : Type 0 where
  followed : Config → Replay
  mistold : Trace → Replay
  exceeded : Trace → Replay

-- the contraction that a pair tells of: "its index an active place then, its rule the lowest that fits there"
unfoldable pub told_by : System → List ℕ → ℕ → ℕ → Option Contraction
told_by s t p k =
    elim (active_at s t p) [
      | false ↦ none
      | true ↦ elim (contraction s (drop p t)) [
        | none ↦ none
        | some x ↦ elim (eqb x.number k) [ true ↦ some x | false ↦ none ]
      ]
    ]

-- one pair, and then on: 17 where the pair is wrong, "before 12"
abbrev pub judge : System → ℕ → Config → Option Contraction → (Config → Replay) → Replay
judge s p r none on = mistold r.trace
judge s p r (some x) on = elim (leb (length (stepped s p r x).term) term_words) [ false ↦ exceeded r.trace | true ↦ on (stepped s p r x) ]

-- "accepts exactly if each pair is whole, its index an active place then, its rule the lowest that fits there, and no step meets 12";
-- 17 "at the first pair that is wrong or half". No allowance and no levels count here
unfoldable pub replay : System → List ℕ → Config → Replay
replay s [] r = followed r
replay s (p ∷ []) r = mistold r.trace
replay s (p ∷ k ∷ ws) r = judge s p r (told_by s r.term p k) (λ r'. replay s ws r')

-- What a replay comes to, for every record: the pairs before its end tell of a list of steps from t₀ to t, and
--   the record ends there: followed;
--   half a pair is left, or no step at that position by that rule leads on: mistold;
--   the step at that position by that rule leads to more than 4,096 words: exceeded
pub data Verdict (s : System) (t₀ ws : List ℕ) : Replay → Type 0 where
  accepted : {h : Trace} {t : List ℕ} → Path s term_words t₀ h t → ws ≡ in_order h [] → Verdict s t₀ ws (followed (record { term = t; trace = h }))
  half : {h : Trace} {t : List ℕ} (p : ℕ) → Path s term_words t₀ h t → ws ≡ in_order h (p ∷ []) → Verdict s t₀ ws (mistold h)
  wrong : {h : Trace} {t : List ℕ} (p k : ℕ) (rest : List ℕ) → Path s term_words t₀ h t → ws ≡ in_order h (p ∷ k ∷ rest) →
      ((t' : List ℕ) (d : Step s t t') → d.at ≡ p → d.number ≡ k → ⊥) → Verdict s t₀ ws (mistold h)
  long : {h : Trace} {t t' : List ℕ} (p k : ℕ) (rest : List ℕ) → Path s term_words t₀ h t → ws ≡ in_order h (p ∷ k ∷ rest) →
      (d : Step s t t') → d.at ≡ p → d.number ≡ k → term_words < length t' → Verdict s t₀ ws (exceeded h)
