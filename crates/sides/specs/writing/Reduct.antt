-- The reduct of a side, "the right side, so filled", and what is asked where it is written.
use Rattle.std.specs.Prelude.{ℕ, ◌+◌, ◌-◌, ◌≤◌, ◌≡◌, ◌⊎◌, cond, List, length, get_or, ltb}
use Rattle.buffers.specs.moves.Parts.{part}
use Rattle.system.specs.Limits.{max_word, variable, variables, term_words}
use Rattle.system.specs.Signature.{Signature}
use Rattle.system.specs.System.{instance}
use Rattle.system.specs.Terms.{Whole, Member}
use Rattle.rows.specs.declared.gap.Gap.{Gap}
use Rattle.rows.specs.lengths.Later.{MeasuredFrom}
use Rattle.system.specs.Spans.{spans}
use Rattle.matching.specs.rules.Searches.{reduct_length}
use Rattle.sides.specs.declared.writing.Source.{Source}
use Rattle.sides.specs.sides.Sides.{Sided, Stretches}

-- where word i of the redex stands
unfoldable pub stretch_at : Source → ℕ → ℕ
stretch_at source i = cond (ltb i source.end) (source.base + i) (source.later + i)

-- what variable v stands for, and the side in which each variable stands for that
abbrev pub stretch : List ℕ → Stretches → Source → ℕ → List ℕ
stretch ws c source v = part (stretch_at source (get_or c.starts v 0)) (get_or c.lengths v 0) ws

abbrev pub reduct : List ℕ → Stretches → Source → List ℕ → List ℕ
reduct side c source ws = instance (stretch ws c source) side

-- n words from `from` on, a whole subterm with true lengths, stay while words are written from `high` down to `low`
pub record Unwritten (g : Signature) (ws : List ℕ) (low high from n : ℕ) : Type 0 where
  pub whole : Whole g (part from n ws)
  pub lengths : part (term_words + from) n ws ≡ spans g (part from n ws)
  pub apart : (from + n ≤ low) ⊎ ((high ≤ from) × (from + n ≤ term_words))

-- the reduct is to be written right before the gap
pub record Writable (g : Signature) (side ws : List ℕ) (gap : Gap) (c : Stretches) (source : Source) : Type 0 where
  pub measured : MeasuredFrom g ws gap gap.front
  pub sided : Sided side
  pub starts : length c.starts ≡ variables
  pub lengths : length c.lengths ≡ variables
  pub based : source.base ≤ max_word
  pub later : source.later ≤ max_word
  pub room : reduct_length c.lengths side ≤ gap.front
  pub stays : (v : ℕ) → Member (variable + v) side →
      Unwritten g ws (gap.front - reduct_length c.lengths side) gap.front (stretch_at source (get_or c.starts v 0)) (get_or c.lengths v 0)
