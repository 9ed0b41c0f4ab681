-- What is asked where a reduct is written row by row: its words, then their lengths.
use Rattle.std.specs.Prelude.{ℕ, ◌+◌, ◌-◌, ◌≤◌, ◌≡◌, List, length, get_or}
use Rattle.buffers.specs.moves.Parts.{part}
use Rattle.system.specs.Limits.{max_word, variable, variables, term_words}
use Rattle.system.specs.Signature.{Signature}
use Rattle.system.specs.Spans.{spans}
use Rattle.system.specs.System.{instance}
use Rattle.system.specs.Terms.{Whole, Member}
use Rattle.rows.specs.Rows.{counts_at}
use Rattle.rows.specs.gap.Gaps.{behind}
use Rattle.rows.specs.Measured.{Measured}
use Rattle.matching.specs.rules.Searches.{reduct_length}
use Rattle.sides.specs.declared.writing.Source.{Source}
use Rattle.sides.specs.sides.Sides.{Sided, Stretches}
use Rattle.sides.specs.writing.Reduct.{stretch_at}

-- n words from `from` on stand from `edge` on
pub record Beyond (ws : List ℕ) (edge from n : ℕ) : Type 0 where
  pub later : edge ≤ from
  pub fits : from + n ≤ length ws

-- what both passes ask: the reduct has room before `back`, and what is read for each variable stands behind what is written, from `edge` on
pub record Passable (side ws : List ℕ) (back edge : ℕ) (c : Stretches) (source : Source) : Type 0 where
  pub area : counts_at ≤ length ws
  pub sided : Sided side
  pub starts : length c.starts ≡ variables
  pub lengths : length c.lengths ≡ variables
  pub based : source.base ≤ max_word
  pub later : source.later ≤ max_word
  pub high : back ≤ term_words
  pub room : reduct_length c.lengths side ≤ back
  pub beyond : (v : ℕ) → Member (variable + v) side → Beyond ws edge (stretch_at source (get_or c.starts v 0)) (get_or c.lengths v 0)

-- the words x are a whole subterm, whose lengths stand from `from` on
pub record Told (g : Signature) (ws : List ℕ) (from n : ℕ) (x : List ℕ) : Type 0 where
  pub whole : Whole g x
  pub lengths : part from n ws ≡ spans g x

-- the second pass: the words of the reduct stand there, the side with each variable filled, and the lengths of what fills it are read
pub record Lengthable (g : Signature) (side ws : List ℕ) (back : ℕ) (c : Stretches) (source : Source) : Type 0 where
  pub passable : Passable side ws back (term_words + back) c source
  pub measured : Measured g ws (behind back)
  pub filled : ℕ → List ℕ
  pub words : part (back - reduct_length c.lengths side) (reduct_length c.lengths side) ws ≡ instance filled side
  pub told : (v : ℕ) → Member (variable + v) side → Told g ws (stretch_at source (get_or c.starts v 0)) (get_or c.lengths v 0) (filled v)
