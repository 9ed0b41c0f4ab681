-- Words of the term replaced by a reduct: what is asked, and what stands in the area then.
use Rattle.std.specs.Prelude.{ℕ, ◌+◌, ◌-◌, ◌≤◌, ◌<◌, ◌≡◌, ◌⊎◌, Bool, true, false, cond, List, length, get_or, take, drop}
use Rattle.buffers.specs.Words.{over}
use Rattle.buffers.specs.moves.Parts.{part, splice}
use Rattle.system.specs.Limits.{area_words, term_words, variable, variables}
use Rattle.system.specs.Signature.{Signature}
use Rattle.system.specs.System.{instance}
use Rattle.system.specs.Terms.{Whole, Member}
use Rattle.rows.specs.declared.gap.Gap.{Gap}
use Rattle.rows.specs.Rows.{counts_at, length_row, term_in}
use Rattle.rows.specs.gap.Gaps.{words_in, even}
use Rattle.rows.specs.lengths.Later.{MeasuredFrom}
use Rattle.system.specs.Spans.{spans}
use Rattle.rows.specs.Measured.{Measured}
use Rattle.matching.specs.rules.Searches.{reduct_length}
use Rattle.reducts.specs.declared.putting.Place.{Place}
use Rattle.reducts.specs.declared.putting.Reduced.{Reduced}
use Rattle.reducts.specs.declared.putting.Subterm.{Subterm}
use Rattle.sides.specs.sides.Sides.{Sided, Stretches}

-- ---- the reduct put in the place of words

-- what variable v stands for: a stretch of the term t, by where it starts behind the first word of u
abbrev pub filling : List ℕ → Subterm → Stretches → ℕ → List ℕ
filling t u c v = part (u.at + get_or c.starts v 0) (get_or c.lengths v 0) t

-- a whole subterm, which lies among the words of u or behind them
pub record Filled (g : Signature) (t : List ℕ) (u : Subterm) (c : Stretches) (v : ℕ) : Type 0 where
  pub whole : Whole g (filling t u c v)
  pub within : u.at + get_or c.starts v 0 + get_or c.lengths v 0 ≤ length t
  pub parted : (get_or c.starts v 0 + get_or c.lengths v 0 ≤ u.width) ⊎ (u.width ≤ get_or c.starts v 0)

pub record Puttable (g : Signature) (side ws : List ℕ) (gap : Gap) (u : Subterm) (c : Stretches) : Type 0 where
  pub total : length ws ≡ area_words
  pub measured : Measured g ws gap
  pub within : u.at + u.width ≤ words_in gap
  pub around : u.level + u.width ≤ term_words
  pub sided : Sided side
  pub starts : length c.starts ≡ variables
  pub lengths : length c.lengths ≡ variables
  pub filled : (v : ℕ) → Member (variable + v) side → Filled g (term_in ws gap) u c v

-- ---- where it is written

-- the gap is brought to the first word of u, or behind the last
abbrev pub edge : Subterm → Bool → ℕ
edge u before = cond before u.at (u.at + u.width)

-- then the words of u stand behind it or before it, and those of the redex in one stretch or in two; a reduct of k words is written from the first
-- word of u on, or up to what follows them, which stays where it is; and where the gap is then
abbrev pub place_for : Gap → Subterm → ℕ → Bool → Place
place_for gap u k before =
    cond before
    (record {
      gap = record { front = u.at + k; back = gap.back + u.width };
      source = record { base = gap.back; end = u.width; later = gap.back };
      left = record { front = u.at + k; back = gap.back + u.width };
    })
    (record {
      gap = even gap.back;
      source = record { base = u.at; end = u.width; later = u.at + (gap.back - gap.front) };
      left = record { front = u.at; back = gap.back - k };
    })

-- ---- row by row

-- the words of u stand before the gap, and the reduct has room where they and the gap are
pub record Crowdable (g : Signature) (side ws : List ℕ) (gap : Gap) (u : Subterm) (c : Stretches) : Type 0 where
  pub puttable : Puttable g side ws gap u c
  pub stand : u.at + u.width ≡ gap.front
  pub room : reduct_length c.lengths side ≤ gap.back

-- the area in which the lengths of the words of u are set aside behind the counts of the levels around
abbrev pub lengths_aside : List ℕ → Subterm → List ℕ
lengths_aside ws u = over ws (counts_at + u.level) (part (term_words + u.at) u.width ws)

-- ---- what stands there then

-- the term then
abbrev pub spliced : List ℕ → List ℕ → Subterm → Stretches → List ℕ
spliced side t u c = splice t u.at u.width (instance (filling t u c) side)

-- the area ws' holds the term t' in the place of t, whose words from number `at` on were replaced; the gap is not before them. The lengths from there
-- on are true; those before are still those of t; the counts of `level` levels are what they were in ws, and so is what stands behind the room for
-- the words of t from `at` on that follows them
pub record Placed (g : Signature) (ws t t' : List ℕ) (at level : ℕ) (gap' : Gap) (ws' : List ℕ) : Type 0 where
  pub front : at ≤ gap'.front
  pub total : length ws' ≡ area_words
  pub term : term_in ws' gap' ≡ t'
  pub later : MeasuredFrom g ws' gap' at
  pub before : take at (length_row ws') ≡ take at (spans g t)
  pub outer : take level (drop counts_at ws') ≡ take level (drop counts_at ws)
  pub rest : (n : ℕ) → level + (length t - at) ≤ n → drop n (drop counts_at ws') ≡ drop n (drop counts_at ws)

-- the area ws' holds the term t as ws does, with true lengths and the same words behind the rows; the gap may have moved
pub record Kept (g : Signature) (ws t : List ℕ) (gap' : Gap) (ws' : List ℕ) : Type 0 where
  pub measured : Measured g ws' gap'
  pub total : length ws' ≡ area_words
  pub term : term_in ws' gap' ≡ t
  pub counts : drop counts_at ws' ≡ drop counts_at ws

-- what is answered: done, with the gap there; or left undone, with the gap around which the term stands as it did
abbrev pub Done : Gap → Reduced
Done gap = record { long = false; gap = gap }

abbrev pub TooLong : Gap → Reduced
TooLong gap = record { long = true; gap = gap }

pub data Put (g : Signature) (side ws : List ℕ) (gap : Gap) (u : Subterm) (c : Stretches) (r : Reduced) (ws' : List ℕ) : Type 0 where
  fits : length (spliced side (term_in ws gap) u c) ≤ term_words → (gap' : Gap) → r ≡ Done gap' →
      Placed g ws (term_in ws gap) (spliced side (term_in ws gap) u c) u.at u.level gap' ws' → Put g side ws gap u c r ws'
  exceeds : term_words < length (spliced side (term_in ws gap) u c) → (gap' : Gap) → r ≡ TooLong gap' → Kept g ws (term_in ws gap) gap' ws' →
      Put g side ws gap u c r ws'
