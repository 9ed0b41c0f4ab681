-- A side written from its end to its front, before others of the area: what is to be written, and a turn.
use Rattle.std.specs.Prelude.{ℕ, ◌+◌, ◌-◌, ◌≤◌, ◌<◌, ◌≡◌, List, length, get_or, drop}
use Rattle.buffers.specs.moves.Fronts.{Front, Turn}
use Rattle.system.specs.Limits.{max_word, variable, variables}
use Rattle.matching.specs.rules.Searches.{reduct_length}
use Rattle.sides.specs.declared.writing.Source.{Source}
use Rattle.sides.specs.sides.Sides.{Sided, Stretches, stretches_in}
use Rattle.sides.specs.writing.Reduct.{stretch_at}

-- the words of a side, before those from `back` on, each variable filled with a stretch of the area as it is before
pub record Task : Type 0 where
  pub side : List ℕ
  pub area : List ℕ
  pub back : ℕ
  pub stretches : Stretches
  pub source : Source

abbrev pub task : List ℕ → List ℕ → ℕ → List ℕ → Source → Task
task side ws back bindings source = record { side = side; area = ws; back = back; stretches = stretches_in bindings; source = source }

-- its variables are told where their stretches are
pub record Fillable (t : Task) : Type 0 where
  pub sided : Sided t.side
  pub lengths : length t.stretches.lengths ≡ variables
  pub based : t.source.base ≤ max_word
  pub later : t.source.later ≤ max_word

-- a turn, before which the words `rest` of the side are left: of a symbol, and of a variable, whose stretch has n words from `from` on
pub record AtSymbol (t : Task) (rest rest' : List ℕ) (w : ℕ) : Type 0 where
  pub turn : Turn rest rest' t.side w
  pub symbol : w < variable

pub record AtVariable (t : Task) (rest rest' : List ℕ) (from n : ℕ) : Type 0 where
  pub word : ℕ
  pub turn : Turn rest rest' t.side word
  pub named : variable ≤ word
  pub start : from ≡ stretch_at t.source (get_or t.stretches.starts (word - variable) 0)
  pub long : n ≡ get_or t.stretches.lengths (word - variable) 0

-- what is written of the side, from `to` on, when the words `rest` are left: as many words as its reduct has
pub record Left (t : Task) (rest : List ℕ) (to : ℕ) : Type 0 where
  pub front : Front rest t.side
  pub written : to + reduct_length t.stretches.lengths (drop (length rest) t.side) ≡ t.back
