-- The structs that C sees, as what the libraries answer, and the version of what C sees.
use Rattle.std.specs.Prelude.{ℕ, ◌+◌, ◌*◌, Some, None}
use Rattle.system.specs.declared.Answer.{Answer}
use Rattle.reader.specs.declared.Shape.{Shape}
use Rattle.reader.specs.declared.ArgumentSpan.{ArgumentSpan}
use Rattle.matching.specs.declared.Match.{Match}
use Rattle.matching.specs.declared.FirstRule.TheVariants.{First, Computed}
use Rattle.cue.specs.declared.CueAnswer.{CueAnswer}
use Rattle.cue.specs.declared.CueShape.{CueShape}
use Rattle.cue.specs.declared.CuePart.{CuePart}
use Rattle.cue.specs.declared.CueMatch.{CueMatch}

-- the same three numbers
abbrev pub answer_for : Answer → CueAnswer
answer_for a = record { number = a.number; place = a.place; steps = a.steps }

-- and back, where the library's promise is of the answer together with the buffers
abbrev pub as_answer : CueAnswer → Answer
as_answer a = record { number = a.number; place = a.place; steps = a.steps }

abbrev pub shape_for : Shape → CueShape
shape_for s = record { symbols = s.symbols; strategies = s.strategies; rules = s.rules; first_rule = s.first_rule }

-- "handed back as a part of the caller's own cue": the index of its first word and how many words it has
abbrev pub part_for : ArgumentSpan → CuePart
part_for s = record { start = s.start; length = s.length }

-- a variant is told by a number: 0 and zeros where nothing was found, else 1
abbrev pub match_for : Match → CueMatch
match_for m =
    elim m.rule [
      | None ↦ record { found = 0; number = 0; rhs = 0; size = 0; starts = m.starts; lengths = m.lengths; word = 0 }
      | Some (First k at n) ↦ record { found = 1; number = k; rhs = at; size = n; starts = m.starts; lengths = m.lengths; word = 0 }
      | Some (Computed k w) ↦ record { found = 1; number = k; rhs = 0; size = 0; starts = m.starts; lengths = m.lengths; word = w }
    ]

-- the version of include/cue.h, 4.1, as one number: the first times 65,536 and the second
abbrev pub version : ℕ
version = 4 * 65536 + 1
