-- Where the words of the redex are read, and their lengths.
use Prim.Native.Nat.{ℕ, ◌+◌, ◌-◌}
use Rattle.system.specs.Limits.{term_words}
use Rattle.rows.specs.declared.gap.Gap.{Gap}
use Rattle.rows.specs.Rows.{counts_at}
use Rattle.sides.specs.declared.writing.Source.{Source}
use Rattle.reducts.specs.declared.putting.Subterm.{Subterm}

abbrev pub gap_size : Gap → ℕ
gap_size gap = gap.back - gap.front

-- both in place, behind the gap
abbrev pub placed_behind : Gap → Subterm → Source
placed_behind gap u = record { base = gap.back; end = u.width; later = gap.back }

-- or before it and, what follows u, behind it
abbrev pub placed : Gap → Subterm → Source
placed gap u = record { base = u.at; end = u.width; later = u.at + gap_size gap }

-- the words set aside behind the counts, and then the lengths
abbrev pub words_away : Gap → Subterm → Source
words_away gap u = record { base = counts_at + u.level; end = u.width; later = u.at + gap_size gap }

abbrev pub lengths_away : Gap → Subterm → Source
lengths_away gap u = record { base = counts_at + u.level; end = u.width; later = term_words + (u.at + gap_size gap) }
