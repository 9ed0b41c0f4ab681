-- The loop keeps: the strategies of the symbols from here on answer as those of all symbols do from the start.
use Rattle.reader.specs.scan.Sections.{section_of}
use Rattle.reader.specs.Parser.{each, read_strategy}
use lib.ListN.{length, drop}
use Prim.Native.Nat.{◌≤◌}
use mathlib.Core.Path.{◌≡◌}
use Rattle.reader.proofs.scan.sections.read_strategies.Given as goal

abbrev pub invariant-loop-arity : goal.invariant-loop-arity
invariant-loop-arity l = (l.end ≤ length l.book) × (section_of (each (read_strategy l.book) (drop l.arity-index l.arities) l.end) ≡ section_of (each (read_strategy l.book) l.arities l.at))
