-- `load` meets its contract: the words of the pairs so far stand at the start of the buffer.
use Rattle.std.proofs.Common.{◌≡◌, take, map}
use mir.Syntax.{w16}
use Rattle.std.specs.Int.{from_le_bytes}
use Rattle.buffers.specs.Words.{over}
use Rattle.files.proofs.words.load.Given as goal

abbrev pub invariant-loop-i : goal.invariant-loop-i
invariant-loop-i l = l.words ≡ over l.initial.words 0 (map (from_le_bytes w16) (take l.i l.pairs))
