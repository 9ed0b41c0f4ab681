-- `retrace::retrace` meets its contract. The loop's invariant: so many pairs are followed, and what the rest of the record leads to is what
-- the whole record leads to; that rest is cut into pairs.
use Prim.Native.Nat.{◌*◌}
use mathlib.Core.Path.{◌≡◌}
use lib.ListN.{drop}
use Rattle.std.specs.Iterator.Adapters.{enumerate_count, enumerate_source}
use Rattle.std.specs.Slice.Iter.{chunks_rest, chunks_size}
use Rattle.reader.specs.Book.{system_of}
use Rattle.replay.proofs.retrace.Tracing.{Tracing}
use Rattle.replay.proofs.retrace.retrace.Given as goal

abbrev pub invariant-loop-steps : goal.invariant-loop-steps
invariant-loop-steps l = record {
  tracing : Tracing (system_of l.book.words.now) l.term l.«record» l.area l.f (enumerate_count l.steps-iterator);
  rest : chunks_rest (enumerate_source l.steps-iterator) ≡ drop (2 * enumerate_count l.steps-iterator) l.«record»;
  size : chunks_size (enumerate_source l.steps-iterator) ≡ 2;
}
