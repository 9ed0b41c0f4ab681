-- What the test by weights tells of a book and a list of weights.
use Rattle.std.specs.Prelude.{ℕ, ◌≡◌, ◌↔◌, List, length}
use Rattle.std.proofs.Math.Option.{none, some}
use Rattle.system.specs.declared.Answer.{Answer}
use Rattle.system.specs.declared.numbers.Fault.{Fault}
use Rattle.reader.specs.Book.{system_of}
use Rattle.reader.specs.Parser.{ok, fault, read}
use Rattle.reader.specs.Answers.{answer_of}
use Rattle.termination.specs.Weights.{Weights, Falling, RisesFirst, Weighs}
use Rattle.termination.specs.WeightTest.{fall_answer, misweighed_answer}

-- of a book: it is accepted, and the list is one of weights for its system, under which all rules fall
pub record FallingBook (b : List ℕ) (m : Weights) : Type 0 where
  pub accepted : read b ≡ ok (system_of b) (length b)
  pub weighs : Weighs m (system_of b)
  pub falling : Falling m (system_of b)

-- or under which rule k is the lowest that does not fall
pub record RisingBook (b : List ℕ) (m : Weights) (k : ℕ) : Type 0 where
  pub accepted : read b ≡ ok (system_of b) (length b)
  pub weighs : Weighs m (system_of b)
  pub first : RisesFirst m (system_of b) k

-- or it is not a list of weights for the book
pub record MisweighedBook (b : List ℕ) (m : Weights) : Type 0 where
  pub accepted : read b ≡ ok (system_of b) (length b)
  pub misweighed : Weighs m (system_of b) → ⊥

-- what the test's answer tells
pub record TellsWeights (b : List ℕ) (m : Weights) (r : Answer) : Type 0 where
  -- a book that the reader refuses gets the reader's answer
  pub refused : (f : Fault) (i : ℕ) → read b ≡ fault f i → r ≡ answer_of (fault f i)
  -- 18 exactly for an accepted book and what is not a list of weights for it
  pub misweighed : (r ≡ misweighed_answer) ↔ MisweighedBook b m
  -- 19 at k exactly if k is "the lowest rule that doesn't fall"
  pub rising : (k : ℕ) → (r ≡ fall_answer (some k)) ↔ RisingBook b m k
  -- 0 exactly if all fall
  pub falling : (r ≡ fall_answer none) ↔ FallingBook b m
