-- What the reader's functions hand on: a parser's outcome as a Result, with what the code needs of its value.
use Rattle.std.specs.Prelude.{ℕ, ◌≡◌, ◌+◌, ◌≤◌, ◌<◌, List, length, get_or, Result, Ok, Err, Some, None}
use Rattle.std.specs.declared.option.Option.{Option as Maybe}
use Rattle.std.proofs.Math.Option.{Option, none, some}
use Rattle.reader.specs.declared.Refusal.{Refusal}
use Rattle.reader.specs.declared.scan.sides.Side.{Side}
use Rattle.reader.specs.declared.scan.sections.Sections.{Sections}
use Rattle.system.specs.System.{System}
use Rattle.reader.specs.Format.{encode_strategies}
use Rattle.reader.specs.Parser.{Parsed, ok, fault, Reading}

-- the fault and its place, or what becomes of the value and the index after it
abbrev pub outcome : {A B : Type 0} → (A → ℕ → B) → Parsed A → Result B Refusal
outcome f (ok a i) = Ok (f a i)
outcome f (fault g i) = Err (record { fault = g; place = i })

-- a number: itself
abbrev pub word_of : Parsed ℕ → Result ℕ Refusal
word_of = outcome (λ w i. w)

-- a section of a book: the index after it
abbrev pub section_of : {A : Type 0} → Parsed A → Result ℕ Refusal
section_of = outcome (λ a i. i)

-- a side: the index after it, and how many variables are known there
abbrev pub side_of : Parsed Reading → Result Side Refusal
side_of = outcome (λ r i. record { end = i; known = r.known })

-- the whole book: its end, and the index of the count of its rules
abbrev pub sections_of : Parsed System → Result Sections Refusal
sections_of = outcome (λ s i. record { rules = length s.arities + 2 + length (encode_strategies s.strategies); end = i })

-- what is found, if something is
abbrev pub found : {A : Type 0} → Option A → Maybe A
found none = None
found (some a) = Some a

-- w stands at i, and lies between two numbers
pub record Inside (ws : List ℕ) (i low high w : ℕ) : Type 0 where
  pub here : i < length ws
  pub is : w ≡ get_or ws i 0
  pub above : low ≤ w
  pub below : w ≤ high
