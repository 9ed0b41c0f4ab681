-- What the operations answer (01: "Each answer is three numbers: number, place, steps").
use Rattle.std.specs.Prelude.{ℕ, zero, suc, ◌+◌, ◌*◌, ◌≤◌, ◌≡◌, cond, List, [], length, ltb}
use Rattle.std.proofs.Math.Option.{Option, none, some}
use Rattle.std.specs.Borrow.{Bor}
use Rattle.system.specs.declared.Answer.{Answer}
use Rattle.reader.specs.declared.ArgumentSpan.{ArgumentSpan}
use Rattle.reader.specs.declared.Shape.{Shape}
use Rattle.system.specs.Signature.{Signature, arity, argument, subterm, signature_of}
use Rattle.system.specs.System.{System, head}
use Rattle.reader.specs.Format.{encode_strategies}
use Rattle.system.specs.Numbers.{number_of, fault_number}
use Rattle.system.specs.declared.numbers.Verdict.TheVariants.{Taken, Broken}
use Rattle.reader.specs.Parser.{Parsed, ok, fault, read}
use Rattle.system.specs.TermCheck.{term_fault}

-- ---- reading a book

-- "For 1 to 8" (and 15) "the place is the index of the word being read"; "On 0 the reader's place is the book's length", the index reached
abbrev pub answer_of : Parsed System → Answer
answer_of (ok s i) = record { number = number_of Taken; place = i; steps = 0 }
answer_of (fault f i) = record { number = fault_number f; place = i; steps = 0 }

-- how many symbols and rules an accepted book has, and at which index its first strategy and its first rule start
abbrev pub shape_of : Parsed System → Shape
shape_of (ok s i) = record {
  symbols = length s.arities;
  strategies = length s.arities + 2;
  rules = length s.rules;
  first_rule = length s.arities + 3 + length (encode_strategies s.strategies);
}
shape_of (fault f i) = record { symbols = 0; strategies = 0; rules = 0; first_rule = 0 }

-- ---- checking a term: 9 and the place, or 0 and the term's length

abbrev pub whole_answer : List ℕ → Option ℕ → Answer
whole_answer t none = record { number = number_of Taken; place = length t; steps = 0 }
whole_answer t (some i) = record { number = number_of Broken; place = i; steps = 0 }

-- the book first
unfoldable pub term_answer : List ℕ → List ℕ → Answer
term_answer book t = elim (read book) [ fault f i ↦ answer_of (fault f i) | ok s j ↦ whole_answer t (term_fault s.arities 1 t 0) ]

-- ---- taking out one argument

-- where argument i (from 1) of the first symbol starts, if there is one
unfoldable pub nth_argument : Signature → List ℕ → ℕ → Option ℕ
nth_argument g t zero = none
nth_argument g t (suc k) = cond (ltb k (arity g (head t))) (some (argument g t 0 k)) none

-- none "exactly when book or cue would be refused, or i is not 1 up to the argument count"
unfoldable pub argument_at : List ℕ → List ℕ → ℕ → Option ℕ
argument_at book t i =
    elim (read book) [
      | fault f j ↦ none
      | ok s j ↦ elim (term_fault s.arities 1 t 0) [ none ↦ nth_argument s.arities t i | some j ↦ none ]
    ]

-- its first word's index, 0 where there is none; its words
abbrev pub start_of : Option ℕ → ℕ
start_of none = 0
start_of (some p) = p

abbrev pub part_of : List ℕ → List ℕ → Option ℕ → List ℕ
part_of book t none = []
part_of book t (some p) = subterm (signature_of book) t p

-- where it stands: 0 and 0 where there is none
abbrev pub argument_span : List ℕ → List ℕ → ℕ → ArgumentSpan
argument_span book t i = record { start = start_of (argument_at book t i); length = length (part_of book t (argument_at book t i)) }

-- the slice r is the caller's own slice s from word a on: the same memory, two bytes further for each word
abbrev pub LiesIn : Bor (List ℕ) → ℕ → Bor (List ℕ) → Type 0
LiesIn s a r = r.ref_ptr ≡ (s.ref_ptr.0, a * 2 + s.ref_ptr.1)

-- book and term are accepted, and i is "1 up to the argument count"
pub record HasArgument (ws t : List ℕ) (i : ℕ) : Type 0 where
  pub accepted : (term_answer ws t).number ≡ 0
  pub least : 1 ≤ i
  pub most : i ≤ arity (signature_of ws) (head t)
