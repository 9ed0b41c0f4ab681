-- What a match tells, in 01's words of fitting: which rule fits a whole cue at the front of some words, or that none does.
use Rattle.std.specs.Prelude.{ℕ, ◌≡◌, ◌↔◌, List, ◌++◌, length, None}
use Rattle.std.proofs.Math.Option.{some}
use Rattle.system.specs.declared.numbers.Fault.{Fault}
use Rattle.system.specs.System.{Rule}
use Rattle.system.specs.Rules.{RuleOf}
use Rattle.system.specs.Terms.{Whole}
use Rattle.reader.specs.Parser.{ok, fault, read}
use Rattle.reader.specs.Book.{system_of}
use Rattle.matching.specs.declared.Match.{Match}
use Rattle.matching.specs.Matching.{Matches, Contraction, FirstMatch}
use Rattle.matching.specs.Bindings.{no_match, contraction_of}

-- an accepted book, and a whole term at the front of ws
pub record AtFront (b ws : List ℕ) : Type 0 where
  pub accepted : read b ≡ ok (system_of b) (length b)
  pub term : List ℕ
  pub behind : List ℕ
  pub split : ws ≡ term ++ behind
  pub whole : Whole (system_of b).arities term

pub record TellsMatch (b ws : List ℕ) (m : Match) : Type 0 where
  -- nothing matches over a book that the reader refuses
  pub refused : (f : Fault) (i : ℕ) → read b ≡ fault f i → m ≡ no_match
  -- "A rule fits at a place if some instance of its left side is the part there": nothing is told exactly if none does
  pub nothing : AtFront b ws → (m.rule ≡ None) ↔ ((k : ℕ) (r : Rule) → RuleOf (system_of b) k r → Matches (system_of b).arities ws 0 r → ⊥)
  -- "The first rule that fits is the lowest-numbered": what is told is that rule, with "the same filling's instance of its right side"
  pub first : AtFront b ws → (x : Contraction) → contraction_of b ws m ≡ some x → FirstMatch (system_of b) ws 0 x
