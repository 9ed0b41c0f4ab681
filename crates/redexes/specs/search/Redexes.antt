-- What is handed of a match in the rows: the rule's number and the word of a built-in rule; and apart from it the stretches of the variables.
use Rattle.std.specs.Prelude.{ℕ, zero, suc, ◌+◌, ◌≡◌, List, ◌++◌, take, drop, Option, Some, None}
use Rattle.system.specs.Limits.{variables}
use Rattle.system.specs.System.{System}
use Rattle.matching.specs.declared.Match.{Match}
use Rattle.matching.specs.declared.FirstRule.{FirstRule}
use Rattle.matching.specs.declared.FirstRule.TheVariants.{First, Computed}
use Rattle.redexes.specs.declared.search.Redex.{Redex}
use Rattle.redexes.specs.declared.search.Redex.TheVariants.{Listed, BuiltIn}
use Rattle.matching.specs.Bindings.{Bindings, match_of}

-- how many words hold where the stretches of the variables start, and how many words they have
abbrev pub binding_words : ℕ
binding_words = variables + variables

-- the bindings in such words
abbrev pub bound_in : List ℕ → Bindings
bound_in bs = record { starts = take variables bs; lengths = drop variables bs }

-- how many words a word of a left side takes: a word at least, or it takes none
abbrev pub some_words : ℕ → Option ℕ
some_words zero = None
some_words (suc n) = Some (suc n)

-- the rule that was found, if one was: its number, and the word that a built-in one puts there
abbrev pub redex_for : Option FirstRule → Option Redex
redex_for None = None
redex_for (Some (First k rhs size)) = Some (Listed k)
redex_for (Some (Computed k w)) = Some (BuiltIn k w)

-- its number
abbrev pub number_of : Redex → ℕ
number_of (Listed k) = k
number_of (BuiltIn k w) = k

-- "the lowest-numbered rule that fits here", at the front of ws
abbrev pub redex_of : System → List ℕ → Option Redex
redex_of s ws = redex_for (match_of s ws).rule

-- where a listed rule was found these words are where the stretches of its variables start, and then how many words they have. Where none was,
-- they may be anything: nothing is filled
abbrev pub Bound : Match → List ℕ → Type 0
Bound m bs = (k rhs size : ℕ) → m.rule ≡ Some (First k rhs size) → bs ≡ m.starts ++ m.lengths
