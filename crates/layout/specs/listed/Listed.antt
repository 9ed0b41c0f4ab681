-- The rules of a book, one after the other.
use Rattle.std.specs.Prelude.{◌≡◌, List, [], ◌∷◌, Option, MatchOption}
use Rattle.system.specs.System.{Rule}
use Rattle.layout.specs.declared.listed.Rule.{Rule as Listed}
use Rattle.layout.specs.declared.listed.Rules.{Rules}
use Rattle.layout.specs.listed.Walked.{rules_left}

-- the rule with these sides
abbrev pub rule_of : Listed → Rule
rule_of r = record { lhs = r.lhs.now; rhs = r.rhs.now }

-- the rules that are still to come
abbrev pub rest_of : Rules → List Rule
rest_of s = rules_left s.book.words.now s.left

-- a call gave the next rule, which stands where the walk was, and the walk goes on in the same book; or there was none
abbrev pub YieldsRule : Rules → Option Listed → Rules → Type 0
YieldsRule s r t =
    MatchOption r ((rest_of s ≡ []) × (rest_of t ≡ []))
    (λ x. (rest_of s ≡ rule_of x ∷ rest_of t) × (x.at ≡ s.at) × (t.book.words.now ≡ s.book.words.now))
