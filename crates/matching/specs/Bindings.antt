-- What matching answers: the first rule that matches, and where the terms stand that its variables stand for.
use Rattle.std.specs.Prelude.{ℕ, zero, suc, ◌+◌, ◌-◌, List, [], ◌∷◌, Bool, cond, ◌&&◌, ◌||◌, length, get_or, take, drop, set, replicate}
use Rattle.std.specs.Prelude.{ltb, leb, eqb}
use Rattle.std.specs.Prelude.{Option as Found, Some, None}
use Rattle.std.proofs.Math.Option.{Option, none, some}
use Rattle.system.specs.Limits.{variable, variables}
use Rattle.system.specs.Signature.{Signature, span}
use Rattle.system.specs.System.{System, Rule, instance}
use Rattle.reader.specs.Format.{encode_strategies}
use Rattle.reader.specs.Parser.{ok, fault, read}
use Rattle.matching.specs.declared.Match.{Match}
use Rattle.matching.specs.declared.FirstRule.{FirstRule}
use Rattle.matching.specs.declared.FirstRule.TheVariants.{First, Computed}
use Rattle.matching.specs.Matching.{same_words, Contraction, Computation, computed}

-- for each variable the index of the first word of its stretch of the subterm, and the number of its words; 0 and 0 where it has none. Where
-- the left side repeats it, it is the first stretch: the others have the same words
pub record Bindings : Type 0 where
  pub starts : List ℕ
  pub lengths : List ℕ

-- no variable has a stretch yet
unfoldable pub no_bindings : Bindings
no_bindings = record { starts = replicate variables 0; lengths = replicate variables 0 }

-- how many words at the front of ws a word of a left side takes: a symbol one, which is the same symbol; a variable "the stretch of the
-- cue that starts at its own word"; 0 at an "unequal word"
unfoldable pub consumed : Signature → ℕ → List ℕ → ℕ
consumed g l [] = 0
consumed g l (w ∷ ws) = cond (ltb l variable) (cond (eqb l w) 1 0) (span g (w ∷ ws) 1)

-- what variable v stands for
unfoldable pub value : List ℕ → Bindings → ℕ → List ℕ
value ws a v = take (get_or a.lengths v 0) (drop (get_or a.starts v 0) ws)

-- whether a word is a variable that has a stretch already (a stretch has a word at least)
unfoldable pub is_bound : ℕ → Bindings → Bool
is_bound l a = leb variable l && ltb 0 (get_or a.lengths (l - variable) 0)

-- how many words of ws a word of a left side takes from word q on. A variable that has a stretch takes equal words, "all their words", or none
-- (02, F-7)
unfoldable pub taken : Signature → List ℕ → ℕ → ℕ → Bindings → ℕ
taken g ws l q a =
    let n = consumed g l (drop q ws) in
    cond (is_bound l a) (cond (same_words (value ws a (l - variable)) (take n (drop q ws))) n 0) n

-- a variable's first stretch is noted under its number
unfoldable pub with_binding : ℕ → ℕ → ℕ → Bindings → Bindings
with_binding l q n a =
    cond (ltb l variable || is_bound l a) a (record { starts = set a.starts (l - variable) q; lengths = set a.lengths (l - variable) n })

-- a left side against ws, the subterm, from word q on, up to "its first unequal word"
unfoldable pub bindings : Signature → List ℕ → List ℕ → ℕ → Bindings → Option Bindings
bindings g ws [] q a = some a
bindings g ws (l ∷ ls) q a =
    elim (taken g ws l q a) [
      | zero ↦ none
      | suc n ↦ bindings g ws ls (q + suc n) (with_binding l q (suc n) a)
    ]

-- no rule matches
abbrev pub no_match : Match
no_match = record { rule = None; starts = no_bindings.starts; lengths = no_bindings.lengths }

-- "The search tries rules in book order and gives up a rule at its first unequal word": the first of the rules that matches the front of
-- ws. They are numbered from k on and stand in the book from the index `at` on, each as the two lengths and sides
unfoldable pub match_from : Signature → List Rule → ℕ → ℕ → List ℕ → Match
match_from g [] k at ws = no_match
match_from g (r ∷ rs) k at ws =
    elim (bindings g ws r.lhs 0 no_bindings) [
      | some a ↦ record { rule = Some (First k (at + 1 + length r.lhs + 1) (length r.rhs)); starts = a.starts; lengths = a.lengths }
      | none ↦ match_from g rs (suc k) (at + 1 + length r.lhs + 1 + length r.rhs) ws
    ]

-- the first of the listed rules: its number, where in the book its right side's words start, how many they are, and the stretches of its variables
unfoldable pub match_listed : System → List ℕ → Match
match_listed s ws = match_from s.arities s.rules 0 (length s.arities + 3 + length (encode_strategies s.strategies)) ws

-- the built-in rule: its number, and the word that it puts there
abbrev pub computed_rule : Option Computation → Found FirstRule
computed_rule none = None
computed_rule (some c) = Some (Computed c.number c.word)

unfoldable pub match_computed : List ℕ → Match
match_computed ws = record { rule = computed_rule (computed ws); starts = no_bindings.starts; lengths = no_bindings.lengths }

-- the one match, or where it found nothing the other
abbrev pub or_else : Match → Match → Match
or_else m m' = elim m.rule [ None ↦ m' | Some r ↦ m ]

-- "the lowest-numbered rule that fits here", at the front of ws
unfoldable pub match_of : System → List ℕ → Match
match_of s ws = or_else (match_listed s ws) (match_computed ws)

-- the same, by the words of a book: no rule matches over a book that the reader refuses
unfoldable pub match_in : List ℕ → List ℕ → Match
match_in book ws = elim (read book) [ fault f i ↦ no_match | ok s i ↦ match_of s ws ]

abbrev pub bindings_of : Match → Bindings
bindings_of m = record { starts = m.starts; lengths = m.lengths }

-- what a match tells over the words of a book: the rule's number, and its reduct, "the right side, so filled"
unfoldable pub contraction_of : List ℕ → List ℕ → Match → Option Contraction
contraction_of book ws m =
    elim m.rule [
      | None ↦ none
      | Some (First k rhs size) ↦ some (record { number = k; reduct = instance (value ws (bindings_of m)) (take size (drop rhs book)) })
      | Some (Computed k w) ↦ some (record { number = k; reduct = w ∷ [] })
    ]
