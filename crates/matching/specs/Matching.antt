-- Matching (01: fitting): when a rule matches, and how the first rule that matches is found.
use Rattle.std.specs.Prelude.{ℕ, suc, ◌+◌, ◌-◌, ◌<◌, ◌≡◌, List, [], ◌∷◌, ◌++◌, Bool, true, false, cond, ◌&&◌, length, get_or, take, drop, ltb, eqb}
use Rattle.std.proofs.Math.Option.{Option, none, some}
use Rattle.system.specs.Limits.{variable}
use Rattle.system.specs.BuiltIns.{literal, is_literal, maximum, minimum, square, larger, smaller, square_law}
use Rattle.system.specs.Signature.{Signature, span, subterm}
use Rattle.system.specs.System.{System, Rule, instance}
use Rattle.system.specs.Rules.{RuleOf, maximum_rule, minimum_rule, square_rule}
use Rattle.system.specs.Terms.{Whole}

-- "A filling gives each placeholder a whole cue, the same wherever it stands; a side so filled is an instance. A rule fits at a place
-- if some instance of its left side is the part there." Rule r matches the subterm of t at p, by the substitution (01: filling) σ
pub record Matches (g : Signature) (t : List ℕ) (p : ℕ) (r : Rule) : Type 0 where
  pub σ : ℕ → List ℕ
  pub whole : (v : ℕ) → Whole g (σ v)
  pub equal : instance σ r.lhs ≡ subterm g t p

-- whether two lists are equal, "all their words"
unfoldable pub same_words : List ℕ → List ℕ → Bool
same_words [] [] = true
same_words [] (w ∷ ws) = false
same_words (v ∷ vs) [] = false
same_words (v ∷ vs) (w ∷ ws) = eqb v w && same_words vs ws

-- "names equal, each placeholder standing for one whole argument": a left side against the front of ws, word by word, up to "its first
-- unequal word"; "Each argument is fitted as the stretch of the cue that starts at its own word". What a new variable stands for is put after
-- σ: they come in the order of their numbers. One that σ has "fits if both arguments are equal, all their words" (02, F-7)
unfoldable pub bind : Signature → List ℕ → List ℕ → List (List ℕ) → Option (List (List ℕ))
bind g [] ws σ = some σ
bind g (l ∷ ls) [] σ = none
bind g (l ∷ ls) (w ∷ ws) σ =
    elim (ltb l variable) [
      | true ↦ elim (eqb l w) [ true ↦ bind g ls ws σ | false ↦ none ]
      | false ↦
          let n = span g (w ∷ ws) 1 in
          elim (ltb (l - variable) (length σ)) [
            | false ↦ bind g ls (drop n (w ∷ ws)) (σ ++ take n (w ∷ ws) ∷ [])
            | true ↦ elim (same_words (get_or σ (l - variable) []) (take n (w ∷ ws))) [ true ↦ bind g ls (drop n (w ∷ ws)) σ | false ↦ none ]
          ]
    ]

-- a rule that matches, by its number, and its reduct: "the right side, so filled"
pub record Contraction : Type 0 where
  pub number : ℕ
  pub reduct : List ℕ

-- "The search tries rules in book order and gives up a rule at its first unequal word": the first of the listed rules, numbered from k on,
-- that matches the front of ws
unfoldable pub first_match : Signature → List Rule → ℕ → List ℕ → Option Contraction
first_match g [] k ws = none
first_match g (r ∷ rs) k ws =
    elim (bind g r.lhs ws []) [
      | some σ ↦ some (record { number = k; reduct = instance (λ v. get_or σ v []) r.rhs })
      | none ↦ first_match g rs (suc k) ws
    ]

-- a built-in rule that matches, by its number, and the word that it puts there
pub record Computation : Type 0 where
  pub number : ℕ
  pub word : ℕ

-- an operator on the literals m and n: "a step puts the larger or smaller level there" (02, F-2)
unfoldable pub operation : ℕ → ℕ → ℕ → Option Computation
operation f m n =
    cond (eqb f maximum) (some (record { number = maximum_rule; word = literal + larger m n }))
    (cond (eqb f minimum) (some (record { number = minimum_rule; word = literal + smaller m n })) none)

-- a word before the words a and b: "where both arguments are levels"
unfoldable pub applied : ℕ → ℕ → ℕ → Option Computation
applied f a b = cond (is_literal a && is_literal b) (operation f (a - literal) (b - literal)) none

-- the curve before the word a: "level n becomes (n × n + 127) divided by 255, whole part" (02, F-4)
unfoldable pub squared : ℕ → Option Computation
squared a = cond (is_literal a) (some (record { number = square_rule; word = literal + square_law (a - literal) })) none

-- the built-in rule that matches the front of ws
unfoldable pub computed : List ℕ → Option Computation
computed ws = cond (eqb (get_or ws 0 0) square) (squared (get_or ws 1 0)) (applied (get_or ws 0 0) (get_or ws 1 0) (get_or ws 2 0))

abbrev pub computed_contraction : Option Computation → Option Contraction
computed_contraction none = none
computed_contraction (some c) = some (record { number = c.number; reduct = c.word ∷ [] })

-- "the lowest-numbered rule that fits here", at the front of ws: a listed rule, or else a built-in one, whose number is higher
unfoldable pub contraction : System → List ℕ → Option Contraction
contraction s ws = elim (first_match s.arities s.rules 0 ws) [ some x ↦ some x | none ↦ computed_contraction (computed ws) ]

-- "The first rule that fits is the lowest-numbered": a rule of number `x.number` matches the subterm of t at p, none of a lower number does, and
-- the reduct is "the same filling's instance of its right side", which is whole
pub record FirstMatch (s : System) (t : List ℕ) (p : ℕ) (x : Contraction) : Type 0 where
  pub chosen : Rule
  pub known : RuleOf s x.number chosen
  pub match : Matches s.arities t p chosen
  pub lowest : (k : ℕ) (r : Rule) → RuleOf s k r → k < x.number → Matches s.arities t p r → ⊥
  pub reduct : x.reduct ≡ instance match.σ chosen.rhs
  pub left : Whole s.arities x.reduct
