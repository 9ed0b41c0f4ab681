-- Whole terms, sides of rules, and well-formed systems: which books 01 describes.
use Rattle.std.specs.Prelude.{ℕ, zero, suc, ◌+◌, ◌≤◌, ◌<◌, ◌≡◌, ◌⊎◌, Bool, false, cond, ◌||◌, List, [], ◌∷◌, ◌++◌, length, get_or, eqb}
use Rattle.system.specs.Limits.{max_symbols, max_arity, max_entries, max_rules, side_words, variable, variables}
use Rattle.system.specs.Signature.{Signature, Symbol, Listed, arity}
use Rattle.system.specs.System.{System, Rule, rule, strategy}

-- `Forest g P k ws`: the words are k whole terms, one after the other, and P holds of each word
pub data Forest (g : Signature) (P : ℕ → Type 0) : ℕ → List ℕ → Type 0 where
  empty : Forest g P zero []
  more : {w k : ℕ} {ws : List ℕ} → P w → Forest g P (k + arity g w) ws → Forest g P (suc k) (w ∷ ws)

-- a word of a side: a symbol or a variable
abbrev pub Word : Signature → ℕ → Type 0
Word g w = Symbol g w ⊎ (variable ≤ w)

-- a whole term ("written the same way, with no placeholders"); a whole side of a rule. 01's "in 1 to 4,096 words" is not said here but for
-- the 1: the upper bound is said beside it wherever a term is promised to be whole, and it is what the check of a term looks for
abbrev pub Whole : Signature → List ℕ → Type 0
Whole g ws = Forest g (Symbol g) 1 ws

abbrev pub Side : Signature → List ℕ → Type 0
Side g ws = Forest g (Word g) 1 ws

-- e stands in a list
pub data Member : ℕ → List ℕ → Type 0 where
  first : {e : ℕ} {es : List ℕ} → Member e (e ∷ es)
  later : {e d : ℕ} {es : List ℕ} → Member e es → Member e (d ∷ es)

-- whether it does, by computing
unfoldable pub among : ℕ → List ℕ → Bool
among e [] = false
among e (d ∷ ds) = eqb e d || among e ds

-- how often it does
unfoldable pub occurs : ℕ → List ℕ → ℕ
occurs e [] = 0
occurs e (d ∷ ds) = cond (eqb d e) 1 0 + occurs e ds

-- how many of the variables 0 to n - 1 stand in a list, and how many different ones
unfoldable pub standing : ℕ → List ℕ → ℕ
standing zero ws = 0
standing (suc n) ws = cond (among (variable + n) ws) 1 0 + standing n ws

abbrev pub different : List ℕ → ℕ
different ws = standing variables ws

-- `Numbered n m ws`: after n different variables, ws leads to m: each of its variables is the next new one or again one from before
-- ("its placeholders appear as 0, 1, 2, .. in reading order"; 02, F-7: "A left side may now repeat a placeholder")
pub data Numbered : ℕ → ℕ → List ℕ → Type 0 where
  end : {n : ℕ} → Numbered n n []
  symbol : {n m w : ℕ} {ws : List ℕ} → w < variable → Numbered n m ws → Numbered n m (w ∷ ws)
  next : {n m w : ℕ} {ws : List ℕ} → w ≡ variable + n → Numbered (suc n) m ws → Numbered n m (w ∷ ws)
  again : {n m v w : ℕ} {ws : List ℕ} → w ≡ variable + v → v < n → Numbered n m ws → Numbered n m (w ∷ ws)

-- the same by places, as 02, F-7 says it: no placeholder is "above the count of different ones before it", and none is above 15 (`numbered-exactly`)
abbrev pub InOrder : List ℕ → Type 0
InOrder ws = (a b : List ℕ) (w : ℕ) → ws ≡ a ++ w ∷ b → variable ≤ w → (w ≤ variable + different a) × (w < variable + variables)

-- a rule that 01 allows: "a length 1 to 64 and its left side, then a length 1 to 64 and its right side";
-- "A left side starts with a name" (here any symbol, so that the built-in rules are well formed too; of the book's own rules see `own_rules`);
-- "A right side uses only placeholders of its left side". (A whole side has at least one word.)
pub record WellFormedRule (g : Signature) (r : Rule) : Type 0 where
  pub count : ℕ
  pub variable_bound : count ≤ variables
  pub headed : Symbol g (get_or r.lhs 0 variable)
  pub left : Side g r.lhs
  pub right : Side g r.rhs
  pub short_left : length r.lhs ≤ side_words
  pub short_right : length r.rhs ≤ side_words
  pub numbered : Numbered 0 count r.lhs
  pub known : (w : ℕ) → Member w r.rhs → w < variable + count

-- a system that 01 describes
pub record WellFormed (s : System) : Type 0 where
  -- "a count S, 1 to 256, then S argument counts, each 0 to 8"
  pub some_symbols : 1 ≤ length s.arities
  pub symbol_bound : length s.arities ≤ max_symbols
  pub arity_bound : (f : ℕ) → arity s.arities f ≤ max_arity
  -- "a count that must equal S, then for each name a length 0 to 16 and that many entries, each 0 up to the name's argument count"
  pub strategy_count : length s.strategies ≡ length s.arities
  pub strategy_bound : (f : ℕ) → length (strategy s f) ≤ max_entries
  pub entry_bound : (f e : ℕ) → Member e (strategy s f) → e ≤ arity s.arities f
  -- "a count 0 to 128"
  pub rule_bound : length s.rules ≤ max_rules
  pub well_formed_rules : (k : ℕ) → k < length s.rules → WellFormedRule s.arities (rule s k)
  -- 02, F-2: turned away "where a left side starts with a level or either of these words"
  pub own_rules : (k : ℕ) → k < length s.rules → Listed s.arities (get_or (rule s k).lhs 0 variable)
