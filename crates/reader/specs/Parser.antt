-- The reader as a parser: from an index of the book either what is read and the index after it, or the first fault and the index of
-- the word being read. "The book is read left to right and the first fault counts."
use Rattle.std.specs.Prelude.{ℕ, zero, suc, ◌+◌, ◌-◌, Bool, true, false, cond, ◌&&◌, List, [], ◌∷◌, length, get_or, ltb, leb, eqb}
use Rattle.std.proofs.Math.Option.{Option, none, some}
use Rattle.system.specs.Limits.{max_symbols, max_arity, max_entries, max_rules, side_words, variable, variables}
use Rattle.system.specs.Signature.{Signature, is_symbol, arity}
use Rattle.system.specs.System.{System, Rule}
use Rattle.reader.specs.declared.scan.sides.SideRole.{SideRole}
use Rattle.reader.specs.declared.scan.sides.SideRole.TheVariants.{Left, Right}
use Rattle.system.specs.declared.numbers.Fault.{Fault}
use Rattle.system.specs.declared.numbers.Fault.TheVariants.{Missing, Range, Entry, Unknown, Unbalanced, VariableHead, Unbound, Trailing, BuiltInHead}

pub data Parsed (A : Type 0) : Type 0 where
  ok : A → ℕ → Parsed A
  fault : Fault → ℕ → Parsed A

abbrev pub Parser : Type 0 → Type 0
Parser A = ℕ → Parsed A

-- go on with what was read
abbrev pub and_then : {A B : Type 0} → Parsed A → (A → ℕ → Parsed B) → Parsed B
and_then (ok a i) on = on a i
and_then (fault f i) on = fault f i

abbrev pub ◌>>=◌ : {A B : Type 0} → Parser A → (A → Parser B) → Parser B
◌>>=◌ p on i = and_then (p i) on

abbrev pub pure : {A : Type 0} → A → Parser A
pure a i = ok a i

-- the same n times; for each of a list
unfoldable pub times : {A : Type 0} → ℕ → Parser A → Parser (List A)
times zero p = pure []
times (suc n) p = do
  x ← p
  xs ← times n p
  pure (x ∷ xs)

unfoldable pub each : {A B : Type 0} → (A → Parser B) → List A → Parser (List B)
each p [] = pure []
each p (a ∷ more) = do
  x ← p a
  xs ← each p more
  pure (x ∷ xs)

-- what is wrong with a number that must lie between two others
unfoldable pub outside : Fault → ℕ → ℕ → ℕ → Option Fault
outside f low high w = cond (leb low w && leb w high) none (some f)

-- a side as it is read: its words, and how many variables are known after it
pub record Reading : Type 0 where
  pub words : List ℕ
  pub known : ℕ

-- "A left side starts with a name, and its placeholders appear as 0, 1, 2, .. in reading order"; 02, F-7: "Number 7 in a left side is now for
-- a placeholder above the count of different ones before it"; "A right side uses only placeholders of its left side". Variable k, at the
-- first word or later, where `known` are known
unfoldable pub variable_fault : SideRole → Bool → ℕ → ℕ → Option Fault
variable_fault Left true known k = some VariableHead
variable_fault Left false known k = cond (leb k known) none (some Unbound)
variable_fault Right first known k = cond (ltb k known) none (some Unbound)

-- a symbol, at the first word or later. 02, F-2: 15 "where a left side starts with a level or either of these words, checked where 6 is"
unfoldable pub symbol_fault : Signature → SideRole → Bool → ℕ → Option Fault
symbol_fault g Left true w = cond (ltb w (length g)) none (some BuiltInHead)
symbol_fault g Left false w = none
symbol_fault g Right first w = none

-- a word of a side, where `due` subterms are still to come: the checks run 5, 4, 6 or 15, 7
unfoldable pub side_fault : Signature → SideRole → Bool → ℕ → ℕ → ℕ → Option Fault
side_fault g h first due known w =
    elim due [
      | zero ↦ some Unbalanced
      | suc _ ↦ elim (is_symbol g w) [
        | true ↦ symbol_fault g h first w
        | false ↦ elim (leb variable w && ltb w (variable + variables)) [ true ↦ variable_fault h first known (w - variable) | false ↦ some Unknown ]
      ]
    ]

-- how many different variables are known after a word: one more where it is the next new one
unfoldable pub learn : SideRole → ℕ → ℕ → ℕ
learn Left known w = cond (eqb w (variable + known)) (suc known) known
learn Right known w = known

-- and after some words of a left side, one by one as `read_words` goes along them
unfoldable pub learn_all : ℕ → List ℕ → ℕ
learn_all known [] = known
learn_all known (w ∷ ws) = learn_all (learn Left known w) ws

module _ (ws : List ℕ) where
  -- the next word, unless there is something wrong with it
  unfoldable pub word : (ℕ → Option Fault) → Parser ℕ
  word check i =
      elim (ltb i (length ws)) [
        | false ↦ fault Missing i
        | true ↦ elim (check (get_or ws i 0)) [ none ↦ ok (get_or ws i 0) (suc i) | some f ↦ fault f i ]
      ]

  -- a count, a length or an entry
  unfoldable pub number : Fault → ℕ → ℕ → Parser ℕ
  number f low high = word (outside f low high)

  -- a length 0 to 16 and that many entries, each 0 up to the arity
  unfoldable pub read_strategy : ℕ → Parser (List ℕ)
  read_strategy a = do
    n ← number Range 0 max_entries
    times n (number Entry 0 a)

  -- n words more of a side, where `due` subterms are still to come and `known` variables are known
  unfoldable pub read_words : Signature → SideRole → Bool → ℕ → ℕ → ℕ → Parser Reading
  read_words g h first zero zero known = pure (record { words = []; known = known })
  read_words g h first zero (suc due) known = fault Unbalanced
  read_words g h first (suc n) due known = do
    w ← word (side_fault g h first due known)
    r ← read_words g h false n (due - 1 + arity g w) (learn h known w)
    pure (record { words = w ∷ r.words; known = r.known })

  -- a length 1 to 64 and that many words, which are one term
  unfoldable pub read_side : Signature → SideRole → ℕ → Parser Reading
  read_side g h known = do
    n ← number Range 1 side_words
    read_words g h true n 1 known

  unfoldable pub read_rule : Signature → Parser Rule
  read_rule g = do
    l ← read_side g Left 0
    r ← read_side g Right l.known
    pure (record { lhs = l.words; rhs = r.words })

  -- nothing is left
  unfoldable pub read_end : Parser (Unit {0})
  read_end i = elim (ltb i (length ws)) [ true ↦ fault Trailing i | false ↦ ok tt i ]

  -- a count 0 to 128, that many rules, and nothing after them
  unfoldable pub read_rules : Signature → Parser (List Rule)
  read_rules g = do
    n ← number Range 0 max_rules
    rules ← times n (read_rule g)
    _ ← read_end
    pure rules

  unfoldable pub read_system : Parser System
  read_system = do
    n ← number Range 1 max_symbols
    arities ← times n (number Range 0 max_arity)
    _ ← number Range n n
    strategies ← each read_strategy arities
    rules ← read_rules arities
    pure (record { arities = arities; strategies = strategies; rules = rules })

-- what the words of a book are: a system, or the first fault
unfoldable pub read : List ℕ → Parsed System
read ws = read_system ws 0
