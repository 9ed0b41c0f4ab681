-- What the check of a side reads and hands back: marks of its words; the index behind it; and the sorts of the variables as it leaves them.
use Rattle.std.specs.Prelude.{ℕ, ◌-◌, ◌≤◌, ◌<◌, ◌≡◌, Bool, true, false, List, length, get_or, drop, None, IsSomeAnd}
use Rattle.std.specs.Prelude.{Option as Found}
use Rattle.std.proofs.Math.Option.{Option, none, some}
use Rattle.system.specs.Limits.{variable, side_words}
use Rattle.system.specs.Signature.{Signature, arity}
use Rattle.sorts.specs.Sorts.{entries, offset}
use Rattle.sorts.specs.SortCheck.{Checked}
use Rattle.sorts.specs.declared.sides.Mark.{Mark}
use Rattle.sorts.specs.declared.sides.Mark.TheVariants.{Symbol, Variable, Nothing}

-- no list's index is above it
abbrev pub most_entries : ℕ
most_entries = 131072

-- the signature's numbers are words
pub record Narrow (g : Signature) : Type 0 where
  pub few : length g ≤ variable
  pub indices : entries g < variable
  pub arities : (w : ℕ) → arity g w < variable

-- the mark of a word: that of a symbol with where its numbers start and how many arguments it takes, or that of a variable with its number
abbrev pub MarkOf : Signature → ℕ → Mark → Type 0
MarkOf g w (Symbol x a) = (w < variable) × (x ≡ offset g w) × (a ≡ arity g w)
MarkOf g w (Variable v) = (variable ≤ w) × (v ≡ w - variable)
MarkOf g w Nothing = ⊥

-- the marks of a side, and behind it those that say that there is no word
pub record Marked (g : Signature) (ws : List ℕ) (marks : List Mark) : Type 0 where
  pub size : length marks ≡ side_words
  pub short : length ws ≤ side_words
  pub word : (j : ℕ) → j < length ws → MarkOf g (get_or ws j 0) (get_or marks j Nothing)
  pub end : (j : ℕ) → length ws ≤ j → get_or marks j Nothing ≡ Nothing

-- what a check of words from an index on hands back: none where it fails, else the index behind them
abbrev pub Ran : Option Checked → List ℕ → ℕ → Found ℕ → List ℕ → Type 0
Ran none ws at r τ = r ≡ None
Ran (some x) ws at r τ = IsSomeAnd r (λ r. (at ≤ r) × (r ≤ length ws) × (x.words ≡ drop r ws)) × (x.sorts ≡ τ)

-- a variable that was noted
abbrev pub Noted : Option (List ℕ) → Bool → List ℕ → Type 0
Noted none b τ = b ≡ false
Noted (some τ') b τ = (b ≡ true) × (τ' ≡ τ)

-- a side that was checked
abbrev pub SideChecked : Option Checked → Bool → List ℕ → Type 0
SideChecked none b τ = b ≡ false
SideChecked (some x) b τ = (b ≡ true) × (x.sorts ≡ τ)
