-- The entries of a strategy: what each asks for.
use Rattle.std.specs.Prelude.{ℕ, zero, suc, ◌-◌, true, false, List, length, get_or, take, drop, ltb}
use Rattle.system.specs.Terms.{among}
use Rattle.layout.specs.declared.entries.Entry.{Entry}
use Rattle.layout.specs.declared.entries.Entry.TheVariants.{End, Repeated, Rules, Argument}

-- what entry c of a strategy asks for: "Entry 0 means try the rules here; entry i means evaluate argument i (from 1)"
abbrev pub entry_from : ℕ → Entry
entry_from zero = Rules
entry_from (suc i) = Argument i

-- the entries from index f up to c
abbrev pub between : List ℕ → ℕ → ℕ → List ℕ
between es f c = take (c - f) (drop f es)

-- An entry that stood before, from index f on, asks for nothing again: with no step since then it would find what it found
unfoldable pub entry_of : List ℕ → ℕ → ℕ → Entry
entry_of es f c =
    elim (ltb c (length es)) [
      | false ↦ End
      | true ↦ elim (among (get_or es c 0) (between es f c)) [ true ↦ Repeated | false ↦ entry_from (get_or es c 0) ]
    ]
