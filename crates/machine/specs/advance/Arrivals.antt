-- What `advance` hands back and leaves in the area, for each place that the machine may come to.
use Rattle.std.specs.Prelude.{ℕ, ◌≡◌, List, [], ◌∷◌, ◌++◌, length, drop, Some}
use Rattle.std.proofs.Math.Option.{some}
use Rattle.system.specs.System.{System}
use Rattle.matching.specs.Matching.{Contraction, contraction}
use Rattle.matching.specs.Bindings.{match_of}
use Rattle.redexes.specs.declared.search.Redex.{Redex}
use Rattle.redexes.specs.search.Redexes.{redex_of, Bound}
use Rattle.system.specs.Limits as limits
use Rattle.machine.specs.declared.advance.State.{State}
use Rattle.machine.specs.declared.advance.Advanced.{Advanced}
use Rattle.machine.specs.declared.advance.Stop.{Stop}
use Rattle.machine.specs.declared.advance.Stop.TheVariants.{Final, Deep, Ready}
use Rattle.rewriting.specs.Machine.{Next, final, deep, ready, position, advance}
use Rattle.rows.specs.Rows.{term_in}
use Rattle.machine.specs.advance.Area.{outer_in, count_in, last_words, Stands, Represents, Tracks}

-- where the machine comes to from the state in an area
abbrev pub comes : System → State → ℕ → List ℕ → Next
comes s at base ws = advance s limits.levels (outer_in ws at.level ++ count_in ws at.level ∷ []) (term_in ws at.gap) base

-- its end: the counts are gone
pub record FinalAt (s : System) (at : State) (base : ℕ) (ws ws' : List ℕ) : Type 0 where
  pub next : comes s at base ws ≡ final
  pub stands : Stands s.arities ws' at.gap (term_in ws at.gap) []

-- an argument that would be opened too deep: the area holds the state as it stands
pub record DeepAt (s : System) (at : State) (base : ℕ) (ws : List ℕ) (level : ℕ) (ws' : List ℕ) : Type 0 where
  pub next : comes s at base ws ≡ deep
  pub represents : Represents s ws' at.gap base level
  pub term : term_in ws' at.gap ≡ term_in ws at.gap

-- a rewrite: the area holds the state just before it, its 0 counted as begun
pub record ReadyAt (s : System) (at : State) (base : ℕ) (ws : List ℕ) (m : Redex) (level : ℕ) (ws' positions' : List ℕ) : Type 0 where
  pub outer : List ℕ
  pub begun : ℕ
  pub x : Contraction
  pub next : comes s at base ws ≡ ready outer begun x
  pub levels : level ≡ length outer
  pub redex : redex_of s (drop (position s (term_in ws at.gap) outer base) (term_in ws at.gap)) ≡ Some m
  pub bound : Bound (match_of s (drop (position s (term_in ws at.gap) outer base) (term_in ws at.gap))) (drop limits.levels positions')
  pub contracts : contraction s (drop (position s (term_in ws at.gap) outer base) (term_in ws at.gap)) ≡ some x
  pub stands : Stands s.arities ws' at.gap (term_in ws at.gap) (outer ++ begun ∷ [])
  pub holds : Tracks s ws' positions' at.gap base level

-- which of them, by where it stopped
abbrev pub Arrives : Stop → System → State → ℕ → List ℕ → Advanced → List ℕ → List ℕ → Type 0
Arrives Final s at base ws r ws' positions' = FinalAt s at base ws ws'
Arrives Deep s at base ws r ws' positions' = DeepAt s at base ws r.level ws'
Arrives (Ready m) s at base ws r ws' positions' = ReadyAt s at base ws m r.level ws' positions'

abbrev pub Advances : System → State → ℕ → List ℕ → Advanced → List ℕ → List ℕ → Type 0
Advances s at base ws r ws' positions' = Arrives r.stop s at base ws r ws' positions' × (last_words base ws' ≡ last_words base ws)
