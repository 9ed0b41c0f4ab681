-- One transition of the machine: the next entry of the innermost level's strategy is taken.
use Rattle.std.specs.Prelude.{ℕ, suc, ◌≡◌, true, false, cond, List, [], ◌∷◌, ◌++◌, length, set, ltb, leb}
use Rattle.system.specs.Limits.{levels}
use Rattle.system.specs.System.{System}
use Rattle.rewriting.specs.Machine.{strategy_at, position}
use Rattle.rows.specs.Rows.{term_in}
use Rattle.machine.specs.advance.Area.{outer_in, count_in, last_words, Stands, Tracks}
use Rattle.layout.specs.entries.Entries.{entry_of}
use Rattle.layout.specs.declared.entries.Entry.TheVariants as entry
use Rattle.machine.specs.declared.advance.Event.{Event}
use Rattle.machine.specs.declared.advance.Event.TheVariants.{End, Repeated, Rules, Argument, TooDeep}
use Rattle.machine.specs.declared.advance.Innermost.{Innermost}

-- how many entries of a level were begun before the present run of transitions: `since` at the level `floor`, the innermost one that was
-- open before and has not been left, and none at a level that was opened in it
abbrev pub since_at : ℕ → ℕ → ℕ → ℕ
since_at floor since level = elim (ltb floor level) [ true ↦ 0 | false ↦ since ]

-- where it leads: the strategy is at its end, and the level is left (the levels that are still open); an entry is repeated, or the rules
-- are to be tried at the innermost level (the levels around it, and its begun entries, this one among them); an argument is opened (the
-- levels around it); or it would be opened from level 64
pub data Transition : Type 0 where
  end : (outer : List ℕ) → Transition
  repeated : (outer : List ℕ) (begun : ℕ) → Transition
  rules : (outer : List ℕ) (begun : ℕ) → Transition
  argument : (outer : List ℕ) → Transition
  too_deep : Transition

-- from the base, with the levels `outer` around the innermost one, of which c entries are begun, f of them before the present run of transitions; the
-- innermost level is number suc (length outer)
unfoldable pub transition : System → List ℕ → ℕ → List ℕ → ℕ → ℕ → Transition
transition s t base outer f c =
    elim (entry_of (strategy_at s t (position s t outer base)) f c) [
      | entry.End ↦ end outer
      | entry.Repeated ↦ repeated outer (suc c)
      | entry.Rules ↦ rules outer (suc c)
      | entry.Argument i ↦ cond (leb levels (suc (length outer))) too_deep (argument (outer ++ suc c ∷ []))
    ]

-- the code's word for it
abbrev pub event_of : Transition → Event
event_of (end outer) = End
event_of (repeated outer c) = Repeated
event_of (rules outer c) = Rules
event_of (argument outer) = Argument
event_of too_deep = TooDeep

-- the counts of begun entries after it, where `counts` stood before it
abbrev pub counts_after : List ℕ → Transition → List ℕ
counts_after counts (end outer) = outer
counts_after counts (repeated outer c) = outer ++ c ∷ []
counts_after counts (rules outer c) = outer ++ c ∷ []
counts_after counts (argument outer) = outer ++ 0 ∷ []
counts_after counts too_deep = counts

-- the positions of the levels after it: an argument's is noted
abbrev pub positions_after : System → List ℕ → ℕ → List ℕ → Transition → List ℕ
positions_after s t base positions (end outer) = positions
positions_after s t base positions (repeated outer c) = positions
positions_after s t base positions (rules outer c) = positions
positions_after s t base positions (argument outer) = set positions (length outer) (position s t outer base)
positions_after s t base positions too_deep = positions

-- the transition of the state in an area, and the counts there
abbrev pub next : System → Innermost → ℕ → List ℕ → Transition
next s at base ws = transition s (term_in ws at.gap) base (outer_in ws at.level) at.since (count_in ws at.level)

abbrev pub counts_in : Innermost → List ℕ → List ℕ
counts_in at ws = outer_in ws at.level ++ count_in ws at.level ∷ []

-- what `take_transition` hands back and leaves in the area and in the positions; where a level is still open the area holds a state
pub record Performed (s : System) (at : Innermost) (base : ℕ) (ws positions : List ℕ) (r : Event) (ws' positions' : List ℕ) : Type 0 where
  pub event : r ≡ event_of (next s at base ws)
  pub stands : Stands s.arities ws' at.gap (term_in ws at.gap) (counts_after (counts_in at ws) (next s at base ws))
  pub noted : positions' ≡ positions_after s (term_in ws at.gap) base positions (next s at base ws)
  pub holds : (level : ℕ) → length (counts_after (counts_in at ws) (next s at base ws)) ≡ suc level → Tracks s ws' positions' at.gap base level
  pub kept : last_words base ws' ≡ last_words base ws
