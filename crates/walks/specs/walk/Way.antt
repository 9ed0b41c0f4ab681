-- The finger of a replay: it stays at the position of the last step, and the way to it from the root is kept beside the term. So a pair whose
-- index is near costs little.
use Rattle.std.specs.Prelude.{ℕ, ◌≡◌, ◌≢◌, true, false, List, length, take, drop, Result, MatchResult}
use Rattle.system.specs.Limits.{area_words}
use Rattle.system.specs.System.{System}
use Rattle.system.specs.Terms.{Whole, WellFormed}
use Rattle.rows.specs.Rows.{counts_at, term_in}
use Rattle.rows.specs.Measured.{Measured}
use Rattle.rewriting.specs.Ways.{Way}
use Rattle.walks.specs.Activity.{active_at}
use Rattle.walks.specs.declared.walk.Finger.{Finger}
use Rattle.walks.specs.walk.Descent.{Above}

-- the positions on a way of so many, in the place of the machine's counts
abbrev pub way_in : List ℕ → ℕ → List ℕ
way_in ws level = take level (drop counts_at ws)

-- the area ws holds the term t, with true lengths, and the way to the position of the finger. What stands in the gap and behind the way does not
-- matter
pub record Points (s : System) (t ws : List ℕ) (f : Finger) : Type 0 where
  pub total : length ws ≡ area_words
  pub measured : Measured s.arities ws f.gap
  pub term : term_in ws f.gap ≡ t
  pub whole : Whole s.arities t
  pub levels : length (way_in ws f.level) ≡ f.level
  pub way : Way s t (way_in ws f.level) f.at

-- the term is the one that the area holds
abbrev pub PointsIn : System → List ℕ → Finger → Type 0
PointsIn s ws f = Points s (term_in ws f.gap) ws f

-- of some system
abbrev pub PointsForSome : List ℕ → Finger → Type 0
PointsForSome ws f = (s : System) × WellFormed s × PointsIn s ws f

-- the subterm at the finger holds the position q
pub record Over (s : System) (t ws : List ℕ) (f : Finger) (q : ℕ) : Type 0 where
  pub points : Points s t ws f
  pub above : Above s t f.at q

-- the finger is at q, which is active
pub record At (s : System) (t ws : List ℕ) (q : ℕ) (f : Finger) : Type 0 where
  pub points : Points s t ws f
  pub here : f.at ≡ q
  pub active : active_at s t q ≡ true

-- q is not active: the walk to it ended at another position, and the finger is there
pub record Missed (s : System) (t ws : List ℕ) (q : ℕ) (f : Finger) : Type 0 where
  pub points : Points s t ws f
  pub elsewhere : f.at ≢ q
  pub inactive : active_at s t q ≡ false

-- the finger is at q exactly if that position is active; if it is not, the finger is where the walk ended
abbrev pub Found : System → List ℕ → List ℕ → ℕ → Result Finger Finger → Type 0
Found s t ws q r = MatchResult r (At s t ws q) (Missed s t ws q)
