-- A step of the machine in an area: "the right side, so filled, replaces the part .. Evaluation starts anew there at the same level".
use Rattle.std.specs.Prelude.{ℕ, ◌≤◌, ◌<◌, ◌≡◌, List, [], ◌∷◌, ◌++◌, length, get_or, drop, Some}
use Rattle.std.proofs.Math.Option.{some}
use Rattle.system.specs.Limits.{levels, term_words}
use Rattle.system.specs.Signature.{replace}
use Rattle.system.specs.System.{System}
use Rattle.reader.specs.Book.{system_of}
use Rattle.rows.specs.declared.gap.Gap.{Gap}
use Rattle.rows.specs.Rows.{term_in}
use Rattle.rewriting.specs.Ways.{Way, every_argument}
use Rattle.redexes.specs.declared.search.Redex.{Redex}
use Rattle.matching.specs.Matching.{Contraction, contraction}
use Rattle.matching.specs.Bindings.{match_of}
use Rattle.redexes.specs.search.Redexes.{redex_of, Bound}
use Rattle.reducts.specs.declared.putting.Reduced.{Reduced}
use Rattle.reducts.specs.putting.Replaced.{Done, TooLong, Kept}
use Rattle.machine.specs.declared.advance.State.{State}
use Rattle.machine.specs.advance.Area.{base_of, outer_in, last_words, Stands, Tracks}
use Rattle.steps.specs.steps.Raised.{way_in}

-- the position of the innermost level, and the subterm there
abbrev pub here : List ℕ → State → ℕ
here positions state = get_or positions state.level 0

abbrev pub subterm_here : List ℕ → List ℕ → State → List ℕ
subterm_here ws positions state = drop (here positions state) (term_in ws state.gap)

-- the area holds a state, with the way of n symbols to its base, and m is the match that was found at its innermost level
pub record Steppable (book ws positions : List ℕ) (state : State) (n : ℕ) (m : Redex) : Type 0 where
  pub tracks : Tracks (system_of book) ws positions state.gap (base_of positions) state.level
  pub way : Way (every_argument (system_of book)) (term_in ws state.gap) (way_in ws n) (base_of positions)
  pub match : redex_of (system_of book) (subterm_here ws positions state) ≡ Some m
  pub bound : Bound (match_of (system_of book) (subterm_here ws positions state)) (drop levels positions)
  pub x : Contraction
  pub contracts : contraction (system_of book) (subterm_here ws positions state) ≡ some x

-- the term after the step
abbrev pub stepped : System → List ℕ → List ℕ → State → Contraction → List ℕ
stepped s ws positions state x = replace s.arities (term_in ws state.gap) (here positions state) x.reduct

-- the area holds that term, with true lengths, no entry of the innermost level is begun, and the last words (the way to the base) are what they
-- were; where it would have too many words the area holds the state as it did
pub data Stepped (s : System) (ws positions : List ℕ) (state : State) (x : Contraction) (r : Reduced) (ws' : List ℕ) : Type 0 where
  done : length (stepped s ws positions state x) ≤ term_words → (gap' : Gap) → r ≡ Done gap' →
      Stands s.arities ws' gap' (stepped s ws positions state x) (outer_in ws state.level ++ 0 ∷ []) →
      last_words (base_of positions) ws' ≡ last_words (base_of positions) ws → Stepped s ws positions state x r ws'
  long : term_words < length (stepped s ws positions state x) → (gap' : Gap) → r ≡ TooLong gap' →
      Kept s.arities ws (term_in ws state.gap) gap' ws' → Stepped s ws positions state x r ws'

abbrev pub Steps : List ℕ → List ℕ → List ℕ → State → Reduced → List ℕ → Type 0
Steps book ws positions state r ws' =
    (x : Contraction) → contraction (system_of book) (subterm_here ws positions state) ≡ some x → Stepped (system_of book) ws positions state x r ws'
