-- The open levels of a state of the machine.
use Rattle.std.specs.Prelude.{ℕ, suc, ◌<◌, ◌≡◌, List, [], ◌∷◌, length, get_or}
use Rattle.system.specs.System.{System}
use Rattle.rewriting.specs.Machine.{strategy_at, down}

-- the levels cs are open from p on: at each, the entry last begun is an argument
pub data Opened (s : System) (t : List ℕ) : ℕ → List ℕ → Type 0 where
  base : {p : ℕ} → Opened s t p []
  level : {p c i : ℕ} {cs : List ℕ} → c < length (strategy_at s t p) → get_or (strategy_at s t p) c 0 ≡ suc i →
      Opened s t (down s t p (suc c)) cs → Opened s t p (suc c ∷ cs)
