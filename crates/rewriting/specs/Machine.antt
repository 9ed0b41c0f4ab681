-- The evaluation as a machine that can stop between any two transitions and go on. A state is a run and, for each open level, outermost first,
-- how many entries of its strategy are begun. The level below starts at the argument that the entry last begun tells of.
use Rattle.std.specs.Prelude.{ℕ, zero, suc, List, [], ◌∷◌, get_or, drop}
use Rattle.std.proofs.Math.Option.{none, some}
use Rattle.system.specs.Signature.{argument}
use Rattle.system.specs.System.{System, strategy}
use Rattle.matching.specs.Matching.{Contraction, contraction}

-- how many arguments stand before the one that an entry tells of
abbrev pub others : ℕ → ℕ
others zero = 0
others (suc i) = i

-- the entry last begun, where c are
abbrev pub last : List ℕ → ℕ → ℕ
last es zero = 0
last es (suc c) = get_or es c 0

-- the strategy of the symbol at p
abbrev pub strategy_at : System → List ℕ → ℕ → List ℕ
strategy_at s t p = strategy s (get_or t p 0)

-- where the argument starts that is open at p, with c entries begun
unfoldable pub down : System → List ℕ → ℕ → ℕ → ℕ
down s t p c = argument s.arities t p (others (last (strategy_at s t p) c))

-- where the level starts that lies below the levels cs
unfoldable pub position : System → List ℕ → List ℕ → ℕ → ℕ
position s t [] p = p
position s t (c ∷ cs) p = position s t cs (down s t p c)

-- where a machine comes to without a rewrite: the end; an argument that would be opened too deep;
-- or a rewrite at the position below the levels `outer`, where `begun` entries are begun, the 0 of this rewrite among them
pub data Next : Type 0 where
  final : Next
  deep : Next
  ready : (outer : List ℕ) (begun : ℕ) (x : Contraction) → Next

-- one level more, with c entries begun, around what an inner level came to
abbrev pub around : ℕ → Next → Next → Next
around c final on = on
around c deep on = deep
around c (ready cs d x) on = ready (c ∷ cs) d x

-- at p, over the entries es, with c begun before them: on to the next rewrite, in an argument or here
unfoldable pub scan : System → (ℕ → Next) → List ℕ → List ℕ → ℕ → ℕ → Next
scan s inner t [] c p = final
scan s inner t (zero ∷ es) c p =
    elim (contraction s (drop p t)) [
      | none ↦ scan s inner t es (suc c) p
      | some x ↦ ready [] (suc c) x
    ]
scan s inner t (suc i ∷ es) c p = let on = scan s inner t es (suc c) p in around (suc c) (inner (argument s.arities t p i)) on

-- the subterm at p, from the first entry of its strategy; `deep` where no level is left
unfoldable pub enter : System → ℕ → List ℕ → ℕ → Next
enter s zero t p = deep
enter s (suc l) t p = scan s (λ q. enter s l t q) t (strategy_at s t p) 0 p

-- from a state: the innermost level first, then what is left at each level around it
unfoldable pub advance : System → ℕ → List ℕ → List ℕ → ℕ → Next
advance s l [] t p = final
advance s zero (c ∷ cs) t p = deep
advance s (suc l) (c ∷ cs) t p =
    let on = scan s (enter s l t) t (drop c (strategy_at s t p)) c p in
    around c (advance s l cs t (down s t p c)) on
