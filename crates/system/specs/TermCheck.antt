-- The check of a term (01: number 9, "the cue is not whole").
use Rattle.std.specs.Prelude.{ℕ, zero, suc, ◌+◌, true, false, ◌&&◌, List, [], ◌∷◌, ltb}
use Rattle.std.proofs.Math.Option.{Option, none, some}
use Rattle.system.specs.Limits.{term_words}
use Rattle.system.specs.Signature.{Signature, is_symbol, arity}

-- with `due` subterms to come from index i on: "the index of the first cue word that can't stand there, or the cue's length if it
-- ends early; no word can stand at index 4,096"
unfoldable pub term_fault : Signature → ℕ → List ℕ → ℕ → Option ℕ
term_fault g zero [] i = none
term_fault g (suc due) [] i = some i
term_fault g zero (w ∷ ws) i = some i
term_fault g (suc due) (w ∷ ws) i = elim (ltb i term_words && is_symbol g w) [ true ↦ term_fault g (due + arity g w) ws (suc i) | false ↦ some i ]
