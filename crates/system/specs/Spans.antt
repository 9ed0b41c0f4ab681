-- The lengths of a term's subterms.
use Rattle.std.specs.Prelude.{ℕ, List, [], ◌∷◌}
use Rattle.system.specs.Signature.{Signature, span}

-- "beside each word stands the length of the part that starts there": for each word the span of the subterm that starts there
unfoldable pub spans : Signature → List ℕ → List ℕ
spans g [] = []
spans g (w ∷ ws) = span g (w ∷ ws) 1 ∷ spans g ws
