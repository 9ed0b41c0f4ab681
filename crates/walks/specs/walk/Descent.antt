-- Down from an active position to one in its subterm: "every argument on the way to it stands in the order of the name holding it".
use Rattle.std.specs.Prelude.{ℕ, ◌+◌, ◌≤◌, ◌<◌, ◌≡◌, Bool, ◌&&◌, List, length, get_or, drop, leb, ltb}
use Rattle.system.specs.Signature.{Signature, arity, span, argument}
use Rattle.system.specs.System.{System}
use Rattle.rewriting.specs.Rewriting.{Active}
use Rattle.walks.specs.declared.walk.Argument.{Argument}

-- whether the position q lies in the subterm at p
unfoldable pub within : Signature → List ℕ → ℕ → ℕ → Bool
within g t p q = leb p q && ltb q (p + span g (drop p t) 1)

-- the position q is p, or lies below it; p is active
pub record Above (s : System) (t : List ℕ) (p q : ℕ) : Type 0 where
  pub active : Active s t p
  pub within : p < length t
  pub low : p ≤ q
  pub high : q < p + span s.arities (drop p t) 1

-- the position q lies in the argument with i others before it, or in one behind that
pub record From (s : System) (t : List ℕ) (p q i : ℕ) : Type 0 where
  pub above : Above s t p q
  pub known : i < arity s.arities (get_or t p 0)
  pub low : argument s.arities t p i ≤ q

-- the argument of the symbol at p that holds q
pub record Held (s : System) (t : List ℕ) (p q : ℕ) (a : Argument) : Type 0 where
  pub from : From s t p q a.number
  pub start : a.start ≡ argument s.arities t p a.number
  pub high : q < argument s.arities t p a.number + span s.arities (drop (argument s.arities t p a.number) t) 1
