-- A list read from its end to its front, as by `iter().rev()`: what is left to read is a front of it.
use Rattle.std.specs.Prelude.{◌+◌, ◌≡◌, List, ◌∷◌, ◌++◌, length, drop}

pub record Front {A : Type 0} (left all : List A) : Type 0 where
  pub whole : left ++ drop (length left) all ≡ all

-- of that, w is the last: it is read, and left' is left
pub record Turn {A : Type 0} (left left' all : List A) (w : A) : Type 0 where
  pub less : length left' + 1 ≡ length left
  pub split : drop (length left') all ≡ w ∷ drop (length left) all
  pub next : Front left' all
