-- The built-in words (02, F-2 and F-4): literals (02: levels) and three operators on them.
use Rattle.std.specs.Prelude.{ℕ, ◌+◌, ◌*◌, ◌/◌, Bool, cond, ◌&&◌, ◌||◌, List, [], ◌∷◌, ltb, leb, eqb}

-- "Words 16384 to 16639 stand for levels 0 to 255, with no arguments": where the literals start, and how many there are
abbrev pub literal : ℕ
literal = 16384

abbrev pub literals : ℕ
literals = 256

-- "Word 16640 is 'higher of', 16641 'lower of', two arguments each, order 1 2 0"
abbrev pub maximum : ℕ
maximum = 16640

abbrev pub minimum : ℕ
minimum = 16641

-- "Word 16642 is 'curve', one argument, order 1 0"
abbrev pub square : ℕ
square = 16642

-- the last of them
abbrev pub last_built_in : ℕ
last_built_in = square

unfoldable pub is_literal : ℕ → Bool
is_literal w = leb literal w && ltb w maximum

-- a literal, or one of the operators behind the literals
unfoldable pub is_built_in : ℕ → Bool
is_built_in w = leb literal w && leb w last_built_in

-- the operators with two arguments, and those with one
unfoldable pub is_binary : ℕ → Bool
is_binary w = eqb w maximum || eqb w minimum

unfoldable pub is_unary : ℕ → Bool
is_unary w = eqb w square

unfoldable pub built_in_arity : ℕ → ℕ
built_in_arity w = cond (is_binary w) 2 (cond (is_unary w) 1 0)

unfoldable pub built_in_strategy : ℕ → List ℕ
built_in_strategy w = cond (is_binary w) (1 ∷ 2 ∷ 0 ∷ []) (cond (is_unary w) (1 ∷ 0 ∷ []) [])

-- "the larger or smaller level"
unfoldable pub larger : ℕ → ℕ → ℕ
larger m n = cond (ltb m n) n m

unfoldable pub smaller : ℕ → ℕ → ℕ
smaller m n = cond (ltb m n) m n

-- the square law: "level n becomes (n × n + 127) divided by 255, whole part"
unfoldable pub square_law : ℕ → ℕ
square_law n = (n * n + 127) / 255
