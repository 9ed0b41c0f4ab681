-- The words of terms. A term (01: a cue) is written prefix: a symbol, then its arguments.
-- All definitions are on words as they lie in memory.
use Rattle.std.specs.Prelude.{ℕ, zero, suc, ◌+◌, ◌<◌, ◌≡◌, Bool, true, ◌||◌, List, [], ◌∷◌, ◌++◌, length, get_or, take, drop, ltb}
use Rattle.system.specs.BuiltIns.{is_built_in, built_in_arity}

-- the arity (01: argument count) of each symbol (01: name)
abbrev pub Signature : Type 0
Signature = List ℕ

-- "A word below S is a name": a symbol that the book lists
abbrev pub Listed : Signature → ℕ → Type 0
Listed g w = w < length g

-- a listed symbol, or a built-in word
unfoldable pub is_symbol : Signature → ℕ → Bool
is_symbol g w = ltb w (length g) || is_built_in w

abbrev pub Symbol : Signature → ℕ → Type 0
Symbol g w = is_symbol g w ≡ true

-- how many arguments a word takes: of a word that is not listed the built-in arity, and what is no symbol takes none
unfoldable pub arity : Signature → ℕ → ℕ
arity g w = get_or g w (built_in_arity w)

-- the words that the first k subterms of ws take; all of ws where it ends before
unfoldable pub span : Signature → List ℕ → ℕ → ℕ
span g [] k = 0
span g (w ∷ ws) zero = 0
span g (w ∷ ws) (suc k) = suc (span g ws (k + arity g w))

-- where the argument of the subterm at p starts that has i others before it
unfoldable pub argument : Signature → List ℕ → ℕ → ℕ → ℕ
argument g t p i = suc p + span g (drop (suc p) t) i

-- the subterm at p (01: "the part there is that word with all its arguments")
unfoldable pub subterm : Signature → List ℕ → ℕ → List ℕ
subterm g t p = take (span g (drop p t) 1) (drop p t)

-- the term with the subterm at p replaced by u
unfoldable pub replace : Signature → List ℕ → ℕ → List ℕ → List ℕ
replace g t p u = take p t ++ (u ++ drop (p + span g (drop p t) 1) t)

-- the arities as the words of any book list them, before it is known whether it is accepted
unfoldable pub signature_of : List ℕ → Signature
signature_of ws = take (get_or ws 0 0) (drop 1 ws)
