-- Kinds of terms (02, F-8: "Kinds of cue"): a many-sorted signature. A kind is a sort.
use Rattle.std.specs.Prelude.{ℕ, zero, suc, ◌+◌, ◌-◌, ◌≤◌, ◌<◌, ◌≡◌, cond, List, [], ◌∷◌, ◌++◌, length, get_or, ltb}
use Rattle.system.specs.Limits.{variable, max_sort}
use Rattle.system.specs.Signature.{Signature, arity}
use Rattle.system.specs.System.{System, Rule, rule}
use Rattle.system.specs.Rules.{RuleOf}

-- the lent list: "name by name, gives the kind (0 to 63) of the name's outcome, then of each argument"
abbrev pub Sorts : Type 0
Sorts = List ℕ

-- the index in it at which the numbers of a symbol start: each listed symbol before it takes one number and one for each argument
unfoldable pub offset : Signature → ℕ → ℕ
offset [] w = 0
offset (a ∷ g) zero = 0
offset (a ∷ g) (suc w) = suc a + offset g w

-- how many numbers it has in all
abbrev pub entries : Signature → ℕ
entries g = offset g (length g)

-- n numbers of the list from the index i on; 0 past its end
unfoldable pub numbers_from : Sorts → ℕ → ℕ → List ℕ
numbers_from ks i zero = []
numbers_from ks i (suc n) = get_or ks i 0 ∷ numbers_from ks (suc i) n

-- the sort of a symbol's outcome, and of each of its arguments. "levels and the built-in words are kind 0 throughout": they are not listed, so
-- that their numbers would start at the list's end, and there is 0 (`unlisted-result`, `unlisted-arguments`)
unfoldable pub result_sort : Signature → Sorts → ℕ → ℕ
result_sort g ks w = get_or ks (offset g w) 0

unfoldable pub argument_sorts : Signature → Sorts → ℕ → List ℕ
argument_sorts g ks w = numbers_from ks (suc (offset g w)) (arity g w)

-- the sort of a word of a side, where τ gives the sort of each variable
unfoldable pub word_sort : Signature → Sorts → (ℕ → ℕ) → ℕ → ℕ
word_sort g ks τ w = cond (ltb w variable) (result_sort g ks w) (τ (w - variable))

-- `Sorted g ks τ es ws`: the words are whole terms, one of each of the sorts es, and "each argument's kind is the one listed for its place"
pub data Sorted (g : Signature) (ks : Sorts) (τ : ℕ → ℕ) : List ℕ → List ℕ → Type 0 where
  empty : Sorted g ks τ [] []
  more : {w e : ℕ} {es ws : List ℕ} → word_sort g ks τ w ≡ e → Sorted g ks τ (argument_sorts g ks w ++ es) ws → Sorted g ks τ (e ∷ es) (w ∷ ws)

-- a well-sorted term (02: a well-kinded cue) and its sort; it has no variables
abbrev pub SortedTerm : Signature → Sorts → ℕ → List ℕ → Type 0
SortedTerm g ks e t = Sorted g ks (λ _. 0) (e ∷ []) t

-- "A rule passes if both sides are well-kinded with equal kind and each placeholder has one kind": the sort of each variable, which is that of
-- every place where it stands, and the sort of both sides
pub record SortedRule (g : Signature) (ks : Sorts) (r : Rule) : Type 0 where
  pub variable_sort : ℕ → ℕ
  pub sort : ℕ
  pub left : Sorted g ks variable_sort (sort ∷ []) r.lhs
  pub right : Sorted g ks variable_sort (sort ∷ []) r.rhs

-- the sort of each word's place, where the words are terms of the sorts es: the first word stands in a place of the first sort, and its arguments
-- in places of theirs. "A placeholder's kind is that of its place on the left" (`one-sort`, `same-sort-right`)
unfoldable pub places : Signature → Sorts → List ℕ → List ℕ → List ℕ
places g ks es [] = []
places g ks [] (w ∷ ws) = []
places g ks (e ∷ es) (w ∷ ws) = e ∷ places g ks (argument_sorts g ks w ++ es) ws

-- "If all rules pass", the built-in rules too
abbrev pub WellSorted : Sorts → System → Type 0
WellSorted ks s = (k : ℕ) (r : Rule) → RuleOf s k r → SortedRule s.arities ks r

-- "the lowest rule that fails": it is listed, and every lower one passes
pub record IllFirst (ks : Sorts) (s : System) (k : ℕ) : Type 0 where
  pub known : k < length s.rules
  pub ill : SortedRule s.arities ks (rule s k) → ⊥
  pub lower : (j : ℕ) (r : Rule) → RuleOf s j r → j < k → SortedRule s.arities ks r

-- a list of sorts for the signature: its length is not "wrong", and it has no "kind above 63"
pub record Lists (ks : Sorts) (g : Signature) : Type 0 where
  pub total : length ks ≡ entries g
  pub small : (i : ℕ) → i < length ks → get_or ks i 0 ≤ max_sort
