-- What words weigh, word by word, and as a step limit.
use Prim.Native.Nat.{ℕ, zero, suc, ◌+◌, ◌≤◌, ◌<◌}
use native.Mathlib.Numerals.{add-one}
use native.Mathlib.Omega.{arith}
use mathlib.Core.Path.{◌≡◌, refl, ap, ◌∙◌}
use mathlib.Core.Bool.{true, false}
use mathlib.Core.List.{List, [], ◌∷◌, ◌++◌}
use lib.ListN.{length, get_or, take, drop}
use lib.Seq.{drop-cons}
use Rattle.std.proofs.lemmas.List.{drop_all}
use borrow.Author.Tests.{lt-ltb, le-ltb, lt-leb}
use Rattle.system.specs.Limits.{variable, max_steps}
use Rattle.system.specs.BuiltIns.{literal, maximum, last_built_in, is_literal, is_built_in}
use Rattle.system.proofs.BuiltIns.{above-literal, above-builtin, smaller-first, smaller-second}
use Rattle.termination.specs.Weights.{Weights, built_in_weight, word_weight, weight}
use Rattle.termination.specs.WeightTest.{weight_limit}

-- ---- what one word weighs

module _ (m : Weights) (w : ℕ) where
  -- a name: what the list says
  pub weight-name : w < literal → word_weight m w ≡ get_or m w 0
  unfolding word_weight
  weight-name h = rw (lt-ltb w literal h)

  -- a word behind them, whatever the list: the built-in weight
  pub weight-builtin : literal ≤ w → word_weight m w ≡ built_in_weight w
  unfolding word_weight
  weight-builtin h = rw (le-ltb w literal h)

module _ (w : ℕ) where
  pub builtin-literal : is_literal w ≡ true → built_in_weight w ≡ 0
  unfolding built_in_weight
  builtin-literal e = rw e

  pub builtin-none : is_literal w ≡ false → is_built_in w ≡ false → built_in_weight w ≡ 0
  unfolding built_in_weight
  builtin-none a b = rw (a, b)

-- a variable weighs nothing
pub weight-variable : (m : Weights) (w : ℕ) → variable ≤ w → word_weight m w ≡ 0
weight-variable m w l =
    weight-builtin m w (omega arith)
    ∙ builtin-none w (above-literal w (omega arith) ∙ le-ltb w maximum (omega arith)) (above-builtin w (omega arith) ∙ lt-leb w last_built_in (omega arith))

-- ---- what words weigh

module _ (m : Weights) where
  pub weight-nil : weight m [] ≡ 0
  unfolding weight
  weight-nil = refl

  pub weight-cons : (w : ℕ) (ws : List ℕ) → weight m (w ∷ ws) ≡ word_weight m w + weight m ws
  unfolding weight
  weight-cons w ws = refl

  pub weight-append : (a b : List ℕ) → weight m (a ++ b) ≡ weight m a + weight m b
  unfolding weight
  weight-append [] b = omega arith
  weight-append (w ∷ a) b = let z = weight-append a b in omega arith

  -- the first of them weigh no more than all
  pub weight-take : (k : ℕ) (ws : List ℕ) → weight m (take k ws) ≤ weight m ws
  unfolding weight
  weight-take zero ws = omega arith
  weight-take (suc k) [] = omega arith
  weight-take (suc k) (w ∷ ws) = let z = weight-take k ws in omega arith

  -- as a step limit: the weight where it fits, else the largest
  pub limit-small : (ws : List ℕ) → weight m ws ≤ max_steps → weight_limit m ws ≡ weight m ws
  unfolding weight_limit
  limit-small ws h = smaller-first (weight m ws) max_steps h

  pub limit-large : (ws : List ℕ) → max_steps < weight m ws → weight_limit m ws ≡ max_steps
  unfolding weight_limit
  limit-large ws h = smaller-second (weight m ws) max_steps h

-- ---- the words that are left

module _ (m : Weights) (ws : List ℕ) where
  -- one word, and those behind it
  pub weight-drop : (i : ℕ) → i < length ws → weight m (drop i ws) ≡ word_weight m (get_or ws i 0) + weight m (drop (i + 1) ws)
  unfolding weight
  weight-drop i h = rw (add-one, drop-cons ws i 0 h)

  pub weight-end : (i : ℕ) → length ws ≤ i → weight m (drop i ws) ≡ 0
  unfolding weight
  weight-end i h = ap (weight m) (drop_all i ws h)
