-- What the words of the bindings tell of the stretches.
use Prim.Native.Nat.{ℕ, ◌+◌, ◌<◌}
use native.Mathlib.Omega.{arith}
use mathlib.Core.Path.{◌≡◌, sym}
use mathlib.Core.List.{List}
use lib.ListN.{length, get_or, drop, length-drop}
use lib.Seq.{get_or-take, get_or-drop}
use Rattle.system.specs.Limits.{variables}
use Rattle.redexes.specs.search.Redexes.{binding_words}
use Rattle.sides.specs.sides.Sides.{stretches_in}

module _ (bs : List ℕ) where
  pub binding-words : length (drop variables bs) ≡ variables → length bs ≡ binding_words
  binding-words e = let z = length-drop variables bs in omega arith

  pub start-told : (v : ℕ) → v < variables → get_or bs v 0 ≡ get_or (stretches_in bs).starts v 0
  start-told v h = sym (get_or-take variables bs v 0 h)

  pub length-told : (v : ℕ) → get_or bs (variables + v) 0 ≡ get_or (stretches_in bs).lengths v 0
  length-told v = sym (get_or-drop variables bs v 0)
