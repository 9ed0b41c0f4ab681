-- Weights in range: the check of them, weight by weight, and what words then weigh at most. A term's weight fits 32 bits: 4,096 words of at most 1,000.
use Prim.Native.Nat.{ℕ, zero, suc, ◌*◌, ◌≤◌, ◌<◌}
use native.Mathlib.Omega.{arith}
use native.Mathlib.Decide.{dec_lt}
use mathlib.Core.Path.{◌≡◌, refl, ap, ◌∙◌}
use mathlib.Core.Bool.{Bool, true, false, cond, ◌&&◌}
use mathlib.Core.List.{List, [], ◌∷◌}
use lib.ListN.{length, get_or, get_or-eq_default}
use lib.Dec.{leb}
use Rattle.std.specs.List.{list_all}
use borrow.Author.Tests.{le-leb, leb-true, eqb-true, eq-eqb}
use Rattle.system.specs.Limits.{side_words, term_words, max_weight}
use Rattle.system.specs.BuiltIns.{literal, is_literal, is_built_in}
use Rattle.system.specs.System.{System}
use Rattle.system.proofs.BuiltIns.{both}
use Rattle.termination.specs.Weights.{Weights, built_in_weight, word_weight, weight, Weighs}
use Rattle.termination.specs.WeightTest.{in_range, weighs, weight_limit}
use Rattle.termination.proofs.Words.{weight-name, weight-builtin, limit-small}

-- ---- the range of the weights

pub range-nil : in_range [] ≡ true
unfolding in_range
range-nil = refl

range_cons : (w : ℕ) (ws : List ℕ) → 1 ≤ w → w ≤ max_weight → in_range (w ∷ ws) ≡ in_range ws
unfolding in_range
range_cons w ws l h = rw (le-leb 1 w l, le-leb w max_weight h)

-- as the library's test of a list
pub in_range_all : (m : Weights) → list_all (λ w. leb 1 w && leb w max_weight) m ≡ in_range m
unfolding in_range
in_range_all [] = refl
in_range_all (w ∷ ws) = ap (λ b. (leb 1 w && leb w max_weight) && b) (in_range_all ws)

-- where all are in range, each is
pub range_at : (m : Weights) → in_range m ≡ true → (f : ℕ) → f < length m → (1 ≤ get_or m f 0) × (get_or m f 0 ≤ max_weight)
unfolding in_range
range_at [] e f h = absurd (omega arith)
range_at (w ∷ ws) e zero h = let c = both _ _ (both _ _ e).0 in (leb-true 1 w c.0, leb-true w max_weight c.1)
range_at (w ∷ ws) e (suc f) h = range_at ws (both (leb 1 w && leb w max_weight) (in_range ws) e).1 f (omega arith)

range-complete : (m : Weights) → ((f : ℕ) → f < length m → (1 ≤ get_or m f 0) × (get_or m f 0 ≤ max_weight)) → in_range m ≡ true
range-complete [] h = range-nil
range-complete (w ∷ m) h = let z = h 0 (omega arith) in range_cons w m z.0 z.1 ∙ range-complete m (λ f l. h (suc f) (omega arith))

-- ---- a list of weights for a system, by computing

module _ (m : Weights) (s : System) where
  pub weighs-sound : weighs m (length s.arities) ≡ true → Weighs m s
  unfolding weighs
  weighs-sound e = let c = both _ (in_range m) e in record { total = eqb-true _ _ c.0; range = range_at m c.1 }

  pub weighs-complete : Weighs m s → weighs m (length s.arities) ≡ true
  unfolding weighs
  weighs-complete h = rw (eq-eqb _ _ h.total, range-complete m h.range)

-- ---- what weights in range leave of a word and of words

builtin-light : (w : ℕ) → built_in_weight w ≤ 1
unfolding built_in_weight
builtin-light w = go (is_literal w) (is_built_in w)
  where
    go : (a b : Bool) → cond a 0 (cond b 1 0) ≤ 1
    go true b = omega arith
    go false true = omega arith
    go false false = omega arith

module _ (m : Weights) (range : in_range m ≡ true) where
  entry-bounded : (w : ℕ) → get_or m w 0 ≤ max_weight
  entry-bounded w = elim (dec_lt w (length m)) [
    | yes l ↦ (range_at m range w l).1
    | no l ↦ (let z = get_or-eq_default m 0 {n = w} (omega arith) in omega arith)
  ]

  pub word-bounded : (w : ℕ) → word_weight m w ≤ max_weight
  word-bounded w = elim (dec_lt w literal) [
    | yes l ↦ rw (weight-name m w l) (entry-bounded w)
    | no l ↦ (let z = builtin-light w in rw (weight-builtin m w (omega arith)) (omega arith))
  ]

  pub weight-bounded : (ws : List ℕ) → weight m ws ≤ max_weight * length ws
  unfolding weight
  weight-bounded [] = omega arith
  weight-bounded (w ∷ ws) = let z = word-bounded w in let z' = weight-bounded ws in omega arith

  -- a side of a rule fits 32 bits
  pub side_limit : (ws : List ℕ) → length ws ≤ side_words → weight_limit m ws ≡ weight m ws
  side_limit ws h = limit-small m ws (let z = weight-bounded ws in omega arith)

-- the weight of a term, under a list for its system
module _ (m : Weights) (s : System) (h : Weighs m s) (t : List ℕ) (l : length t ≤ term_words) where
  pub weight-fits : weight m t ≤ max_weight * term_words
  weight-fits = let z = weight-bounded m (range-complete m h.range) t in omega arith

  pub limit-fits : weight_limit m t ≡ weight m t
  limit-fits = limit-small m t (let z = weight-fits in omega arith)
