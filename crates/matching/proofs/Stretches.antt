-- The stretches that variables stand for: none yet, and one more. They lie in the subterm, and are as long as was noted.
use Prim.Native.Nat.{ℕ, ◌+◌, ◌≤◌, ◌<◌}
use native.Mathlib.Omega.{arith}
use native.Mathlib.Decide.{ℕ_discrete, dec_lt}
use mathlib.Core.Path.{◌≡◌, refl, sym, ◌∙◌, subst}
use mathlib.Core.List.{List, []}
use lib.ListN.{length, get_or, take, drop, set, replicate, length-drop, length-set, length-replicate, get_or-replicate, get_or-eq_default}
use lib.Seq.{get_or-set_same, get_or-set_other, length-take-le}
use Rattle.system.specs.Limits.{variables}
use Rattle.matching.specs.Bindings.{Bindings, no_bindings, value}
use Rattle.matching.specs.rules.Searches.{Within}

-- ---- none yet

zero-at : (n v : ℕ) → ◌≡◌ {A = ℕ} (get_or (replicate n 0) v 0) 0
zero-at n v = elim (dec_lt v n) [ yes h ↦ get_or-replicate n v 0 0 h | no h ↦ get_or-eq_default (replicate n 0) 0 {n = v} (rw (length-replicate {A = ℕ} n 0) (omega arith)) ]

pub none-start : (v : ℕ) → get_or no_bindings.starts v 0 ≡ 0
unfolding no_bindings
none-start v = zero-at variables v

pub none-length : (v : ℕ) → get_or no_bindings.lengths v 0 ≡ 0
unfolding no_bindings
none-length v = zero-at variables v

module _ (t : List ℕ) where
  pub within_none : Within t no_bindings.starts no_bindings.lengths
  unfolding no_bindings
  within_none = record { size-starts = refl; size-lengths = refl; inside = λ v. rw (zero-at variables v) (omega arith) }

  pub value_none : (v : ℕ) → value t no_bindings v ≡ []
  unfolding value no_bindings
  value_none v = rw (zero-at variables v)

  -- ---- the words of a stretch

  pub value-length : (a : Bindings) → Within t a.starts a.lengths → (v : ℕ) → length (value t a v) ≡ get_or a.lengths v 0
  unfolding value
  value-length a h v = let i = h.inside v in length-take-le (get_or a.lengths v 0) (drop (get_or a.starts v 0) t) (rw (length-drop (get_or a.starts v 0) t) (omega arith))

  -- ---- one more: the n words from q on, for variable v

  module _ {starts lengths : List ℕ} (w : Within t starts lengths) (v q n : ℕ) (few : v < variables) where
    pub start-same : get_or (set starts v q) v 0 ≡ q
    start-same = get_or-set_same starts v q 0 (omega (arith, w.size-starts))

    pub length-same : get_or (set lengths v n) v 0 ≡ n
    length-same = get_or-set_same lengths v n 0 (omega (arith, w.size-lengths))

    pub within-set : q + n ≤ length t → Within t (set starts v q) (set lengths v n)
    within-set fits = record {
      size-starts = length-set starts v q ∙ w.size-starts;
      size-lengths = length-set lengths v n ∙ w.size-lengths;
      inside = λ u. elim (ℕ_discrete u v) [
        | yes e ↦ subst (λ y. get_or (set starts v q) y 0 + get_or (set lengths v n) y 0 ≤ length t) (sym e) (rw (start-same, length-same) fits)
        | no d ↦ rw (get_or-set_other lengths v u n 0 d, get_or-set_other starts v u q 0 d) (w.inside u)
      ];
    }

    pub value_same : value t (record { starts = set starts v q; lengths = set lengths v n }) v ≡ take n (drop q t)
    unfolding value
    value_same = rw (start-same, length-same)

    pub value-other : (u : ℕ) → (u ≡ v → ⊥) →
        value t (record { starts = set starts v q; lengths = set lengths v n }) u ≡ value t (record { starts = starts; lengths = lengths }) u
    unfolding value
    value-other u d = rw (get_or-set_other lengths v u n 0 d, get_or-set_other starts v u q 0 d)
