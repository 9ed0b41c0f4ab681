-- The variables of a side, counted word by word, and the counts of two sides compared.
use Prim.Native.Nat.{ℕ, zero, suc, ◌+◌, ◌-◌, ◌≤◌, ◌<◌}
use native.Mathlib.Numerals.{add-one}
use native.Mathlib.Omega.{arith}
use native.Mathlib.Decide.{ℕ_discrete}
use mathlib.Core.Path.{◌≡◌, refl, sym, ap, ◌∙◌}
use mathlib.Core.List.{List, []}
use lib.ListN.{length, get_or, set, take, replicate, length-set, length-replicate, get_or-replicate}
use lib.Seq.{get_or-set_same, get_or-set_other, take_all}
use lib.Dec.{leb}
use Rattle.std.specs.List.{list_all, zip}
use Rattle.std.proofs.lemmas.List.Folds.{list_all_more}
use Rattle.std.proofs.lemmas.Slice.Zip.{length-zip, get_or-zip}
use Rattle.system.specs.Limits.{side_words, variable, variables}
use Rattle.system.specs.System.{Rule}
use Rattle.matching.specs.rules.Searches.{NumberedSide}
use Rattle.system.specs.Terms.{occurs}
use Rattle.termination.specs.WeightTest.{keeps_at, below}
use Rattle.termination.specs.falling.Counts.{Counts}
use Rattle.system.proofs.Occurrences.{occurs-nil, occurs-next, occurs-skip, occurs-take, occurs-length}
use Rattle.termination.proofs.Decides.{below-same}

-- ---- the words of a side

-- before the first word
pub counts_start : Counts [] (replicate variables 0)
counts_start = record {
  total = length-replicate {A = ℕ} variables 0;
  each = λ v l. get_or-replicate variables v 0 0 l ∙ sym (occurs-nil (variable + v));
}

-- the number of a variable that stands in a side
pub numbered : {side : List ℕ} → NumberedSide side → {j : ℕ} → j < length side → variable ≤ get_or side j 0 → get_or side j 0 - variable < variables
numbered s {j} l h = let z = s.known j l in omega arith

-- one word more
module _ (ws : List ℕ) (j : ℕ) (h : j < length ws) {counts : List ℕ} (c : Counts (take j ws) counts) where
  -- that is no variable
  pub counts-symbol : get_or ws j 0 < variable → Counts (take (j + 1) ws) counts
  counts-symbol low = record {
    total = c.total;
    each = λ v l. c.each v l ∙ sym (occurs-skip (variable + v) ws j h (λ e. omega arith));
  }

  -- variable number v
  pub counts-variable : (v : ℕ) → get_or ws j 0 ≡ variable + v → v < variables → Counts (take (j + 1) ws) (set counts v (get_or counts v 0 + 1))
  counts-variable v is known = record { total = length-set counts v n ∙ c.total; each = each }
    where
      n : ℕ
      n = get_or counts v 0 + 1

      each : (u : ℕ) → u < variables → get_or (set counts v n) u 0 ≡ occurs (variable + u) (take (j + 1) ws)
      each u l = let z = c.each u l in elim (ℕ_discrete u v) [
        | yes e ↦ rw e (
            let s = get_or-set_same counts v n 0 (let t = c.total in omega arith) in
            let o = occurs-next (variable + v) ws j h is in
            let z = c.each v known in
            omega arith)
        | no d ↦
            let s = get_or-set_other counts v u n 0 d in
            let o = occurs-skip (variable + u) ws j h (λ e. d (omega arith)) in
            omega arith
      ]

-- a count of a side's words is small
pub count_small : (ws : List ℕ) → NumberedSide ws → (k : ℕ) {counts : List ℕ} → Counts (take k ws) counts → (v : ℕ) → v < variables →
    get_or counts v 0 ≤ side_words
count_small ws side k {counts} c v l =
    let h = side.small in
    let z = c.each v l in
    let a = occurs-take (variable + v) k ws in
    let b = occurs-length (variable + v) ws in
    omega arith

-- ---- the counts of two sides

-- the first n pairs of two lists, compared
pairs : (xs ys : List ℕ) (n : ℕ) → n ≤ length xs → n ≤ length ys →
    list_all (λ p. leb p.0 p.1) (take n (zip xs ys)) ≡ below (λ v. leb (get_or xs v 0) (get_or ys v 0)) n
unfolding below
pairs xs ys zero a b = refl
pairs xs ys (suc n) a b =
    ap (λ k. list_all (λ p. leb p.0 p.1) (take k (zip xs ys))) (sym (add-one n))
    ∙ list_all_more (λ p. leb p.0 p.1) (zip xs ys) n (0, 0) (let z = length-zip xs ys in omega arith)
    ∙ rw (pairs xs ys n (omega arith) (omega arith), get_or-zip xs ys n (0, 0) (omega arith) (omega arith)) refl

-- the left side's counts are nowhere below the right side's exactly where the rule keeps its variables
pub counts-keep : (r : Rule) {left right : List ℕ} → Counts r.lhs left → Counts r.rhs right →
    list_all (λ p. leb p.0 p.1) (zip right left) ≡ below (keeps_at r) variables
unfolding keeps_at
counts-keep r {left} {right} a b =
    let x = a.total in
    let y = b.total in
    ap (list_all (λ p. leb p.0 p.1)) (sym (take_all variables (zip right left) (let z = length-zip right left in omega arith)))
    ∙ pairs right left variables (omega arith) (omega arith) ∙ below-same _ _ variables (λ v l. rw (a.each v l, b.each v l))
