-- What an area and its finger tell, and the finger moved one down and one up.
use Prim.Native.Nat.{ℕ, suc, ◌+◌, ◌-◌, ◌≤◌, ◌<◌}
use native.Mathlib.Omega.{arith}
use native.Mathlib.Numerals.{add-one}
use mathlib.Core.Path.{◌≡◌, sym, ap, ◌∙◌, subst₂}
use mathlib.Core.List.{List, [], ◌∷◌, ◌++◌}
use lib.ListN.{length, get_or, take, drop, set, length-append, length-drop, length-set}
use lib.Seq.{length-take-le, take-take, take-set-le, take-suc-set, drop-set-add, get_or-take, get_or-drop}
use Rattle.system.specs.Limits.{area_words, term_words}
use Rattle.system.specs.Signature.{argument}
use Rattle.system.specs.System.{System, strategy}
use Rattle.system.specs.Terms.{Member, WellFormed}
use Rattle.rows.specs.Rows.{counts_at, term_in, Gapped}
use Rattle.rows.specs.gap.Gaps.{words_in}
use Rattle.rows.proofs.lengths.Measures.{words-length, measured-counts, term-counts}
use Rattle.rewriting.specs.Ways.{Way, down}
use Rattle.rewriting.proofs.Contractions.{active-within}
use Rattle.rewriting.proofs.Ways.{way-active, way-room, way-take}
use Rattle.walks.specs.declared.walk.Finger.{Finger}
use Rattle.walks.specs.walk.Way.{way_in, Points}

-- the bounds that the code's indices need
pub record Bounds (ws : List ℕ) (f : Finger) : Type 0 where
  pub total : length ws ≡ area_words
  pub gapped : Gapped ws f.gap
  pub words : length (term_in ws f.gap) ≡ words_in f.gap
  pub small : words_in f.gap ≤ term_words
  pub within : f.at < words_in f.gap
  pub room : f.level ≤ f.at

-- the words behind the rows
third : (ws : List ℕ) → length ws ≡ area_words → length (drop counts_at ws) ≡ term_words
third ws e = length-drop counts_at ws ∙ omega arith

-- one position more on a way
way-pushed : (ws : List ℕ) (level p : ℕ) → length ws ≡ area_words → level < term_words → way_in (set ws (counts_at + level) p) (level + 1) ≡ way_in ws level ++ p ∷ []
way-pushed ws level p e l =
    ap (λ k. take k (drop counts_at (set ws (counts_at + level) p))) (add-one level)
    ∙ ap (take (suc level)) (drop-set-add counts_at ws level p)
    ∙ take-suc-set (drop counts_at ws) level p (omega (arith, third ws e))

pub points-words : {s : System} {t ws : List ℕ} {f : Finger} → Points s t ws f → length t ≡ words_in f.gap
points-words v = ap length (sym v.term) ∙ words-length v.measured.gapped

module _ (s : System) (wf : WellFormed s) {t ws : List ℕ} {f : Finger} (v : Points s t ws f) where
  pub points-bounds : Bounds ws f
  points-bounds =
      let l = active-within s wf v.whole (way-active v.way) in
      let g = v.measured.gapped in
      record {
        total = v.total;
        gapped = g;
        words = words-length g;
        small = omega (arith, g.lies.low, g.lies.high);
        within = omega (arith, points-words v);
        room = omega (arith, v.levels, way-room v.way);
      }

  -- down to an argument that stands in the strategy
  pub points-down : (i a : ℕ) → Member (suc i) (strategy s (get_or t f.at 0)) → a ≡ argument s.arities t f.at i →
      Points s t (set ws (counts_at + f.level) f.at) (record { gap = f.gap; level = f.level + 1; at = a })
  points-down i a m e =
      let b = points-bounds in
      let ws' = set ws (counts_at + f.level) f.at in
      let n : length ws' ≡ length ws = length-set ws (counts_at + f.level) f.at in
      let same : take counts_at ws' ≡ take counts_at ws = take-set-le counts_at ws (counts_at + f.level) f.at (omega arith) in
      let w = way-pushed ws f.level f.at v.total (omega arith) in
      record {
        total = n ∙ v.total;
        measured = measured-counts ws ws' same n v.measured;
        term = term-counts ws ws' same f.gap ∙ v.term;
        whole = v.whole;
        levels = ap length w ∙ length-append (way_in ws f.level) (f.at ∷ []) ∙ omega (arith, v.levels);
        way = subst₂ (Way s t) (sym w) (sym e) (down i v.way m);
      }

  -- up to the position before it, which is read from the area
  pub points-up : 0 < f.level → (p : ℕ) → p ≡ get_or ws (counts_at + (f.level - 1)) 0 → Points s t ws (record { gap = f.gap; level = f.level - 1; at = p })
  points-up some p read =
      let b = points-bounds in
      let k = f.level - 1 in
      let ps = way_in ws f.level in
      let front : take k ps ≡ way_in ws k = take-take k f.level (drop counts_at ws) (omega arith) in
      let last : get_or ps k 0 ≡ p = get_or-take f.level (drop counts_at ws) k 0 (omega arith) ∙ get_or-drop counts_at ws k 0 ∙ sym read in
      record {
        total = v.total;
        measured = v.measured;
        term = v.term;
        whole = v.whole;
        levels = length-take-le k (drop counts_at ws) (omega (arith, third ws v.total));
        way = subst₂ (Way s t) front last (way-take v.way k (omega (arith, v.levels)));
      }
