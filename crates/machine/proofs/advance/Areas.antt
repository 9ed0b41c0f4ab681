-- The machine's state in an area of words: what is read from it, and what a store among the counts leaves.
-- Lengths that the code holds in numbers go in by equations.
use Prim.Native.Nat.{ℕ, suc, ◌+◌, ◌-◌, ◌<◌}
use native.Mathlib.Omega.{arith}
use mathlib.Core.Path.{◌≡◌, refl, sym, ap, ◌∙◌, subst}
use mathlib.Core.List.{List, [], ◌∷◌, ◌++◌, append-nil}
use lib.ListN.{length, get_or, take, drop, set, length-append, length-drop, length-set, drop_of_length-le}
use lib.Seq.{length-take-le, take_at, drop_at, take-take, take-set-le, take-suc-set, take-suc, take-append_seam, drop-set-add, drop-set-lt, get_or-take, get_or-drop, get_or_at}
use Rattle.system.specs.Limits.{area_words, levels, term_words}
use Rattle.system.specs.Signature.{Signature}
use Rattle.system.specs.System.{System}
use Rattle.rows.specs.declared.gap.Gap.{Gap}
use Rattle.rows.specs.Rows.{counts_at, term_in}
use Rattle.rows.proofs.lengths.Measures.{measured-counts, term-counts}
use Rattle.rewriting.specs.Machine.{position}
use Rattle.redexes.specs.search.Redexes.{binding_words}
use Rattle.machine.specs.advance.Area.{base_of, outer_in, count_in, last_words, Stands, Valid, Positioned, Represents, frame_words, Tracks}

-- the words behind the rows
third : (ws : List ℕ) → length ws ≡ area_words → length (drop counts_at ws) ≡ term_words
third ws e = length-drop counts_at ws ∙ omega arith

module _ {g : Signature} {ws : List ℕ} {gap : Gap} {t : List ℕ} where
  -- fewer counts
  pub stands-front : (cs ds : List ℕ) → Stands g ws gap t (cs ++ ds) → Stands g ws gap t cs
  stands-front cs ds h = record {
    total = h.total;
    measured = h.measured;
    term = h.term;
    counts = sym (take-take (length cs) (length (cs ++ ds)) (drop counts_at ws) (let z = length-append cs ds in omega arith))
        ∙ ap (take (length cs)) h.counts ∙ take-append_seam cs ds;
  }

  -- another count behind them
  pub stands_set : (cs : List ℕ) (level v : ℕ) → length cs ≡ level → level < term_words → Stands g ws gap t cs →
      Stands g (set ws (counts_at + level) v) gap t (cs ++ v ∷ [])
  stands_set cs level v e l h =
      let same : take counts_at (set ws (counts_at + level) v) ≡ take counts_at ws = take-set-le counts_at ws (counts_at + level) v (omega arith) in
      let n : length (cs ++ v ∷ []) ≡ suc level = length-append cs (v ∷ []) ∙ omega arith in
      record {
        total = length-set ws (counts_at + level) v ∙ h.total;
        measured = measured-counts ws (set ws (counts_at + level) v) same (length-set ws (counts_at + level) v) h.measured;
        term = term-counts ws (set ws (counts_at + level) v) same gap ∙ h.term;
        counts = ap (λ y. take y (drop counts_at (set ws (counts_at + level) v))) n
            ∙ ap (take (suc level)) (drop-set-add counts_at ws level v)
            ∙ take-suc-set (drop counts_at ws) level v (let z = third ws h.total in omega arith)
            ∙ ap (λ y. y ++ v ∷ []) (ap (λ y. take y (drop counts_at ws)) (sym e) ∙ h.counts);
      }

-- and the last words stay
pub last_set : (base : ℕ) (ws : List ℕ) (level v : ℕ) → base + level < term_words → last_words base (set ws (counts_at + level) v) ≡ last_words base ws
last_set base ws level v h =
    ap (drop (term_words - base)) (drop-set-add counts_at ws level v) ∙ drop-set-lt (term_words - base) (drop counts_at ws) level v (omega arith)

-- what the counts of an area are
module _ {g : Signature} {ws : List ℕ} {gap : Gap} {t : List ℕ} (outer : List ℕ) (c : ℕ) {level : ℕ} (is : Stands g ws gap t (outer ++ c ∷ [])) (levels : length outer ≡ level) where
  size : length (outer ++ c ∷ []) ≡ suc level
  size = length-append outer (c ∷ []) ∙ omega (arith, levels)

  pub stands-outer : Stands g ws gap t outer
  stands-outer = stands-front outer (c ∷ []) is

  pub held-outer : outer_in ws level ≡ outer
  held-outer = ap (λ y. take y (drop counts_at ws)) (sym levels) ∙ stands-outer.counts

  pub held-count : count_in ws level ≡ c
  held-count =
      let D = drop counts_at ws in
      let e : take (suc level) D ≡ outer ++ c ∷ [] = ap (λ y. take y D) (sym size) ∙ is.counts in
      sym (get_or-drop counts_at ws level 0) ∙ sym (get_or-front D) ∙ ap (λ y. get_or y level 0) e ∙ get_or_at outer c [] 0 level levels
    where
      get_or-front : (l : List ℕ) → get_or (take (suc level) l) level 0 ≡ get_or l level 0
      get_or-front l = get_or-take (suc level) l level 0 (omega arith)

  -- another count for the innermost level
  pub count_set : (v : ℕ) → level < term_words → Stands g (set ws (counts_at + level) v) gap t (outer ++ v ∷ [])
  count_set v l = stands_set outer level v levels l stands-outer

module _ {s : System} {ws : List ℕ} {gap : Gap} {t : List ℕ} (outer : List ℕ) (c : ℕ) {level : ℕ} (is : Stands s.arities ws gap t (outer ++ c ∷ [])) (levels : length outer ≡ level)
    {base : ℕ} (valid : Valid s t base outer c) where
  pub represents : Represents s ws gap base level
  represents =
      let e₁ = sym is.term in
      let e₂ = sym (held-outer outer c is levels) in
      let e₃ = sym (held-count outer c is levels) in
      record {
        total = is.total;
        measured = is.measured;
        valid = subst (λ y. Valid s y base (outer_in ws level) (count_in ws level)) e₁
            (subst (λ y. Valid s t base y (count_in ws level)) e₂ (subst (λ y. Valid s t base outer y) e₃ valid));
        levels = ap length (held-outer outer c is levels) ∙ levels;
      }

  pub holds : (positions : List ℕ) → length positions ≡ frame_words → Positioned s t base outer positions → Tracks s ws positions gap base level
  holds positions slots at = record {
    represents = represents;
    slots = slots;
    positioned = subst (λ y. Positioned s y base (outer_in ws level) positions) (sym is.term) (subst (λ y. Positioned s t base y positions) (sym (held-outer outer c is levels)) at);
  }

-- an area that holds a state, as it stands
pub stands-state : {s : System} {ws : List ℕ} {gap : Gap} {base level : ℕ} → Represents s ws gap base level →
    Stands s.arities ws gap (term_in ws gap) (outer_in ws level ++ count_in ws level ∷ [])
stands-state {s} {ws} {gap} {base} {level} h =
    let n : length (outer_in ws level ++ count_in ws level ∷ []) ≡ suc level = length-append (outer_in ws level) (count_in ws level ∷ []) ∙ omega (arith, h.levels) in
    let z = h.valid.room in
    record {
      total = h.total;
      measured = h.measured;
      term = refl;
      counts = ap (λ y. take y (drop counts_at ws)) n ∙ take-suc (drop counts_at ws) level 0 (let y = third ws h.total in omega (arith, h.levels))
          ∙ ap (λ y. outer_in ws level ++ y ∷ []) (get_or-drop counts_at ws level 0);
    }

-- the base that it tracks is the frame's first word, so it tracks from there
pub tracks-base : {s : System} {ws frame : List ℕ} {gap : Gap} {base level : ℕ} → Tracks s ws frame gap base level → base_of frame ≡ base
unfolding position
tracks-base h = h.positioned 0 (omega arith)

pub tracks-first : {s : System} {ws frame : List ℕ} {gap : Gap} {base level : ℕ} → Tracks s ws frame gap base level → Tracks s ws frame gap (base_of frame) level
tracks-first {s} {ws} {frame} {gap} {base} {level} h = subst (λ y. Tracks s ws frame gap y level) (sym (tracks-base h)) h

-- ---- a frame whose bindings may have changed: the positions stay

pub record SamePositions (frame frame' : List ℕ) : Type 0 where
  pub size : length frame' ≡ length frame
  pub front : take levels frame' ≡ take levels frame

pub same-positions : (frame : List ℕ) → SamePositions frame frame
same-positions frame = record { size = refl; front = refl }

pub tracks-frame : {s : System} {ws frame : List ℕ} {gap : Gap} {base level : ℕ} {frame' : List ℕ} → Tracks s ws frame gap base level → SamePositions frame frame' →
    Tracks s ws frame' gap base level
tracks-frame {s} {ws} {frame} {gap} {base} {level} {frame'} h e = record {
  represents = h.represents;
  slots = e.size ∙ h.slots;
  positioned = λ k l.
      let m : k < levels = (let z = h.represents.valid.room in omega arith) in
      sym (get_or-take levels frame' k 0 m) ∙ ap (λ y. get_or y k 0) e.front ∙ get_or-take levels frame k 0 m ∙ h.positioned k l;
}

-- other bindings behind the positions
module _ (frame bs : List ℕ) (slots : length frame ≡ frame_words) (many : length bs ≡ binding_words) where
  abbrev pub rebound : List ℕ
  rebound = take levels frame ++ (bs ++ drop (length frame - levels) (drop levels frame))

  front-size : length (take levels frame) ≡ levels
  front-size = length-take-le levels frame (omega arith)

  nothing-behind : drop (length frame - levels) (drop levels frame) ≡ []
  nothing-behind = drop_of_length-le (drop levels frame) {i = length frame - levels} (let z = length-drop levels frame in omega arith)

  is : rebound ≡ take levels frame ++ bs
  is = ap (λ y. take levels frame ++ y) (ap (λ y. bs ++ y) nothing-behind ∙ append-nil bs)

  pub rebound-positions : SamePositions frame rebound
  rebound-positions = record {
    size = ap length is ∙ length-append (take levels frame) bs ∙ omega (arith, front-size);
    front = ap (take levels) is ∙ take_at (take levels frame) bs levels front-size;
  }

  pub rebound-bindings : drop levels rebound ≡ bs
  rebound-bindings = ap (drop levels) is ∙ drop_at (take levels frame) bs levels front-size
