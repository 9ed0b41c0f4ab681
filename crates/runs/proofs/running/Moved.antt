-- A state whose gap was moved: where the term and the words behind the rows stay, the state does, wherever the gap is now.
use Prim.Native.Nat.{ℕ}
use mathlib.Core.Path.{◌≡◌, sym, ap, ◌∙◌, subst}
use mathlib.Core.List.{List}
use lib.ListN.{length, get_or, take}
use lib.Seq.{get_or-drop}
use Rattle.system.specs.System.{System}
use Rattle.rows.specs.declared.gap.Gap.{Gap}
use Rattle.rows.specs.Rows.{counts_at, term_in}
use Rattle.reducts.specs.putting.Replaced.{Kept}
use Rattle.machine.specs.advance.Area.{outer_in, count_in, Valid, Positioned, Tracks}

pub tracks-kept : {s : System} {ws frame : List ℕ} {gap : Gap} {base level : ℕ} {gap' : Gap} {ws' : List ℕ} → Tracks s ws frame gap base level →
    Kept s.arities ws (term_in ws gap) gap' ws' → Tracks s ws' frame gap' base level
tracks-kept {s} {ws} {frame} {gap} {base} {level} {gap'} {ws'} h k =
    let eo : outer_in ws level ≡ outer_in ws' level = sym (ap (take level) k.counts) in
    let ec : count_in ws level ≡ count_in ws' level = sym (sym (get_or-drop counts_at ws' level 0) ∙ ap (λ y. get_or y level 0) k.counts ∙ get_or-drop counts_at ws level 0) in
    let et : term_in ws gap ≡ term_in ws' gap' = sym k.term in
    record {
      represents = record {
        total = k.total;
        measured = k.measured;
        valid = subst (λ y. Valid s y base (outer_in ws' level) (count_in ws' level)) et
            (subst (λ y. Valid s (term_in ws gap) base y (count_in ws' level)) eo (subst (λ y. Valid s (term_in ws gap) base (outer_in ws level) y) ec h.represents.valid));
        levels = ap length (sym eo) ∙ h.represents.levels;
      };
      slots = h.slots;
      positioned = subst (λ y. Positioned s y base (outer_in ws' level) frame) et (subst (λ y. Positioned s (term_in ws gap) base y frame) eo h.positioned);
    }
