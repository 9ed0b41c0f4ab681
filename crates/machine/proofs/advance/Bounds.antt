-- An area that holds a state: where its innermost level starts, and the bounds that the code's indices need.
use Prim.Native.Nat.{ℕ, ◌+◌, ◌≤◌, ◌<◌}
use native.Mathlib.Omega.{arith}
use mathlib.Core.Path.{◌≡◌, ap, ◌∙◌}
use mathlib.Core.List.{List}
use lib.ListN.{length, get_or}
use lib.Seq.{take_all}
use Rattle.system.specs.Limits.{area_words, term_words}
use Rattle.reader.specs.declared.Shape.{Shape}
use Rattle.system.specs.System.{System}
use Rattle.reader.specs.Book.{system_of, Accepted}
use Rattle.layout.proofs.Books.{well}
use Rattle.rewriting.specs.Machine.{position}
use Rattle.rewriting.proofs.OpenLevels.{opened-room}
use Rattle.rows.proofs.lengths.Measures.{words-length}
use Rattle.rows.specs.declared.gap.Gap.{Gap}
use Rattle.rows.specs.Rows.{term_in, Gapped}
use Rattle.rows.specs.gap.Gaps.{words_in}
use Rattle.machine.specs.advance.Area.{outer_in, count_in, Valid, frame_words, Tracks}
use Rattle.machine.proofs.advance.States.{valid-within}

pub record Bounds (ws positions : List ℕ) (gap : Gap) (base level : ℕ) : Type 0 where
  pub total : length ws ≡ area_words
  pub slots : length positions ≡ frame_words
  pub gapped : Gapped ws gap
  pub shallow : level < 64
  pub within : get_or positions level 0 < words_in gap
  pub small : words_in gap ≤ term_words
  -- so that one more fits a word
  pub few : count_in ws level ≤ 16
  -- the count is none of the last words
  pub apart : base + level < term_words

module _ (b : List ℕ) (sh : Shape) (acc : Accepted b sh) (ws positions : List ℕ) (gap : Gap) (base level : ℕ) (v : Tracks (system_of b) ws positions gap base level) where
  abbrev s : System
  s = system_of b

  abbrev t : List ℕ
  t = term_in ws gap

  abbrev outer : List ℕ
  outer = outer_in ws level

  abbrev c : ℕ
  c = count_in ws level

  valid : Valid s t base outer c
  valid = v.represents.valid

  levels : length outer ≡ level
  levels = v.represents.levels

  -- the innermost level starts where its slot says
  pub spot : get_or positions level 0 ≡ position s t outer base
  spot = v.positioned level (omega (arith, levels)) ∙ ap (λ y. position s t y base) (take_all level outer (omega (arith, levels)))

  words : length t ≡ words_in gap
  words = words-length v.represents.measured.gapped

  pub bounds : Bounds ws positions gap base level
  bounds =
      let room : level < 64 = (let z = valid.room in omega (arith, levels)) in
      record {
        total = v.represents.total;
        slots = v.slots;
        gapped = v.represents.measured.gapped;
        small = (let z = valid.bounded in omega (arith, words));
        shallow = room;
        within = (let z = valid-within s (well b sh acc) t base outer c valid in omega (arith, spot, words));
        few = (let z = (well b sh acc).strategy_bound (get_or t (position s t outer base) 0) in let y = valid.begun in omega arith);
        apart = (
            let z = valid-within s (well b sh acc) t base outer c valid in
            let y = opened-room s t valid.opened in
            let x = valid.bounded in omega (arith, levels)
            );
      }
