-- What is not written over where words are written right before a gap: a stretch before them, and one behind them, in the gap too.
use Prim.Native.Nat.{ℕ, ◌+◌, ◌-◌, ◌≤◌}
use native.Mathlib.Omega.{arith}
use mathlib.Core.Path.{◌≡◌, sym, ap, ◌∙◌, subst}
use mathlib.Core.Logic.{inl, inr}
use mathlib.Core.List.{List}
use lib.ListN.{length, take, drop}
use lib.Seq.{drop-drop}
use Rattle.buffers.specs.moves.Parts.{part}
use Rattle.buffers.proofs.Over.{length_part}
use Rattle.system.specs.Limits.{term_words}
use Rattle.system.specs.Signature.{Signature}
use Rattle.system.specs.Terms.{Whole}
use Rattle.rows.specs.declared.gap.Gap.{Gap}
use Rattle.rows.specs.Rows.{word_row, length_row, Gapped}
use Rattle.system.specs.Spans.{spans}
use Rattle.rows.specs.lengths.Written.{Written, Copyable}
use Rattle.rows.proofs.gap.Rows.{part-take, word-row-part, length-row-part}
use Rattle.sides.specs.writing.Reduct.{Unwritten}

-- ---- a part of a list, where the list's front or its rest is the same

part-front : (k : ℕ) (a b : List ℕ) → take k a ≡ take k b → (from n : ℕ) → from + n ≤ k → part from n a ≡ part from n b
part-front k a b e from n h = sym (part-take k a from n h) ∙ ap (part from n) e ∙ part-take k b from n h

part-rest : (k : ℕ) (a b : List ℕ) → drop k a ≡ drop k b → (from n : ℕ) → k ≤ from → part from n a ≡ part from n b
part-rest k a b e from n h =
    let i : k + (from - k) ≡ from = omega arith in
    let read : (l : List ℕ) → part (from - k) n (drop k l) ≡ part from n l = λ l. ap (take n) (drop-drop (from - k) k l ∙ ap (λ i. drop i l) i) in
    sym (read a) ∙ ap (part (from - k) n) e ∙ read b

-- ---- in an area

module _ {g : Signature} {ws ws' : List ℕ} {gap : Gap} {b b' : ℕ} {new : List ℕ} (h : Gapped ws gap) (v : Written g ws gap b ws' b' new) (from n : ℕ) where
  abbrev SameWords : Type 0
  SameWords = part from n ws' ≡ part from n ws

  abbrev SameLengths : Type 0
  SameLengths = part (term_words + from) n ws' ≡ part (term_words + from) n ws

  words_row : from + n ≤ term_words → part from n (word_row ws') ≡ part from n (word_row ws) → SameWords
  words_row h e = sym (word-row-part ws' from n h) ∙ e ∙ word-row-part ws from n h

  lengths-row : from + n ≤ term_words → part from n (length_row ws') ≡ part from n (length_row ws) → SameLengths
  lengths-row h e = sym (length-row-part ws' from n h) ∙ e ∙ length-row-part ws from n h

  pub before-within : from + n ≤ b' → from + n ≤ term_words
  before-within k = let z = h.lies.high in let y = h.lies.low in let x = v.onward.before in omega arith

  pub kept-before : from + n ≤ b' → SameWords
  kept-before h = words_row (before-within h) (part-front b' (word_row ws') (word_row ws) v.front from n h)

  pub kept-before-lengths : from + n ≤ b' → SameLengths
  kept-before-lengths h = lengths-row (before-within h) (part-front b' (length_row ws') (length_row ws) v.front-lengths from n h)

  pub kept-behind : b ≤ from → from + n ≤ term_words → SameWords
  kept-behind l h = words_row h (part-rest b (word_row ws') (word_row ws) v.behind from n l)

  pub kept-behind-lengths : b ≤ from → from + n ≤ term_words → SameLengths
  kept-behind-lengths l h = lengths-row h (part-rest b (length_row ws') (length_row ws) v.behind-lengths from n l)

  -- ---- a stretch that is to stay while no word before `low` is written

  module _ (low : ℕ) (down : low ≤ b') (s : Unwritten g ws low b from n) where
    pub unwritten-within : from + n ≤ term_words
    unwritten-within = elim s.apart [ inl h ↦ before-within (omega arith) | inr h ↦ h.1 ]

    pub unwritten-words : SameWords
    unwritten-words = elim s.apart [ inl h ↦ kept-before (omega arith) | inr h ↦ kept-behind h.0 h.1 ]

    unwritten-lengths : SameLengths
    unwritten-lengths = elim s.apart [ inl h ↦ kept-before-lengths (omega arith) | inr h ↦ kept-behind-lengths h.0 h.1 ]

    pub unwritten-copyable : Copyable g ws' gap b' from n
    unwritten-copyable = record {
      onward = v.onward;
      whole = subst (Whole g) (sym unwritten-words) s.whole;
      lengths = unwritten-lengths ∙ s.lengths ∙ ap (spans g) (sym unwritten-words);
    }

    pub unwritten-length : length (part from n ws') ≡ n
    unwritten-length = length_part from n ws' (let z = unwritten-within in let x = h.room in let y = v.total in omega arith)
