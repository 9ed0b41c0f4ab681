-- What a word of a left side takes of a term in the rows: a variable as many words as the length beside the word there says.
use Prim.Native.Nat.{ℕ, ◌+◌, ◌≤◌, ◌<◌}
use native.Mathlib.Omega.{arith}
use mathlib.Core.Path.{◌≡◌, sym, ap, ◌∙◌}
use mathlib.Core.List.{List}
use lib.ListN.{length, get_or, drop, length-drop}
use lib.Seq.{get_or-drop}
use Rattle.system.specs.Limits.{variable}
use Rattle.system.specs.Signature.{Signature}
use Rattle.rows.specs.declared.gap.Gap.{Gap}
use Rattle.rows.specs.Rows.{term_in, lengths_in}
use Rattle.rows.specs.gap.Gaps.{words_in}
use Rattle.rows.specs.Measured.{Measured}
use Rattle.rows.proofs.lengths.Measures.{words-length, measured-length}
use Rattle.std.specs.Prelude.{Some, None}
use Rattle.system.proofs.words.SpanSteps.{span-some}
use Rattle.matching.specs.Bindings.{consumed}
use Rattle.redexes.specs.search.Redexes.{some_words}
use Rattle.redexes.proofs.search.SomeWords.{some_words-some}
use Rattle.matching.proofs.rules.MatchSteps.{consumed-end, consumed-variable, consumed-differ, consumed-same}

-- a word of the term, in the words from p on
pub word-from : (t : List ℕ) (p i q : ℕ) → q ≡ p + i → {w : ℕ} → w ≡ get_or t q 0 → w ≡ get_or (drop p t) i 0
word-from t p i q z e = e ∙ ap (λ k. get_or t k 0) z ∙ sym (get_or-drop p t i 0)

module _ {g : Signature} {area : List ℕ} {gap : Gap} (m : Measured g area gap) (l q : ℕ) where
  abbrev here : List ℕ
  here = drop q (term_in area gap)

  pub consumes-none : words_in gap ≤ q → None ≡ some_words (consumed g l (drop q (term_in area gap)))
  consumes-none h = ap some_words (sym (consumed-end g l here (let n = length-drop q (term_in area gap) in let k = words-length m.gapped in omega arith)))

  module _ (inside : q < words_in gap) where
    some_here : 0 < length here
    some_here = let n = length-drop q (term_in area gap) in let k = words-length m.gapped in omega arith

    pub consumes-variable : {n : ℕ} → n ≡ get_or (lengths_in area gap) q 0 → variable ≤ l → Some n ≡ some_words (consumed g l (drop q (term_in area gap)))
    consumes-variable e h =
        let is = e ∙ measured-length m q in
        let some = span-some g here some_here in
        some_words-some (is ∙ sym (consumed-variable g l here some_here h)) (λ z. omega arith)

    first : {w : ℕ} → w ≡ get_or (term_in area gap) q 0 → w ≡ get_or here 0 0
    first e = word-from (term_in area gap) q 0 q (omega arith) e

    pub consumes-differ : {w : ℕ} → w ≡ get_or (term_in area gap) q 0 → l < variable → (l ≡ w → ⊥) → None ≡ some_words (consumed g l (drop q (term_in area gap)))
    consumes-differ e low d = ap some_words (sym (consumed-differ g l here some_here low (λ z. d (z ∙ sym (first e)))))

    pub consumes-same : {w : ℕ} → w ≡ get_or (term_in area gap) q 0 → l < variable → l ≡ w → Some 1 ≡ some_words (consumed g l (drop q (term_in area gap)))
    consumes-same e low z = ap some_words (sym (consumed-same g l here some_here low (z ∙ first e)))
