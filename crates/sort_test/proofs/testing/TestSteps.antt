-- The sort test in the code's terms: its list, the term, and an accepted book.
use Prim.Native.Nat.{ℕ, zero, suc, ◌*◌, ◌≤◌, ◌<◌}
use native.Mathlib.Omega.{arith}
use mathlib.Core.Path.{◌≡◌, refl, sym, ap, ◌∙◌}
use mathlib.Core.Bool.{Bool, true, false, ◌&&◌}
use mathlib.Core.Option.{none, some}
use mathlib.Core.List.{List, [], ◌∷◌}
use lib.ListN.{length, get_or}
use lib.Dec.{leb}
use Rattle.std.specs.List.{list_all}
use Rattle.reader.specs.declared.Shape.{Shape}
use Rattle.system.specs.Limits.{variable, term_words, max_sort}
use Rattle.system.specs.declared.numbers.Verdict.TheVariants.{Broken, IllRule}
use Rattle.system.specs.Signature.{Signature, signature_of}
use Rattle.system.specs.System.{System}
use Rattle.system.specs.Terms.{Whole, WellFormed}
use Rattle.system.specs.TermCheck.{term_fault}
use Rattle.reader.specs.Book.{system_of, Accepted}
use Rattle.system.proofs.Signatures.{arity-listed, few-symbols}
use Rattle.system.proofs.TermChecks.{fault-whole}
use Rattle.layout.proofs.Books.{signature, well}
use Rattle.sorts.specs.Sorts.{Sorts, offset, entries}
use Rattle.sorts.specs.SortCheck.{sorted_term}
use Rattle.sort_test.specs.SortTest.{all_small, lists, answer_with, missorted_answer, sorted_answer, term_test, first_ill, rule_test, sorts_answer}
use Rattle.sorts.specs.sides.Ran.{Narrow}
use Rattle.sorts.proofs.Unlisted.{offset-past}
use Rattle.sort_test.proofs.Tests.{sorts-missorted, sorts-listed}

-- ---- the numbers of the list

-- the test of them as the library's test of a list
pub all_small_is : (ks : Sorts) → list_all (λ k. leb k max_sort) ks ≡ all_small ks
unfolding all_small
all_small_is [] = refl
all_small_is (k ∷ ks) = ap (λ b. leb k max_sort && b) (all_small_is ks)

-- behind the last symbol is the list's end
pub entries_at : (g : Signature) → length g ≤ variable → offset g 65535 ≡ entries g
entries_at g few = offset-past g 65535 (omega arith)

-- ---- the signature of an accepted book has small numbers

offset-bound : (g : Signature) → ((i : ℕ) → i < length g → get_or g i 0 ≤ 8) → (w : ℕ) → offset g w ≤ 9 * length g
unfolding offset
offset-bound [] h w = omega arith
offset-bound (a ∷ g) h zero = omega arith
offset-bound (a ∷ g) h (suc w) = let z = offset-bound g (λ i l. h (suc i) (omega arith)) w in let z' = h 0 (omega arith) in omega arith

narrow-well : (s : System) → WellFormed s → Narrow s.arities
narrow-well s wf = record {
  few = few-symbols s wf;
  indices = (let z = offset-bound s.arities (λ i l. let y = wf.arity_bound i in let y' = arity-listed s.arities i l in omega arith) (length s.arities) in
      let z' = wf.symbol_bound in omega arith);
  arities = λ w. (let z = wf.arity_bound w in omega arith);
}

pub narrow-book : {b : List ℕ} {sh : Shape} → Accepted b sh → Narrow (signature_of b)
narrow-book {b} {sh} acc = rw (signature b sh acc) at (narrow-well (system_of b) (well b sh acc))

-- ---- the term, by which word breaks it

module _ (g : Signature) (ks : Sorts) (t : List ℕ) where
  pub term-breaks : {i : ℕ} → term_fault g 1 t 0 ≡ some i → answer_with Broken i ≡ term_test g ks t
  unfolding term_test
  term-breaks e = sym (rw (e, term_test))

  module _ (whole : term_fault g 1 t 0 ≡ none) where
    pub term-whole : Whole g t × (length t ≤ term_words)
    term-whole = fault-whole g t whole

    pub term-tested : {b : Bool} → b ≡ sorted_term g ks t → {c : Bool} → b ≡ c → sorted_answer c ≡ term_test g ks t
    unfolding term_test
    term-tested q z = sym (rw (whole, term_test) (ap sorted_answer (sym q ∙ z)))

-- ---- of an accepted book

module _ {b : List ℕ} {sh : Shape} (acc : Accepted b sh) (t : List ℕ) (ks : Sorts) {x : Bool} (found : x ≡ lists ks (signature_of b)) where
  is-listed : {y : Bool} → x ≡ y → lists ks (system_of b).arities ≡ y
  is-listed q = ap (lists ks) (signature b sh acc) ∙ sym found ∙ q

  pub book-unlisted : x ≡ false → missorted_answer ≡ sorts_answer b t ks
  book-unlisted q = sym (sorts-missorted b t ks acc.accepted (is-listed q))

  module _ (q : x ≡ true) where
    pub listed-ill : {k : ℕ} → first_ill ks (system_of b) ≡ some k → answer_with IllRule k ≡ sorts_answer b t ks
    listed-ill e = sym (sorts-listed b t ks acc.accepted (is-listed q) ∙ ap (rule_test (system_of b) ks t) e)

    pub listed-term : first_ill ks (system_of b) ≡ none → term_test (signature_of b) ks t ≡ sorts_answer b t ks
    listed-term e =
        ap (λ g. term_test g ks t) (sym (signature b sh acc)) ∙ sym (sorts-listed b t ks acc.accepted (is-listed q) ∙ ap (rule_test (system_of b) ks t) e)
