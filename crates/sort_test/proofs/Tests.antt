-- What the answer of the sort test tells: 0 exactly where all rules pass and the term is well-sorted; 20, 21, 9 and 22 exactly as 02 says.
use Prim.Native.Nat.{ℕ, ◌≤◌, ◌<◌}
use native.Mathlib.Omega.{arith}
use mathlib.Core.Path.{◌≡◌, refl, ap, ◌∙◌, subst}
use mathlib.Core.Logic.{◌⊎◌, inl, inr}
use mathlib.Core.Bool.{Bool, true, false}
use mathlib.Core.Option.{Option, none, some}
use mathlib.Core.List.{List}
use lib.ListN.{length}
use Rattle.system.specs.declared.Answer.{Answer}
use Rattle.system.specs.Limits.{variable}
use Rattle.system.specs.declared.numbers.Fault.{Fault}
use Rattle.system.specs.declared.numbers.Verdict.TheVariants.{Broken, IllRule}
use Rattle.system.specs.Signature.{Signature}
use Rattle.system.specs.System.{System, Rule, rule}
use Rattle.system.specs.Rules.{RuleOf, listed, built_in}
use Rattle.system.specs.Terms.{WellFormed}
use Rattle.system.specs.TermCheck.{term_fault}
use Rattle.reader.specs.Parser.{Parsed, ok, fault, read}
use Rattle.reader.specs.Answers.{answer_of}
use Rattle.reader.specs.Book.{system_of}
use Rattle.system.proofs.BuiltIns.{refuted, clash}
use Rattle.system.proofs.Signatures.{few-symbols, few-listed}
use Rattle.system.proofs.FaultNumbers.{fault-range, fault-not-zero}
use Rattle.system.proofs.TermChecks.{fault-whole, whole-fault}
use Rattle.reader.proofs.Accepts.{accepts}
use Rattle.layout.proofs.Accepting.{reads-system}
use Rattle.system.proofs.FirstFailing.{none-all, all_none, some-lowest, lowest-some}
use Rattle.sorts.specs.Sorts.{Sorts, SortedRule, WellSorted, IllFirst, Lists}
use Rattle.sorts.specs.SortCheck.{sorted_rule, sorted_term}
use Rattle.sort_test.specs.SortTest.{lists, answer_with, missorted_answer, sorted_answer, term_test, first_ill, rule_test, system_test, sorts_answer, PassedSorts}
use Rattle.sort_test.specs.Tells.{MissortedBook, IllBook, SortedBook, WellSortedTerm, IllTerm, TellsSorts}
use Rattle.sorts.proofs.Builtins.{builtin-sorted, all-sorted}
use Rattle.sorts.proofs.Decides.{rule-sound, rule-complete, term-sound, term-complete}
use Rattle.sort_test.proofs.ListTest.{lists-sound, lists-complete}

-- ---- of a system

module _ (ks : Sorts) (s : System) (wf : WellFormed s) (fit : Lists ks s.arities) where
  few : length s.arities ≤ variable
  few = few-symbols s wf

  sound : (k : ℕ) → k < length s.rules → sorted_rule s.arities ks (rule s k) ≡ true → SortedRule s.arities ks (rule s k)
  sound k l = rule-sound s.arities few ks fit (rule s k) (wf.well_formed_rules k l)

  complete : (k : ℕ) → k < length s.rules → SortedRule s.arities ks (rule s k) → sorted_rule s.arities ks (rule s k) ≡ true
  complete k l = rule-complete s.arities few ks fit (rule s k) (wf.well_formed_rules k l)

  abbrev tests : ℕ → Bool
  tests k = sorted_rule s.arities ks (rule s k)

  -- all pass exactly if none is found that does not
  none-sorted : first_ill ks s ≡ none → WellSorted ks s
  none-sorted e = all-sorted s wf ks fit (λ k l. sound k l (none-all tests 0 (length s.rules) e k (omega arith) (omega arith)))

  sorted_none : WellSorted ks s → first_ill ks s ≡ none
  sorted_none h = all_none tests 0 (length s.rules) (λ k l b. let z : k < length s.rules = omega arith in complete k z (h k (rule s k) (listed z)))

  -- k is found exactly if it is the lowest that does not
  some-ill : {k : ℕ} → first_ill ks s ≡ some k → IllFirst ks s k
  some-ill {k} e =
      let h = some-lowest tests 0 (length s.rules) e in
      let l : k < length s.rules = (let z = h.inside in omega arith) in
      record {
        known = l;
        ill = λ f. clash (complete k l f) h.fails;
        lower = λ j r d b. go d b (λ a. h.lower j (omega arith) a);
      }
    where
      go : {j : ℕ} {r : Rule} → RuleOf s j r → j < k → (j < k → tests j ≡ true) → SortedRule s.arities ks r
      go (listed {k = j} l) b f = sound j l (f b)
      go (built_in d) b f = builtin-sorted s.arities (few-listed s wf) ks fit d

  ill-some : {k : ℕ} → IllFirst ks s k → first_ill ks s ≡ some k
  ill-some {k} h =
      let l = h.known in
      lowest-some tests 0 (length s.rules) (record {
        least = omega arith;
        inside = omega arith;
        fails = refuted (tests k) (λ e. h.ill (sound k l e));
        lower = λ j a b. let z : j < length s.rules = omega arith in complete j z (h.lower j (rule s j) (listed z) b);
      })

-- ---- of a book

module _ (b t : List ℕ) (ks : Sorts) where
  -- a book that the reader refuses gets the reader's answer
  pub sorts-refused : {f : Fault} {i : ℕ} → read b ≡ fault f i → sorts_answer b t ks ≡ answer_of (fault f i)
  unfolding sorts_answer
  sorts-refused e = rw (e, sorts_answer)

  module _ {s : System} {i : ℕ} (e : read b ≡ ok s i) where
    pub sorts-missorted : lists ks s.arities ≡ false → sorts_answer b t ks ≡ missorted_answer
    unfolding sorts_answer system_test
    sorts-missorted q = rw (e, sorts_answer, q, system_test)

    pub sorts-listed : lists ks s.arities ≡ true → sorts_answer b t ks ≡ rule_test s ks t (first_ill ks s)
    unfolding sorts_answer system_test
    sorts-listed q = rw (e, sorts_answer, q, system_test)

  -- the ways that the test ends
  data Ends : Answer → Type 0 where
    refused : (f : Fault) (i : ℕ) → Ends (answer_of (fault f i))
    other : MissortedBook b ks → Ends missorted_answer
    failed : (k : ℕ) → IllBook b ks k → Ends (answer_with IllRule k)
    broke : (i : ℕ) → SortedBook b ks → term_fault (system_of b).arities 1 t 0 ≡ some i → Ends (answer_with Broken i)
    unsorted : SortedBook b ks → IllTerm b t ks → Ends (sorted_answer false)
    passed : SortedBook b ks → WellSortedTerm b t ks → Ends (sorted_answer true)

  module _ (a : read b ≡ ok (system_of b) (length b)) where
    abbrev g : Signature
    g = (system_of b).arities

    wf : WellFormed (system_of b)
    wf = ((accepts b (system_of b)).0 a).0

    module _ (fit : Lists ks g) where
      whole-ends : SortedBook b ks → term_fault g 1 t 0 ≡ none → (o : Bool) → sorted_term g ks t ≡ o → Ends (sorted_answer o)
      whole-ends h q true e =
          let w = fault-whole g t q in
          passed h (record { whole = w.0; bounded = w.1; sorted = term-sound g (few-symbols (system_of b) wf) ks fit t w.0 e })
      whole-ends h q false e =
          let w = fault-whole g t q in
          unsorted h (record { whole = w.0; bounded = w.1; ill = λ k z. clash (term-complete g (few-symbols (system_of b) wf) ks fit t w.0 k z) e })

      term-ends : SortedBook b ks → (o : Option ℕ) → term_fault g 1 t 0 ≡ o → Ends (term_test g ks t)
      unfolding term_test
      term-ends h (some i) q = rw (q, term_test) (broke i h q)
      term-ends h none q = rw (q, term_test) (whole-ends h q (sorted_term g ks t) refl)

      rule-ends : (o : Option ℕ) → first_ill ks (system_of b) ≡ o → Ends (rule_test (system_of b) ks t o)
      rule-ends (some k) e = failed k (record { accepted = a; lists = fit; first = some-ill ks (system_of b) wf fit e })
      rule-ends none e = term-ends (record { accepted = a; lists = fit; rules = none-sorted ks (system_of b) wf fit e }) (term_fault g 1 t 0) refl

    accepted-ends : (o : Bool) → lists ks g ≡ o → Ends (sorts_answer b t ks)
    accepted-ends true e = rw (sorts-listed a e) (rule-ends (lists-sound ks g e) (first_ill ks (system_of b)) refl)
    accepted-ends false e = rw (sorts-missorted a e) (other (record { accepted = a; missorted = λ h. clash (lists-complete ks g h) e }))

  ends : Ends (sorts_answer b t ks)
  ends = go (read b) refl
    where
      go : (o : Parsed System) → read b ≡ o → Ends (sorts_answer b t ks)
      go (fault f i) e = rw (sorts-refused e) (refused f i)
      go (ok s i) e = accepted-ends (reads-system b e) (lists ks (system_of b).arities) refl

  -- no fault of a book has the number 9, or one from 18 on
  other-number : (f : Fault) (n : ℕ) → (n ≡ 9) ⊎ (18 ≤ n) → (answer_of (fault f 0)).number ≡ n → ⊥
  other-number f n (inl l) e = elim (fault-range f) [ inl z ↦ (let h = z.1 in omega arith) | inr z ↦ (omega arith) ]
  other-number f n (inr l) e = elim (fault-range f) [ inl z ↦ (let h = z.1 in omega arith) | inr z ↦ (omega arith) ]

  -- ---- what each number tells, and who gets it

  pub missorted-book : sorts_answer b t ks ≡ missorted_answer → MissortedBook b ks
  missorted-book e = go ends (ap (λ r. r.number) e)
    where
      go : {r : Answer} → Ends r → r.number ≡ 20 → MissortedBook b ks
      go (refused f i) z = absurd (other-number f 20 (inr (omega arith)) z)
      go (other h) z = h
      go (failed k h) z = absurd (omega arith)
      go (broke i h q) z = absurd (omega arith)
      go (unsorted h q) z = absurd (omega arith)
      go (passed h q) z = absurd (omega arith)

  pub book-missorted : MissortedBook b ks → sorts_answer b t ks ≡ missorted_answer
  book-missorted h =
      sorts-missorted h.accepted (refuted (lists ks (system_of b).arities) (λ e. h.missorted (lists-sound ks (system_of b).arities e)))

  pub ill-book : (k : ℕ) → sorts_answer b t ks ≡ answer_with IllRule k → IllBook b ks k
  ill-book k e = subst (IllBook b ks) (ap (λ r. r.place) e) (go ends (ap (λ r. r.number) e))
    where
      go : {r : Answer} → Ends r → r.number ≡ 21 → IllBook b ks r.place
      go (refused f i) z = absurd (other-number f 21 (inr (omega arith)) z)
      go (other h) z = absurd (omega arith)
      go (failed k h) z = h
      go (broke i h q) z = absurd (omega arith)
      go (unsorted h q) z = absurd (omega arith)
      go (passed h q) z = absurd (omega arith)

  module _ (a : read b ≡ ok (system_of b) (length b)) (fit : Lists ks (system_of b).arities) where
    listed-test : sorts_answer b t ks ≡ rule_test (system_of b) ks t (first_ill ks (system_of b))
    listed-test = sorts-listed a (lists-complete ks (system_of b).arities fit)

  pub book-ill : (k : ℕ) → IllBook b ks k → sorts_answer b t ks ≡ answer_with IllRule k
  book-ill k h =
      listed-test h.accepted h.lists ∙ ap (rule_test (system_of b) ks t) (ill-some ks (system_of b) (wf h.accepted) h.lists h.first)

  -- where all rules pass, the term is tested
  pub book-sorted : SortedBook b ks → sorts_answer b t ks ≡ term_test (system_of b).arities ks t
  book-sorted h =
      listed-test h.accepted h.lists ∙ ap (rule_test (system_of b) ks t) (sorted_none ks (system_of b) (wf h.accepted) h.lists h.rules)

  term-broken : (i : ℕ) → term_fault (system_of b).arities 1 t 0 ≡ some i → term_test (system_of b).arities ks t ≡ answer_with Broken i
  unfolding term_test
  term-broken i q = rw (q, term_test)

  term-whole : term_fault (system_of b).arities 1 t 0 ≡ none → term_test (system_of b).arities ks t ≡ sorted_answer (sorted_term (system_of b).arities ks t)
  unfolding term_test
  term-whole q = rw (q, term_test)

  pub broken-term : (i : ℕ) → sorts_answer b t ks ≡ answer_with Broken i → SortedBook b ks × (term_fault (system_of b).arities 1 t 0 ≡ some i)
  broken-term i e =
      subst (λ p. SortedBook b ks × (term_fault (system_of b).arities 1 t 0 ≡ some p)) (ap (λ r. r.place) e) (go ends (ap (λ r. r.number) e))
    where
      go : {r : Answer} → Ends r → r.number ≡ 9 → SortedBook b ks × (term_fault (system_of b).arities 1 t 0 ≡ some r.place)
      go (refused f i) z = absurd (other-number f 9 (inl refl) z)
      go (other h) z = absurd (omega arith)
      go (failed k h) z = absurd (omega arith)
      go (broke i h q) z = (h, q)
      go (unsorted h q) z = absurd (omega arith)
      go (passed h q) z = absurd (omega arith)

  pub ill-term : sorts_answer b t ks ≡ sorted_answer false → SortedBook b ks × IllTerm b t ks
  ill-term e = go ends (ap (λ r. r.number) e)
    where
      go : {r : Answer} → Ends r → r.number ≡ 22 → SortedBook b ks × IllTerm b t ks
      go (refused f i) z = absurd (other-number f 22 (inr (omega arith)) z)
      go (other h) z = absurd (omega arith)
      go (failed k h) z = absurd (omega arith)
      go (broke i h q) z = absurd (omega arith)
      go (unsorted h q) z = (h, q)
      go (passed h q) z = absurd (omega arith)

  pub passed-sorts : PassedSorts b t ks → SortedBook b ks × WellSortedTerm b t ks
  passed-sorts z = go ends z
    where
      go : {r : Answer} → Ends r → r.number ≡ 0 → SortedBook b ks × WellSortedTerm b t ks
      go (refused f i) z = absurd (fault-not-zero f z)
      go (other h) z = absurd (omega arith)
      go (failed k h) z = absurd (omega arith)
      go (broke i h q) z = absurd (omega arith)
      go (unsorted h q) z = absurd (omega arith)
      go (passed h q) z = (h, q)

  term-ill : SortedBook b ks → IllTerm b t ks → sorts_answer b t ks ≡ sorted_answer false
  term-ill h q =
      book-sorted h ∙ term-whole (whole-fault (system_of b).arities t q.whole q.bounded)
      ∙ ap sorted_answer (refuted (sorted_term (system_of b).arities ks t)
      (λ e. q.ill _ (term-sound (system_of b).arities (few-symbols (system_of b) (wf h.accepted)) ks h.lists t q.whole e)))

  term-passed : SortedBook b ks → WellSortedTerm b t ks → sorts_answer b t ks ≡ sorted_answer true
  term-passed h q =
      book-sorted h ∙ term-whole (whole-fault (system_of b).arities t q.whole q.bounded)
      ∙ ap sorted_answer (term-complete (system_of b).arities (few-symbols (system_of b) (wf h.accepted)) ks h.lists t q.whole _ q.sorted)

  -- THE SORT TEST: all that its answer tells
  pub sorts-tell : TellsSorts b t ks (sorts_answer b t ks)
  sorts-tell = record {
    refused = λ f i e. sorts-refused e;
    missorted = (missorted-book, book-missorted);
    ill = λ k. (ill-book k, book-ill k);
    breaks = λ i. (broken-term i, λ h. book-sorted h.0 ∙ term-broken i h.1);
    ill_sorted = (ill-term, λ h. term-ill h.0 h.1);
    sorted = (λ e. passed-sorts (ap (λ r. r.number) e), λ h. term-passed h.0 h.1);
  }
