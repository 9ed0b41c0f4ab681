-- What the strategy test's answer tells: 0 exactly for a safe book, 14 at f exactly if f is the lowest-numbered symbol that fails.
use Prim.Native.Nat.{ℕ, ◌<◌}
use native.Mathlib.Omega.{arith}
use mathlib.Core.Path.{◌≡◌, refl, ap, ◌∙◌, subst}
use mathlib.Core.Logic.{inl, inr}
use mathlib.Core.Bool.{true, false}
use mathlib.Core.Option.{Option, none, some}
use mathlib.Core.List.{List}
use lib.ListN.{length}
use Rattle.system.specs.declared.Answer.{Answer}
use Rattle.system.specs.Numbers.{number_of}
use Rattle.system.specs.declared.numbers.Fault.{Fault}
use Rattle.system.specs.declared.numbers.Verdict.TheVariants.{Unsettled}
use Rattle.system.specs.Signature.{Listed}
use Rattle.system.specs.System.{System}
use Rattle.system.specs.Terms.{WellFormed}
use Rattle.reader.specs.Parser.{Parsed, ok, fault, read}
use Rattle.reader.specs.Answers.{answer_of}
use Rattle.reader.proofs.Accepts.{read-sound}
use Rattle.system.proofs.FaultNumbers.{fault-range, fault-not-zero}
use Rattle.system.proofs.BuiltIns.{range-builtin, refuted}
use Rattle.system.proofs.Signatures.{symbol-lt, symbol-cases}
use Rattle.reader.specs.Book.{system_of}
use Rattle.layout.proofs.Accepting.{reads-system}
use Rattle.matching.specs.Safety.{Passes, Safe, FailsFirst, SafeBook, UnsafeBook, Tells}
use Rattle.matching.specs.StrategyTest.{passes, first_unsafe, safety_answer, test_answer, PassedBook}
use Rattle.system.proofs.FirstFailing.{none-all, all_none, some-lowest, lowest-some}
use Rattle.matching.proofs.SafetyTest.{passes-sound, passes-complete, builtin-passes, listed_plain}

-- ---- of a system

module _ (s : System) (wf : WellFormed s) where
  sound : {f : ℕ} → Listed s.arities f → passes s f ≡ true → Passes s f
  sound {f} l = passes-sound s f (listed_plain s wf f l)

  complete : {f : ℕ} → Listed s.arities f → Passes s f → passes s f ≡ true
  complete {f} l = passes-complete s f (listed_plain s wf f l)

  fails-false : {f : ℕ} → Listed s.arities f → (Passes s f → ⊥) → passes s f ≡ false
  fails-false {f} l h = refuted (passes s f) (λ e. h (sound l e))

  -- all pass exactly if none is found that fails
  pub none-safe : first_unsafe s ≡ none → Safe s
  none-safe e f y = elim (symbol-cases s.arities f y) [
    | inl l ↦ sound l (none-all (passes s) 0 (length s.arities) e f (omega arith) (omega arith))
    | inr b ↦ builtin-passes s wf f (range-builtin f b.low b.high)
  ]

  pub safe-none : Safe s → first_unsafe s ≡ none
  safe-none h = all_none (passes s) 0 (length s.arities) (λ f l m. let n : f < length s.arities = omega arith in complete n (h f (symbol-lt s.arities f n)))

  -- what fails is listed
  pub fails-listed : {f : ℕ} → FailsFirst s f → Listed s.arities f
  fails-listed {f} h = elim (symbol-cases s.arities f h.symbol) [ inl l ↦ l | inr b ↦ absurd (h.fails (builtin-passes s wf f (range-builtin f b.low b.high))) ]

  -- f is found exactly if it is the lowest that fails
  pub some_first : {f : ℕ} → first_unsafe s ≡ some f → FailsFirst s f
  some_first {f} e =
      let h = some-lowest (passes s) 0 (length s.arities) e in
      let q = h.fails in
      let m = h.inside in
      let l : f < length s.arities = omega arith in
      record {
        symbol = symbol-lt s.arities f l;
        fails = λ p. let z : ◌≡◌ {A = ℕ} 0 1 = cc (complete l p) in omega arith;
        lower = λ g l. sound (omega arith) (h.lower g (omega arith) l);
      }

  pub first_some : {f : ℕ} → FailsFirst s f → first_unsafe s ≡ some f
  first_some {f} h =
      let l = fails-listed h in
      lowest-some (passes s) 0 (length s.arities) (record {
        least = omega arith;
        inside = omega arith;
        fails = fails-false l h.fails;
        lower = λ g k m. complete (omega arith) (h.lower g m);
      })

-- ---- of a book

module _ (b : List ℕ) where
  formed : read b ≡ ok (system_of b) (length b) → WellFormed (system_of b)
  formed a = (read-sound b a).0

  -- "A book that the reader refuses gets the reader's answer"
  pub test-refused : {f : Fault} {i : ℕ} → read b ≡ fault f i → test_answer b ≡ answer_of (fault f i)
  unfolding test_answer
  test-refused e = rw (e, test_answer)

  pub test-accepted : {s : System} {i : ℕ} → read b ≡ ok s i → test_answer b ≡ safety_answer (first_unsafe s)
  unfolding test_answer
  test-accepted e = rw (e, test_answer)

  -- the three ways that the test ends
  data Ends : Answer → Type 0 where
    refused : (f : Fault) (i : ℕ) → Ends (answer_of (fault f i))
    passed : SafeBook b → Ends (safety_answer none)
    failed : (f : ℕ) → UnsafeBook b f → Ends (safety_answer (some f))

  ends : Ends (test_answer b)
  ends = go (read b) refl
    where
      accepted : read b ≡ ok (system_of b) (length b) → (o : Option ℕ) → first_unsafe (system_of b) ≡ o → Ends (safety_answer o)
      accepted a none e = passed (record { accepted = a; safe = none-safe (system_of b) (formed a) e })
      accepted a (some f) e = failed f (record { accepted = a; first = some_first (system_of b) (formed a) e })

      go : (o : Parsed System) → read b ≡ o → Ends (test_answer b)
      go (fault f i) e = rw (test-refused e) (refused f i)
      go (ok s i) e = let a = reads-system b e in rw (test-accepted a) (accepted a (first_unsafe (system_of b)) refl)

  -- 0: the book is accepted and safe; and every such book gets it
  pub test-safe : PassedBook b → SafeBook b
  test-safe z = go ends z
    where
      go : {r : Answer} → Ends r → r.number ≡ 0 → SafeBook b
      go (refused f i) z = absurd (fault-not-zero f z)
      go (passed h) z = h
      go (failed f h) z = absurd (omega arith)

  pub safe-test : SafeBook b → test_answer b ≡ safety_answer none
  safe-test h = test-accepted h.accepted ∙ ap safety_answer (safe-none (system_of b) (formed h.accepted) h.safe)

  -- 14: the book is accepted, and the place is the lowest-numbered symbol that fails; and every such book gets it
  pub test-unsafe : (test_answer b).number ≡ number_of Unsettled → UnsafeBook b (test_answer b).place
  test-unsafe z = go ends z
    where
      go : {r : Answer} → Ends r → r.number ≡ 14 → UnsafeBook b r.place
      go (refused f i) z = absurd (elim (fault-range f) [ inl l ↦ (let h = l.1 in omega arith) | inr e ↦ (omega arith) ])
      go (passed h) z = absurd (omega arith)
      go (failed f h) z = h

  -- its 14 names only listed names
  pub unsafe-listed : {f : ℕ} → UnsafeBook b f → Listed (system_of b).arities f
  unsafe-listed h = fails-listed (system_of b) (formed h.accepted) h.first

  pub unsafe-test : {f : ℕ} → UnsafeBook b f → test_answer b ≡ safety_answer (some f)
  unsafe-test h = test-accepted h.accepted ∙ ap safety_answer (first_some (system_of b) (formed h.accepted) h.first)

  -- THE STRATEGY TEST: all that its answer tells
  pub test-tells : Tells b (test_answer b)
  test-tells = record {
    refused = λ f i e. test-refused e;
    safe = (test-safe, λ h. ap (λ r. r.number) (safe-test h));
    unsafe = λ f. (λ e. subst (UnsafeBook b) (ap (λ r. r.place) e) (test-unsafe (ap (λ r. r.number) e)), unsafe-test);
    listed = λ z. unsafe-listed (test-unsafe z);
  }
