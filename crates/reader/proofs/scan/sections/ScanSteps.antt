-- The whole book, section by section: what is left to be read once a section is taken.
use Prim.Native.Nat.{ℕ, ◌+◌, ◌-◌}
use native.Mathlib.Omega.{arith}
use mathlib.Core.Path.{◌≡◌, refl, sym, ap, ◌∙◌}
use mathlib.Core.List.{List}
use lib.ListN.{length, take, drop}
use Rattle.std.specs.Prelude.{Ok, Err}
use Rattle.system.specs.Limits.{max_arity, max_symbols}
use Rattle.system.specs.Signature.{Signature, signature_of}
use Rattle.system.specs.System.{System}
use Rattle.system.specs.declared.numbers.Fault.TheVariants.{Range}
use Rattle.reader.specs.declared.Refusal.{Refusal}
use Rattle.reader.specs.Format.{encode_strategies}
use Rattle.reader.specs.Parser.{Parsed, ok, and_then, times, each, number, read_strategy, read_rules, read_system, read}
use Rattle.reader.specs.scan.Sections.{section_of, sections_of, outcome, Inside}
use Rattle.reader.proofs.Parsed.{ok-then}
use Rattle.reader.proofs.Located.{numbers-signature, strategies-end}
use Rattle.reader.proofs.scan.numbers.Sections.{success, stop}
use Rattle.reader.proofs.scan.numbers.NumberSteps.{then-inside}

module _ (ws : List ℕ) where
  -- ---- what follows each section

  abbrev pub after_strategies : Signature → List (List ℕ) → ℕ → Parsed System
  after_strategies g ess i = and_then (read_rules ws g i) (λ rs j. ok (record { arities = g; strategies = ess; rules = rs }) j)

  abbrev pub after_count : Signature → ℕ → ℕ → Parsed System
  after_count g n i = and_then (each (read_strategy ws) g i) (after_strategies g)

  abbrev pub after_arities : ℕ → Signature → ℕ → Parsed System
  after_arities n g i = and_then (number ws Range n n i) (after_count g)

  abbrev pub after_first : ℕ → ℕ → Parsed System
  after_first n i = and_then (times n (number ws Range 0 max_arity) i) (after_arities n)

  -- a section that is refused refuses the book
  pub scan-refused : {A B : Type 0} (h : A → ℕ → B) (o : Parsed A) (on : A → ℕ → Parsed System) → read ws ≡ and_then o on → {r : Refusal} → Err r ≡ outcome h o → Err r ≡ sections_of (read ws)
  scan-refused h o on left is = stop h _ o on is ∙ sym (ap sections_of left)

  -- ---- what is left to be read, after each section

  pub record AfterArities (n i : ℕ) : Type 0 where
    pub left : read ws ≡ after_arities n (signature_of ws) i
    pub size : length (signature_of ws) ≡ n
    pub place : i ≡ n + 1
    -- the arities that were read are those that stand there
    pub words : take (i - 1) (drop 1 ws) ≡ signature_of ws

  pub record AfterStrategies (n o : ℕ) : Type 0 where
    pub strategies : List (List ℕ)
    pub left : read ws ≡ after_strategies (signature_of ws) strategies o
    pub place : o ≡ n + 2 + length (encode_strategies strategies)

  -- ---- the sections in turn

  pub scan-start : read ws ≡ and_then (number ws Range 1 max_symbols 0) after_first
  unfolding read read_system
  scan-start = refl

  module _ {n : ℕ} (many : Inside ws 0 1 max_symbols n) where
    pub scan-count : read ws ≡ after_first n 1
    scan-count = scan-start ∙ then-inside ws Range 1 max_symbols 0 after_first many

    pub scan-arities : {i : ℕ} → Ok i ≡ section_of (times n (number ws Range 0 max_arity) 1) → AfterArities n i
    unfolding signature_of
    scan-arities {i} is =
        let x = success (times n (number ws Range 0 max_arity) 1) is in
        let s = numbers-signature ws n x.equal (sym many.is) in
        let m : i - 1 ≡ n = (let p = s.1 in omega arith) in
        record {
          left = scan-count ∙ ok-then (x.equal ∙ ap (λ g. ok g i) s.0) (after_arities n);
          size = ap length (sym s.0) ∙ s.2;
          place = s.1;
          words = ap (λ k. take k (drop 1 ws)) (m ∙ many.is);
        }

  module _ {n i : ℕ} (a : AfterArities n i) {w : ℕ} (same : Inside ws i n n w) where
    pub scan-strategies-count : read ws ≡ after_count (signature_of ws) w (i + 1)
    scan-strategies-count = a.left ∙ then-inside ws Range n n i (after_count (signature_of ws)) same

    pub scan-strategies : {o : ℕ} → Ok o ≡ section_of (each (read_strategy ws) (signature_of ws) (i + 1)) → AfterStrategies n o
    scan-strategies {o} io =
        let x = success (each (read_strategy ws) (signature_of ws) (i + 1)) io in
        let e = (strategies-end ws (signature_of ws) (i + 1) x.equal).0 in
        let p = a.place in
        record { strategies = x.value; left = scan-strategies-count ∙ ok-then x.equal (after_strategies (signature_of ws)); place = omega arith }

    pub scan-whole : {o t : ℕ} → AfterStrategies n o → Ok t ≡ section_of (read_rules ws (signature_of ws) o) → Ok (record { rules = o; end = t }) ≡ sections_of (read ws)
    scan-whole {o} {t} s it =
        let x = success (read_rules ws (signature_of ws) o) it in
        let l = a.size in
        let q = s.place in
        let e : o ≡ length (signature_of ws) + 2 + length (encode_strategies s.strategies) = omega arith in
        ap (λ k. Ok (record { rules = k; end = t })) e ∙ sym (ap sections_of (s.left ∙ ok-then x.equal _))
