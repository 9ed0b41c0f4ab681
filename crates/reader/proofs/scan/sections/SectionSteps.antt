-- A rule and the last section: what the parts that were read tell of the whole.
use Prim.Native.Nat.{ℕ, ◌+◌, ◌≤◌, ◌<◌}
use mathlib.Core.Path.{◌≡◌, refl, sym, ap, ◌∙◌}
use mathlib.Core.List.{List}
use lib.ListN.{length}
use borrow.Author.Tests.{lt-ltb, le-ltb}
use Rattle.std.specs.Prelude.{Ok, Err}
use Rattle.system.specs.Limits.{max_rules}
use Rattle.system.specs.Signature.{Signature}
use Rattle.system.specs.System.{Rule}
use Rattle.system.specs.declared.numbers.Fault.TheVariants.{Range, Trailing}
use Rattle.reader.specs.declared.scan.sides.SideRole.TheVariants.{Left, Right}
use Rattle.reader.specs.declared.scan.sides.Side.{Side}
use Rattle.reader.specs.Parser.{Parsed, ok, fault, and_then, Reading, times, read_side, read_rule, read_rules, read_end}
use Rattle.reader.specs.scan.Sections.{section_of, side_of, Inside}
use Rattle.reader.proofs.Parsed.{ok-then}
use Rattle.reader.proofs.scan.numbers.Sections.{success}
use Rattle.reader.proofs.scan.numbers.NumberSteps.{then-inside}

-- ---- a rule

-- a side that was read
record ReadSide (o : Parsed Reading) (s : Side) : Type 0 where
  side : Reading
  equal : o ≡ ok side s.end
  known : side.known ≡ s.known

side_read : (o : Parsed Reading) {s : Side} → Ok s ≡ side_of o → ReadSide o s
side_read (ok r i) {s} e = let q : s ≡ record { end = i; known = r.known } = cc in rw q (record { side = r; equal = refl; known = refl })
side_read (fault f i) e = cc

-- the side decides where what is made of it ends
pub side-last : {A : Type 0} (o : Parsed Reading) {s : Side} (f : Reading → A) → Ok s ≡ side_of o → Ok s.end ≡ section_of (and_then o (λ r i. ok (f r) i))
side-last o f e = let s = side_read o e in sym (ap section_of (ok-then s.equal _))

module _ (ws : List ℕ) (g : Signature) (i : ℕ) where
  -- the right side is left to be read
  pub rule-right : {l : Side} → Ok l ≡ side_of (read_side ws g Left 0 i) →
      (x : List ℕ) × (read_rule ws g i ≡ and_then (read_side ws g Right l.known l.end) (λ r k. ok (record { lhs = x; rhs = r.words }) k))
  unfolding read_rule
  rule-right e = let s = side_read (read_side ws g Left 0 i) e in (s.side.words, ok-then s.equal _ ∙ rw s.known)

-- ---- the rules, up to the book's end

module _ (ws : List ℕ) (g : Signature) where
  abbrev pub ending : List Rule → ℕ → Parsed (List Rule)
  ending rules j = and_then (read_end ws j) (λ x k. ok rules k)

  module _ (i : ℕ) {n : ℕ} (count : Inside ws i 0 max_rules n) where
    -- what is left to be read after their count
    pub rules-left : read_rules ws g i ≡ and_then (times n (read_rule ws g) (i + 1)) ending
    unfolding read_rules
    rules-left = then-inside ws Range 0 max_rules i (λ n j. and_then (times n (read_rule ws g) j) ending) count

    module _ {j : ℕ} (is : Ok j ≡ section_of (times n (read_rule ws g) (i + 1))) where
      read_all : (rules : List Rule) × (read_rules ws g i ≡ ending rules j)
      read_all = let x = success (times n (read_rule ws g) (i + 1)) is in (x.value, rules-left ∙ ok-then x.equal ending)

      pub rules-surplus : j < length ws → Err (record { fault = Trailing; place = j }) ≡ section_of (read_rules ws g i)
      unfolding read_end
      rules-surplus h = sym (ap section_of read_all.1 ∙ rw (lt-ltb j (length ws) h, read_end))

      pub rules-end : length ws ≤ j → Ok j ≡ section_of (read_rules ws g i)
      unfolding read_end
      rules-end h = sym (ap section_of read_all.1 ∙ rw (le-ltb j (length ws) h, read_end))
