-- A count, a length or an entry: what the test of one word tells of the parser.
use Prim.Native.Nat.{ℕ, ◌+◌, ◌-◌, ◌<◌}
use native.Mathlib.Omega.{arith}
use native.Mathlib.Decide.{dec_lt}
use native.Mathlib.Numerals.{add-one}
use mathlib.Core.Path.{◌≡◌, sym, ap, ◌∙◌}
use mathlib.Core.List.{List}
use lib.ListN.{length, get_or}
use Rattle.std.specs.Prelude.{Err}
use Rattle.system.specs.declared.numbers.Fault.{Fault}
use Rattle.reader.specs.declared.Refusal.{Refusal}
use Rattle.reader.specs.Parser.{Parsed, ok, fault, number, times, and_then}
use Rattle.reader.specs.scan.Sections.{word_of, section_of, Inside}
use Rattle.reader.proofs.Parsed.{ok-then}
use Rattle.reader.proofs.Parses.{number-missing, number-below, number-above, number-here}
use Rattle.reader.proofs.scan.numbers.Sections.{refused, times-next, times-stop}

module _ (ws : List ℕ) (f : Fault) (low high i : ℕ) where
  pub number-inside : {w : ℕ} → Inside ws i low high w → number ws f low high i ≡ ok w (i + 1)
  number-inside {w} n = rw (add-one i, n.is) (number-here ws f low high i n.here (rw n.is at n.above) (rw n.is at n.below))

  -- a refused number is refused where it stands
  pub number-place : {r : Refusal} → Err r ≡ word_of (number ws f low high i) → r.place ≡ i
  number-place {r} e =
      elim (dec_lt i (length ws)) [
        | no h ↦ at (number-missing ws f low high i (omega arith))
        | yes h ↦ elim (dec_lt (get_or ws i 0) low) [
          | yes l ↦ at (number-below ws f low high i h l)
          | no l ↦ elim (dec_lt high (get_or ws i 0)) [
            | yes m ↦ at (number-above ws f low high i h (omega arith) m)
            | no m ↦ absurd (let q = e ∙ ap word_of (number-here ws f low high i h (omega arith) (omega arith)) in cc)
          ]
        ]
      ]
    where
      at : {g : Fault} → number ws f low high i ≡ fault g i → r.place ≡ i
      at {g} p = let q = e ∙ ap word_of p in let z : r ≡ record { fault = g; place = i } = cc in ap (λ y. y.place) z

  -- what follows the number
  pub then-inside : {B : Type 0} {w : ℕ} (on : ℕ → ℕ → Parsed B) → Inside ws i low high w → and_then (number ws f low high i) on ≡ on w (i + 1)
  then-inside on n = ok-then (number-inside n) on

  -- the first of several numbers
  pub numbers-next : (n : ℕ) {w : ℕ} → 0 < n → Inside ws i low high w →
      section_of (times n (number ws f low high) i) ≡ section_of (times (n - 1) (number ws f low high) (i + 1))
  numbers-next n h s = times-next (number ws f low high) n i h (sym (ap section_of (number-inside s)))

  pub numbers-stop : (n : ℕ) → 0 < n → {r : Refusal} → Err r ≡ word_of (number ws f low high i) → section_of (times n (number ws f low high) i) ≡ Err r
  numbers-stop n h bad = times-stop (number ws f low high) n i h (refused _ (number ws f low high i) bad)
