-- A walk over the strategies of an accepted book: where it starts, and a step of it.
use Prim.Native.Nat.{ℕ, ◌+◌, ◌-◌, ◌≤◌, ◌<◌}
use native.Mathlib.Omega.{arith}
use native.Mathlib.Numerals.{add-one}
use mathlib.Core.Path.{◌≡◌, refl, ◌∙◌}
use mathlib.Core.List.{List, [], ◌∷◌}
use lib.ListN.{length, get_or, drop, length-take}
use lib.Seq.{drop-cons}
use Rattle.system.proofs.Rules.{strategy-listed}
use Rattle.reader.specs.declared.Shape.{Shape}
use Rattle.reader.specs.Book.{system_of, Accepted}
use Rattle.layout.specs.index.Accepted.{StrategyAt, SuffixAt}
use Rattle.layout.specs.strategies.Walked.{strategies_left, words_left}
use Rattle.layout.proofs.listed.Walks.{between}
use Rattle.layout.proofs.Sizes.{book-short}
use Rattle.layout.proofs.Suffixes.{strategy-count, suffix-start, suffix-strategy, suffix-next}

-- `left` strategies are left, and the first of them stands at `at`
pub record Walks (b : List ℕ) (sh : Shape) (at left : ℕ) : Type 0 where
  pub accepted : Accepted b sh
  pub within : left ≤ sh.symbols
  pub stands : drop at b ≡ words_left b left

pub walk-starts : {b : List ℕ} {sh : Shape} → Accepted b sh → Walks b sh sh.strategies sh.symbols
walk-starts {b} {sh} acc =
    let n = strategy-count b sh acc in
    let z : length (system_of b).strategies - sh.symbols ≡ 0 = omega arith in
    record { accepted = acc; within = omega arith; stands = rw z (suffix-start b sh acc).words }

-- all of them are left
pub all-left : (b : List ℕ) (sh : Shape) → Accepted b sh → strategies_left b sh.symbols ≡ (system_of b).strategies
all-left b sh acc = let n = strategy-count b sh acc in let z : length (system_of b).strategies - sh.symbols ≡ 0 = omega arith in rw z refl

-- a step: a strategy of n entries
pub record Steps (b : List ℕ) (sh : Shape) (at left n : ℕ) : Type 0 where
  pub ends : at + 1 + n ≤ 65535
  pub fits : at + 1 + n ≤ length b
  pub inside : at + length (between b (at + 1) (at + 1 + n)) ≤ 65535
  pub first : strategies_left b left ≡ between b (at + 1) (at + 1 + n) ∷ strategies_left b (left - 1)
  pub goes : Walks b sh (at + 1 + n) (left - 1)

module _ {b : List ℕ} {sh : Shape} {at left : ℕ} (w : Walks b sh at left) (some : 0 < left) where
  acc : Accepted b sh
  acc = w.accepted

  abbrev number : ℕ
  number = length (system_of b).strategies - left

  more : number < sh.symbols
  more = let i = w.within in omega (arith, strategy-count b _ acc)

  rest : SuffixAt b number at
  rest = record { words = w.stands }

  stands : StrategyAt b number at
  stands = suffix-strategy b _ acc number at more rest

  pub step-room : (at < length b) × (length b ≤ 65535)
  step-room = let f = stands.fits in (omega arith, book-short b _ acc)

  pub steps : {n : ℕ} → n ≡ get_or b at 0 → Steps b sh at left n
  steps {n} e =
      let ess = (system_of b).strategies in
      let f = stands.fits in
      let s = book-short b _ acc in
      let i = w.within in
      let c = strategy-count b sh acc in
      let next : length ess - (left - 1) ≡ number + 1 = omega arith in
      let m : at + 1 + n - (at + 1) ≡ n = omega arith in
      let l : length (between b (at + 1) (at + 1 + n)) ≤ n = rw m (omega (arith, length-take n (drop (at + 1) b))) in
      let es : between b (at + 1) (at + 1 + n) ≡ get_or ess number [] = rw (m, e) (stands.entries ∙ strategy-listed (system_of b) number (omega arith)) in
      record {
        ends = omega arith;
        fits = omega arith;
        inside = omega arith;
        first = rw (es, next, add-one number) (drop-cons ess number [] (omega arith));
        goes = record { accepted = w.accepted; within = omega arith; stands = rw next (suffix-next b _ acc number at n more rest e).words };
      }
