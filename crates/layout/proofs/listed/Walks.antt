-- A walk over the rules of a book: where it starts, and a step of it.
use Prim.Native.Nat.{ℕ, ◌+◌, ◌-◌, ◌≤◌, ◌<◌}
use native.Mathlib.Omega.{arith}
use native.Mathlib.Numerals.{add-one}
use mathlib.Core.Path.{◌≡◌, refl, ap}
use mathlib.Core.List.{List, ◌∷◌}
use lib.ListN.{length, take, drop}
use lib.Seq.{drop-cons}
use Rattle.system.specs.Limits.{side_words, max_word}
use Rattle.system.specs.System.{rule, no_rule}
use Rattle.system.proofs.Members.{member-get_or, numbered_below}
use Rattle.reader.specs.declared.Shape.{Shape}
use Rattle.reader.specs.Book.{system_of, Accepted}
use Rattle.reader.specs.Format.{encode_rules}
use Rattle.layout.specs.declared.listed.Rule.{Rule as Listed}
use Rattle.layout.specs.rules.Rules.{RuleSpan, RuleStands, rule_span}
use Rattle.layout.specs.listed.Listed.{rule_of}
use Rattle.layout.specs.listed.Walked.{rules_left, KnownWords}
use Rattle.layout.proofs.Books.{Rest, turn-of, sides-at, rule-count, first_rest}
use Rattle.layout.proofs.Sizes.{book-short}

-- the words of a book from one index up to another
abbrev pub between : List ℕ → ℕ → ℕ → List ℕ
between b from end = take (end - from) (drop from b)

-- what every rule of an accepted book is
pub record Fits (at : ℕ) (lhs rhs : List ℕ) : Type 0 where
  pub inside : at + 2 + length lhs + length rhs ≤ max_word
  pub headed : 0 < length lhs
  pub short : (length lhs ≤ side_words) × (length rhs ≤ side_words)
  pub known : KnownWords lhs × KnownWords rhs

-- rule k, in whose place p these are the words of the book
pub record Placed (b : List ℕ) (k at : ℕ) (p : RuleSpan) : Type 0 where
  pub left-ends : p.lhs + p.width ≤ 65535
  pub left-fits : p.lhs + p.width < length b
  pub right-starts : p.rhs ≤ p.next
  pub right-fits : p.next ≤ length b
  pub short : length b ≤ 65535
  pub fits : Fits at (between b p.lhs (p.lhs + p.width)) (between b p.rhs p.next)
  pub is : record { lhs = between b p.lhs (p.lhs + p.width); rhs = between b p.rhs p.next } ≡ rule (system_of b) k

module _ {b : List ℕ} {sh : Shape} (acc : Accepted b sh) {k at : ℕ} (more : k < sh.rules) (rest : Rest b k at) where
  rule-fits : {p : RuleSpan} → p ≡ rule_span b at → Fits at (rule (system_of b) k).lhs (rule (system_of b) k).rhs
  rule-fits {p} e =
      let h = (turn-of acc more rest e).here in
      let l = h.law in
      let s = book-short b _ acc in
      let f = h.fits in
      let c = l.variable_bound in
      record {
        inside = omega (arith, h.next);
        headed = omega (arith, h.some, h.width);
        short = (l.short_left, l.short_right);
        known = (
          λ j i. let n = numbered_below l.numbered (member-get_or (rule (system_of b) k).lhs j i) in omega arith,
          λ j i. let n = l.known _ (member-get_or (rule (system_of b) k).rhs j i) in omega arith,
        );
      }

  pub placed-at : {p : RuleSpan} → p ≡ rule_span b at → Placed b k at p
  placed-at {p} e =
      let h = (turn-of acc more rest e).here in
      let s = book-short b _ acc in
      let f = h.fits in
      let q = h.starts in
      let z = h.ends in
      let n : p.next - p.rhs ≡ p.size = omega (arith, h.ends) in
      let l = h.words in
      let r : between b p.rhs p.next ≡ (rule (system_of b) k).rhs = rw n (sides-at acc more rest e).right in
      record {
        left-ends = omega arith;
        left-fits = omega arith;
        right-starts = omega arith;
        right-fits = f;
        short = s;
        fits = rw (l, r) (rule-fits e);
        is = rw (l, r) refl;
      }

-- ---- the walk

-- `left` rules are left, and the first of them stands at `at`
pub record Walks (b : List ℕ) (sh : Shape) (at left : ℕ) : Type 0 where
  pub accepted : Accepted b sh
  pub within : left ≤ sh.rules
  pub stands : drop at b ≡ encode_rules (rules_left b left)

-- all of them are left
pub all-left : (b : List ℕ) (sh : Shape) → Accepted b sh → rules_left b sh.rules ≡ (system_of b).rules
all-left b sh acc = let n = rule-count b sh acc in let z : length (system_of b).rules - sh.rules ≡ 0 = omega arith in rw z refl

pub walk-starts : {b : List ℕ} {sh : Shape} → Accepted b sh → Walks b sh sh.first_rule sh.rules
walk-starts {b} {sh} acc =
    let n = rule-count b sh acc in
    let z : length (system_of b).rules - sh.rules ≡ 0 = omega arith in
    record { accepted = acc; within = omega arith; stands = rw z (first_rest b sh acc).words }

-- a step: the walk gave the rule x
pub record Steps (b : List ℕ) (sh : Shape) (at left : ℕ) (x : Listed) : Type 0 where
  pub ends : at + (2 + length x.lhs.now + length x.rhs.now) ≤ 65535
  pub first : rules_left b left ≡ rule_of x ∷ rules_left b (left - 1)
  pub goes : Walks b sh (at + (2 + length x.lhs.now + length x.rhs.now)) (left - 1)

module _ {b : List ℕ} {sh : Shape} {at left : ℕ} (w : Walks b sh at left) (some : 0 < left) where
  abbrev number : ℕ
  number = length (system_of b).rules - left

  more : number < sh.rules
  more = let i = w.within in omega (arith, rule-count b sh w.accepted)

  rest : Rest b number at
  rest = record { words = w.stands }

  pub walk-stands : RuleStands b at
  walk-stands = (number, (let m = more in omega (arith, rule-count b sh w.accepted)), rest)

  pub steps : {x : Listed} → x.at ≡ at → ((k : ℕ) → k < sh.rules → Rest b k at → rule_of x ≡ rule (system_of b) k) → Steps b sh at left x
  steps {x} e is =
      let rs = (system_of b).rules in
      let i = w.within in
      let n = rule-count b sh w.accepted in
      let r = is number more rest in
      let h = (turn-of w.accepted more rest refl).here in
      let l : length x.lhs.now ≡ length (rule (system_of b) number).lhs = ap (λ y. length y.lhs) r in
      let m : length x.rhs.now ≡ length (rule (system_of b) number).rhs = ap (λ y. length y.rhs) r in
      let next : length rs - (left - 1) ≡ number + 1 = omega arith in
      let end : (rule_span b at).next ≡ at + (2 + length x.lhs.now + length x.rhs.now) = omega (arith, h.next) in
      let inside = x.inside in
      record {
        ends = omega arith;
        first = rw (r, next, add-one number) (drop-cons rs number no_rule (omega arith));
        goes = record { accepted = w.accepted; within = omega arith; stands = rw (next, ← end) h.rest.words };
      }
