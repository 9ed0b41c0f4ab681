-- What an accepted book and its shape tell, and one rule of it, in the terms of a loop over the rules.
use Prim.Native.Nat.{ℕ, ◌+◌, ◌-◌, ◌≤◌, ◌<◌}
use native.Mathlib.Omega.{arith}
use mathlib.Core.Path.{◌≡◌, sym, ap, ◌∙◌}
use mathlib.Core.List.{List}
use lib.ListN.{length, get_or, take, drop, length-drop}
use lib.Seq.{get_or-take, get_or-drop}
use Rattle.reader.specs.declared.Shape.{Shape}
use Rattle.system.specs.Limits.{variable, variables}
use Rattle.system.specs.System.{System, rule}
use Rattle.system.specs.Terms.{WellFormedRule, WellFormed}
use Rattle.reader.specs.Format.{encode_strategies}
use Rattle.reader.specs.Parser.{ok}
use Rattle.reader.specs.Answers.{shape_of}
use Rattle.system.specs.Signature.{signature_of}
use Rattle.reader.proofs.Accepts.{read-sound}
use Rattle.system.proofs.Forests.{forest-length}
use Rattle.system.proofs.Members.{member-get_or, numbered_below}
use Rattle.reader.proofs.Located.{Located, located, read-signature, RuleAt, rule-at}
use Rattle.reader.specs.Book.{system_of, Accepted}
pub use Rattle.layout.specs.index.Accepted.{RulesAt as Rest}
use Rattle.layout.specs.rules.Rules.{RuleSpan, rule_end, rule_span}

-- rule number k stands at p
pub record Here (b : List ℕ) (k at : ℕ) (p : RuleSpan) : Type 0 where
  pub width : p.width ≡ length (rule (system_of b) k).lhs
  pub size : p.size ≡ length (rule (system_of b) k).rhs
  pub left : p.lhs ≡ at + 1
  pub right : p.rhs ≡ at + 1 + length (rule (system_of b) k).lhs + 1
  pub next : p.next ≡ at + 1 + length (rule (system_of b) k).lhs + 1 + length (rule (system_of b) k).rhs
  pub fits : p.next ≤ length b
  pub starts : p.lhs + p.width < p.rhs
  pub ends : p.rhs + p.size ≡ p.next
  pub some : 0 < p.width
  -- its words
  pub words : take (p.lhs + p.width - p.lhs) (drop p.lhs b) ≡ (rule (system_of b) k).lhs
  pub word : (j : ℕ) → j < p.width → get_or b (p.lhs + j) 0 ≡ get_or (rule (system_of b) k).lhs j 0
  pub head : get_or b p.lhs 0 ≡ get_or (rule (system_of b) k).lhs 0 0
  pub low : (j : ℕ) → j < p.width → get_or b (p.lhs + j) 0 < variable + variables
  pub law : WellFormedRule (signature_of b) (rule (system_of b) k)
  -- the rules after it
  pub rest : Rest b (k + 1) p.next

-- a rule from its two lengths
pub place-made : (b : List ℕ) (at width size : ℕ) → width ≡ get_or b at 0 → size ≡ get_or b (at + 1 + width) 0 →
    record { lhs = at + 1; width = width; rhs = at + 1 + width + 1; size = size; next = at + 1 + width + 1 + size } ≡ rule_span b at
unfolding rule_span
place-made b at width size e d = rw (d, e)

module _ (b : List ℕ) (sh : Shape) (acc : Accepted b sh) where
  abbrev s : System
  s = system_of b

  pub well : WellFormed s
  well = (read-sound b acc.accepted).0

  pub sections : Located b s
  sections = located b acc.accepted

  pub signature : s.arities ≡ signature_of b
  signature = read-signature b acc.accepted

  shape : sh ≡ shape_of (ok s (length b))
  shape = acc.shaped ∙ ap shape_of acc.accepted

  pub rule-count : sh.rules ≡ length s.rules
  rule-count = ap (λ y. y.rules) shape

  pub symbol-count : sh.symbols ≡ length (signature_of b)
  symbol-count = ap (λ y. y.symbols) shape ∙ ap length signature

  pub first-index : sh.first_rule ≡ length s.arities + 3 + length (encode_strategies s.strategies)
  first-index = ap (λ y. y.first_rule) shape

  pub first_rest : Rest b 0 sh.first_rule
  first_rest = record { words = rw first-index sections.rules }

  pub strategy-index : sh.strategies ≡ length s.arities + 2
  strategy-index = ap (λ y. y.strategies) shape

  pub well_formed_rules : (k : ℕ) → k < sh.rules → WellFormedRule (signature_of b) (rule s k)
  well_formed_rules k h = rw signature at (well.well_formed_rules k (rw rule-count at h))

-- ---- a turn of a loop over the rules: rule number k of an accepted book stands at p

pub record Turn (b : List ℕ) (sh : Shape) (k at : ℕ) (p : RuleSpan) : Type 0 where
  pub accepted : Accepted b sh
  pub more : k < length (system_of b).rules
  pub inside : k < sh.rules
  pub here : Here b k at p

module _ {b : List ℕ} {sh : Shape} (acc : Accepted b sh) {k at : ℕ} (more : k < sh.rules) (rest : Rest b k at) where
  within : k < length (system_of b).rules
  within = rw (rule-count b sh acc) at more

  stands : RuleAt b at (rule (system_of b) k) (drop (k + 1) (system_of b).rules)
  stands = rule-at b at k (system_of b).rules within rest.words

  pub room : rule_end b at ≤ length b
  room = let w = stands in rw (w.left-length, w.right-length) w.fits

  here : (p : RuleSpan) → p ≡ rule_span b at → Here b k at p
  unfolding rule_span
  here p e =
      let w = stands in
      let l = well_formed_rules b sh acc k more in
      let r = rule (system_of b) k in
      let el : p.lhs ≡ at + 1 = ap (λ y. y.lhs) e in
      let ew : p.width ≡ length r.lhs = ap (λ y. y.width) e ∙ w.left-length in
      let er : p.rhs ≡ at + 1 + length r.lhs + 1 = ap (λ y. y.rhs) e ∙ rw w.left-length in
      let es : p.size ≡ length r.rhs = ap (λ y. y.size) e ∙ rw w.left-length w.right-length in
      let en : p.next ≡ at + 1 + length r.lhs + 1 + length r.rhs = ap (λ y. y.next) e ∙ rw (w.left-length, w.right-length) in
      let some : 0 < p.width = (let z = forest-length l.left in omega arith) in
      let word : (j : ℕ) → j < p.width → get_or b (p.lhs + j) 0 ≡ get_or r.lhs j 0 = λ j h.
      rw el (sym (get_or-drop (at + 1) b j 0) ∙ sym (get_or-take (length r.lhs) (drop (at + 1) b) j 0 (omega arith)) ∙ ap (λ y. get_or y j 0) w.left-words) in
      record {
        width = ew;
        size = es;
        left = el;
        right = er;
        next = en;
        fits = (let f = w.fits in omega arith);
        starts = omega arith;
        ends = omega arith;
        some = some;
        words = (let z : at + 1 + length r.lhs - (at + 1) ≡ length r.lhs = omega arith in rw (el, ew, z) w.left-words);
        word = word;
        head = (let z : p.lhs + 0 ≡ p.lhs = omega arith in rw z at (word 0 some));
        low = λ j h. let n = numbered_below l.numbered (member-get_or r.lhs j (omega arith)) in omega (arith, word j h);
        law = l;
        rest = record { words = rw en w.rests };
      }

  pub turn-of : {p : RuleSpan} → p ≡ rule_span b at → Turn b sh k at p
  turn-of {p} e = record { accepted = acc; more = within; inside = more; here = here p e }

-- ---- rule k, wherever it was found to stand

-- its two sides, in the words of the book
pub record SidesAt (b : List ℕ) (k : ℕ) (p : RuleSpan) : Type 0 where
  pub left-fits : p.lhs + p.width ≤ length b
  pub right-fits : p.rhs + p.size ≤ length b
  pub left : take p.width (drop p.lhs b) ≡ (rule (system_of b) k).lhs
  pub right : take p.size (drop p.rhs b) ≡ (rule (system_of b) k).rhs

module _ {b : List ℕ} {sh : Shape} (acc : Accepted b sh) {k at : ℕ} (more : k < sh.rules) (rest : Rest b k at) where
  pub sides-at : {p : RuleSpan} → p ≡ rule_span b at → SidesAt b k p
  sides-at {p} e =
      let h = (turn-of acc more rest e).here in
      let w = stands acc more rest in
      let s = h.starts in
      let f = h.fits in
      record {
        left-fits = omega (arith, h.ends);
        right-fits = omega (arith, h.ends);
        left = rw (h.width, h.left) w.left-words;
        right = rw (h.size, h.right) w.right-words;
      }

  -- it stands nowhere else
  pub rule-unique : {at' : ℕ} → Rest b k at' → at ≡ at'
  rule-unique {at'} rest' =
      let here = (stands acc more rest).fits in
      let there = (stands acc more rest').fits in
      let l : length b - at ≡ length b - at' = sym (length-drop at b) ∙ ap length (rest.words ∙ sym rest'.words) ∙ length-drop at' b in
      omega arith
