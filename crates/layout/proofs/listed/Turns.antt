-- A loop over the rules of a book, and a chain: which rule each turn has.
use Prim.Native.Nat.{ℕ, ◌+◌, ◌-◌, ◌≤◌, ◌<◌}
use native.Mathlib.Omega.{arith}
use mathlib.Core.Path.{◌≡◌, sym, ap, ◌∙◌, subst}
use mathlib.Core.List.{List, [], ◌∷◌}
use lib.ListN.{length, get_or, drop, length-drop}
use lib.Seq.{drop-cons}
use Rattle.std.specs.Prelude.{Some}
use Rattle.std.proofs.lemmas.Iterator.{YieldsList}
use Rattle.std.proofs.lemmas.Iterator.Consumers.{YieldsList-from_shown}
use Rattle.system.specs.Limits.{max_rules}
use Rattle.system.specs.System.{Rule, rule, no_rule}
use Rattle.reader.specs.declared.Shape.{Shape}
use Rattle.reader.specs.Book.{system_of, Accepted}
use Rattle.layout.specs.rules.Rules.{RuleSpan}
use Rattle.layout.specs.declared.listed.Rule.{Rule as Listed}
use Rattle.layout.specs.declared.listed.Rules.{Rules}
use Rattle.layout.specs.listed.Listed.{rule_of, rest_of, YieldsRule}
use Rattle.reader.proofs.Located.{rule-at}
use Rattle.layout.proofs.Books.{Rest, Turn, well, rule-count, turn-of, place-made}
use Rattle.layout.proofs.listed.Walks.{all-left}

-- a chain over the rules gives those that are left
pub YieldsList-from_rules : (s : Rules) (rs : List Rule) → rest_of s ≡ rs → YieldsList YieldsRule rule_of s rs
YieldsList-from_rules s rs e =
    subst (YieldsList YieldsRule rule_of s) e (YieldsList-from_shown YieldsRule rule_of rest_of (λ a t h. ap length h.0) (λ a x t h. h.0) s)

-- how many are still to come
pub left-few : (s : Rules) → length (rest_of s) ≤ max_rules
left-few s =
    let w = (well s.book.words.now _ s.book.accepted).rule_bound in
    let n = length-drop (length (system_of s.book.words.now).rules - s.left) (system_of s.book.words.now).rules in
    omega arith

-- the walk over the rules of b is at rule number k
pub record At (b : List ℕ) (k : ℕ) (s : Rules) : Type 0 where
  pub book : s.book.words.now ≡ b
  pub number : s.left + k ≡ length (system_of b).rules

-- a turn of a loop: the walk gave rule number k of b, and goes on
pub record Turned (b : List ℕ) (k : ℕ) (x : Listed) (t : Rules) : Type 0 where
  pub more : k < length (system_of b).rules
  pub rule : rule_of x ≡ rule (system_of b) k
  pub stands : Rest b k x.at
  pub goes : At b (k + 1) t

module _ {b : List ℕ} {sh : Shape} (acc : Accepted b sh) where
  pub at-start : {s : Rules} → s.left ≡ sh.rules → s.book.words.now ≡ b → At b 0 s
  at-start l e = record { book = e; number = omega (arith, rule-count b sh acc) }

  -- all rules come
  pub all-come : (s : Rules) → s.left ≡ sh.rules → s.book.words.now ≡ b → rest_of s ≡ (system_of b).rules
  all-come s l e = rw (l, e) (all-left b sh acc)

module _ {b : List ℕ} {k : ℕ} {s : Rules} (a : At b k s) where
  number : length (system_of b).rules - s.left ≡ k
  number = let n = a.number in omega arith

  left-of : (t : Rules) → length (rest_of t) ≡ t.left
  left-of t =
      let w = t.within in
      let n = rule-count t.book.words.now _ t.book.accepted in
      rw (length-drop (length (system_of t.book.words.now).rules - t.left) (system_of t.book.words.now).rules) (omega arith)

  pub turned : {x : Listed} {t : Rules} → YieldsRule s (Some x) t → Turned b k x t
  turned {x} {t} h =
      let c : t.left + 1 ≡ s.left = omega (arith, left-of s, left-of t, ap length h.0) in
      let n = a.number in
      let more : k < length (system_of b).rules = omega arith in
      let e : drop k (system_of b).rules ≡ rule_of x ∷ rest_of t = rw (a.book, number) at h.0 in
      let d = drop-cons (system_of b).rules k no_rule more in
      record {
        more = more;
        rule = ap (λ l. get_or l 0 no_rule) (sym e ∙ d);
        stands = record { words = rw (a.book, number, ← h.1) at s.stands };
        goes = record { book = h.2 ∙ a.book; number = omega arith };
      }

  pub ended : rest_of s ≡ [] → k ≡ length (system_of b).rules
  ended e = let n = a.number in omega (arith, left-of s, ap length e)

-- the places of a rule that a walk gave
abbrev pub span_of : Listed → RuleSpan
span_of x = record {
  lhs = x.at + 1;
  width = length x.lhs.now;
  rhs = x.at + 1 + length x.lhs.now + 1;
  size = length x.rhs.now;
  next = x.at + 1 + length x.lhs.now + 1 + length x.rhs.now;
}

-- the same turn, by its places in the book
pub placed : {b : List ℕ} {sh : Shape} → Accepted b sh → {k : ℕ} {x : Listed} {t : Rules} → Turned b k x t → Turn b sh k x.at (span_of x)
placed {b} {sh} acc {k} {x} d =
    let more : k < sh.rules = (let m = d.more in omega (arith, rule-count b sh acc)) in
    let w = rule-at b x.at k (system_of b).rules d.more d.stands.words in
    let l : x.lhs.now ≡ (rule (system_of b) k).lhs = ap (λ r. r.lhs) d.rule in
    let r : x.rhs.now ≡ (rule (system_of b) k).rhs = ap (λ r. r.rhs) d.rule in
    let size : length x.rhs.now ≡ get_or b (x.at + 1 + length x.lhs.now) 0 = rw (l, r) (sym w.right-length) in
    turn-of acc more d.stands (place-made b x.at (length x.lhs.now) (length x.rhs.now) (ap length l ∙ sym w.left-length) size)
