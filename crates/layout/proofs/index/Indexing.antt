-- The lists of an index while they are made: what each store keeps, and what it adds.
use Prim.Native.Nat.{ℕ, ◌+◌, ◌≤◌, ◌<◌}
use native.Mathlib.Omega.{arith}
use native.Mathlib.Decide.{ℕ_discrete}
use mathlib.Core.Path.{◌≡◌, sym, ◌∙◌}
use mathlib.Core.List.{List}
use lib.ListN.{length, get_or, set, length-set}
use lib.Seq.{get_or-set_same, get_or-set_other}
use Rattle.system.specs.Limits.{max_rules}
use Rattle.reader.specs.declared.Shape.{Shape}
use Rattle.system.specs.System.{rule, head}
use Rattle.reader.specs.Book.{system_of, Accepted}
use Rattle.layout.specs.index.Index.{buckets, bucket, rule_from, rule_after, Linked}
use Rattle.layout.proofs.Books.{rule-count}
use Rattle.layout.proofs.index.Lists.{from_end, from-here, from_next}

-- a place is noted behind n others
pub noted-more : (P : ℕ → ℕ → Type 0) (slots : List ℕ) (n x : ℕ) → n < length slots → ((i : ℕ) → i < n → P i (get_or slots i 0)) → P n x →
    (i : ℕ) → i < n + 1 → P i (get_or (set slots n x) i 0)
noted-more P slots n x room so here i h = elim (ℕ_discrete n i) [
  | yes e ↦ rw (← e, get_or-set_same slots n x 0 room) here
  | no d ↦ rw (get_or-set_other slots n i x 0 (λ e. d (sym e))) (so i (omega arith))
]

-- no rule is in a list
pub linking-empty : {b : List ℕ} {sh : Shape} (acc : Accepted b sh) {firsts nexts : List ℕ} → length firsts ≡ buckets → length nexts ≡ max_rules →
    ((c : ℕ) → c < buckets → get_or firsts c 0 ≡ sh.rules) → Linked b sh.rules firsts nexts
linking-empty {b} {sh} acc l m e = record {
  first_slots = l;
  next_slots = m;
  heads = λ c h. e c h ∙ sym (from_end (system_of b) sh.rules c (let n = rule-count b sh acc in omega arith));
  follows = λ i low high. absurd (let n = rule-count b sh acc in omega arith);
}

-- a rule is put in front of its bucket's list
module _ {b firsts nexts : List ℕ} {j : ℕ} (m : Linked b j firsts nexts) (i c : ℕ) (is : i + 1 ≡ j) (few : j ≤ max_rules)
    (more : i < length (system_of b).rules) (of : c ≡ bucket (head (rule (system_of b) i).lhs)) where
  low : c < buckets
  low = omega arith

  first-here : (d : ℕ) → c ≡ d → get_or (set firsts c i) d 0 ≡ rule_from (system_of b) i d
  first-here d e = rw (← e) (get_or-set_same firsts c i 0 (let slots = m.first_slots in let h = low in omega arith) ∙ sym (from-here (system_of b) i c more (sym of)))

  first-other : (d : ℕ) → d < buckets → (c ≡ d → ⊥) → get_or (set firsts c i) d 0 ≡ rule_from (system_of b) i d
  first-other d h n =
      get_or-set_other firsts c d i 0 (λ e. n (sym e)) ∙ m.heads d h ∙ rw (← is) (sym (from_next (system_of b) i d more (λ e. n (of ∙ e))))

  next_here : (k : ℕ) → i ≡ k → get_or (set nexts i (get_or firsts c 0)) k 0 ≡ rule_after (system_of b) k
  next_here k e =
      rw (← e) (get_or-set_same nexts i (get_or firsts c 0) 0 (let slots = m.next_slots in omega arith) ∙ m.heads c low ∙ rw (is, of))

  pub rule-linked : Linked b i (set firsts c i) (set nexts i (get_or firsts c 0))
  rule-linked = record {
    first_slots = length-set firsts c i ∙ m.first_slots;
    next_slots = length-set nexts i (get_or firsts c 0) ∙ m.next_slots;
    heads = λ d h. elim (ℕ_discrete c d) [ yes e ↦ first-here d e | no n ↦ first-other d h n ];
    follows = λ p l h. elim (ℕ_discrete i p) [ yes e ↦ next_here p e | no n ↦ get_or-set_other nexts i p (get_or firsts c 0) 0 (λ e. n (sym e)) ∙ m.follows p (omega arith) h ];
  }
