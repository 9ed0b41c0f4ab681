-- The loops that make an index: what each keeps, and what a turn does to it.
use Prim.Native.Nat.{ℕ, ◌+◌, ◌-◌, ◌≤◌, ◌<◌}
use native.Mathlib.Omega.{arith}
use mathlib.Core.Path.{◌≡◌, refl, ap, ◌∙◌}
use mathlib.Core.List.{List}
use lib.ListN.{length, get_or, set, length-set}
use Rattle.system.specs.Limits.{max_symbols, max_rules}
use Rattle.reader.specs.declared.Shape.{Shape}
use Rattle.std.specs.Iterator.Adapters.{enumerate_source, enumerate_count}
use Rattle.std.specs.declared.iter.Enumerate.{Enumerate}
use Rattle.layout.specs.declared.listed.Rule.{Rule as Listed}
use Rattle.layout.specs.declared.listed.Rules.{Rules}
use Rattle.layout.specs.declared.strategies.Strategy.{Strategy}
use Rattle.layout.specs.declared.strategies.Strategies.{Strategies}
use Rattle.reader.specs.Book.{system_of, Accepted}
use Rattle.layout.specs.rules.Rules.{RuleStands}
use Rattle.layout.specs.listed.Listed.{rule_of}
use Rattle.system.specs.System.{rule, head}
use Rattle.layout.specs.index.Accepted.{StrategyAt, RulesAt}
use Rattle.layout.specs.index.Index.{bucket, StrategiesNoted, RulesNoted, Linked}
use Rattle.layout.proofs.Books.{well, rule-count}
use Rattle.layout.proofs.listed.Turns.{At, Turned, at-start}
use Rattle.layout.proofs.strategies.Turns as strategies
use Rattle.layout.proofs.Suffixes.{strategy-count, symbols-few, suffix-strategy}
use Rattle.layout.proofs.index.Indexing.{noted-more, rule-linked}

module _ {b : List ℕ} {sh : Shape} (acc : Accepted b sh) where
  pub rules-few : sh.rules ≤ max_rules
  rules-few = let n = (well b sh acc).rule_bound in omega (arith, rule-count b sh acc)

-- ---- the strategies before the one that comes next are noted

pub record NotingStrategies (b places : List ℕ) (s : Enumerate Strategies) : Type 0 where
  pub noted : StrategiesNoted b (enumerate_count s) places
  pub at : strategies.At b (enumerate_count s) (enumerate_source s)

module _ {b : List ℕ} {sh : Shape} (acc : Accepted b sh) {places : List ℕ} {s : Enumerate Strategies} where
  pub strategies-start : length places ≡ max_symbols → enumerate_count s ≡ 0 → (enumerate_source s).left ≡ sh.symbols → (enumerate_source s).book.words.now ≡ b →
      NotingStrategies b places s
  strategies-start w z l e = record { noted = record { slots = w; stands = λ i h. absurd (omega arith) }; at = rw z (strategies.at-start acc l e) }

  module _ (m : NotingStrategies b places s) where
    -- there is a slot for the strategy
    pub strategy-slot : {f : ℕ} {x : Strategy} {t : Strategies} → f ≡ enumerate_count s → strategies.Turned b (enumerate_count s) x t → f < length places
    strategy-slot e d = let few = symbols-few b sh acc in let more = d.more in omega (arith, strategy-count b sh acc, m.noted.slots)

    pub strategies-next : {f : ℕ} {x : Strategy} {t : Enumerate Strategies} → f ≡ enumerate_count s → enumerate_count t ≡ enumerate_count s + 1 →
        strategies.Turned b (enumerate_count s) x (enumerate_source t) → NotingStrategies b (set places f x.at) t
    strategies-next {f} {x} {t} e n d =
        let k = enumerate_count s in
        let here : StrategyAt b k x.at = suffix-strategy b sh acc k x.at (omega (arith, strategy-count b sh acc, d.more)) d.stands in
        rw e (record {
          noted = rw n (record {
            slots = length-set places k x.at ∙ m.noted.slots;
            stands = noted-more (StrategyAt b) places k x.at (strategy-slot refl d) m.noted.stands here;
          });
          at = rw n d.goes;
        })

    pub strategies-end : enumerate_count s ≡ length (system_of b).strategies → StrategiesNoted b sh.symbols places
    strategies-end e = rw (e, strategy-count b sh acc) at m.noted

-- ---- the rules before the one that comes next are noted

pub record NotingRules (b places : List ℕ) (s : Enumerate Rules) : Type 0 where
  pub noted : RulesNoted b (enumerate_count s) places
  pub at : At b (enumerate_count s) (enumerate_source s)

module _ {b : List ℕ} {sh : Shape} (acc : Accepted b sh) {places : List ℕ} {s : Enumerate Rules} where
  pub rules-start : length places ≡ max_rules → enumerate_count s ≡ 0 → (enumerate_source s).left ≡ sh.rules → (enumerate_source s).book.words.now ≡ b →
      NotingRules b places s
  rules-start w z l e = record { noted = record { slots = w; stands = λ i h. absurd (omega arith) }; at = rw z (at-start acc l e) }

  module _ (m : NotingRules b places s) where
    -- there is a slot for the rule
    pub rule-slot : {k : ℕ} {x : Listed} {t : Rules} → k ≡ enumerate_count s → Turned b (enumerate_count s) x t → k < length places
    rule-slot e d = let few = rules-few acc in let more = d.more in omega (arith, rule-count b sh acc, m.noted.slots)

    pub rules-next : {k : ℕ} {x : Listed} {t : Enumerate Rules} → k ≡ enumerate_count s → enumerate_count t ≡ enumerate_count s + 1 →
        Turned b (enumerate_count s) x (enumerate_source t) → NotingRules b (set places k x.at) t
    rules-next {k} {x} {t} e n d =
        let i = enumerate_count s in
        rw e (record {
          noted = rw n (record {
            slots = length-set places i x.at ∙ m.noted.slots;
            stands = noted-more (RulesAt b) places i x.at (rule-slot refl d) m.noted.stands d.stands;
          });
          at = rw n d.goes;
        })

    pub rules-end : enumerate_count s ≡ length (system_of b).rules → RulesNoted b sh.rules places
    rules-end e = rw (e, ← rule-count b sh acc) at m.noted

-- ---- the rules from number k on are in the lists

pub record Linking (b firsts nexts : List ℕ) (k : ℕ) : Type 0 where
  pub linked : Linked b k firsts nexts
  pub inside : k ≤ length (system_of b).rules

module _ {b : List ℕ} {sh : Shape} (acc : Accepted b sh) {starts : List ℕ} (noted : RulesNoted b sh.rules starts) {firsts nexts : List ℕ} {k : ℕ}
    (m : Linking b firsts nexts k) where
  pub link-few : k ≤ max_rules
  link-few = let i = m.inside in let n = (well b sh acc).rule_bound in omega arith

  module _ (some : 0 < k) where
    -- the rule of this turn
    more : k - 1 < sh.rules
    more = let i = m.inside in omega (arith, rule-count b sh acc)

    stands : {x : ℕ} → x ≡ get_or starts (k - 1) 0 → RulesAt b (k - 1) x
    stands is = rw is (noted.stands (k - 1) more)

    pub link-stands : {x : ℕ} → x ≡ get_or starts (k - 1) 0 → RuleStands b x
    link-stands is = (k - 1, (let i = m.inside in omega arith), stands is)

    pub linking-next : (r : Listed) {x w : ℕ} → x ≡ get_or starts (k - 1) 0 → ((i : ℕ) → i < sh.rules → RulesAt b i x → rule_of r ≡ rule (system_of b) i) →
        w ≡ get_or r.lhs.now 0 0 → Linking b (set firsts (bucket w) (k - 1)) (set nexts (k - 1) (get_or firsts (bucket w) 0)) (k - 1)
    linking-next r {x} {w} is sides e =
        let i = m.inside in
        let h : w ≡ head (rule (system_of b) (k - 1)).lhs = e ∙ ap (λ y. head y.lhs) (sides (k - 1) more (stands is)) in
        record { linked = rule-linked m.linked (k - 1) (bucket w) (omega arith) link-few (omega arith) (ap bucket h); inside = omega arith }
