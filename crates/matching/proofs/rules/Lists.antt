-- The search along the list of a bucket: no rule that it skips matches, so that the first match on the list is the first in the book.
use Prim.Native.Nat.{ℕ, zero, suc, ◌+◌, ◌≤◌, ◌<◌}
use native.Mathlib.Omega.{arith}
use native.Mathlib.Decide.{ℕ_discrete}
use native.Mathlib.Numerals.{add-one}
use mathlib.Core.Path.{◌≡◌, refl, sym, ◌∙◌}
use mathlib.Core.Option.{none, some}
use mathlib.Core.List.{List}
use lib.ListN.{length, drop}
use Rattle.std.specs.Prelude.{Some}
use Rattle.reader.specs.declared.Shape.{Shape}
use Rattle.system.specs.Limits.{variable}
use Rattle.system.specs.System.{rule, head}
use Rattle.system.specs.Signature.{signature_of}
use Rattle.reader.specs.Book.{system_of, Accepted}
use Rattle.layout.specs.index.Accepted.{RulesAt}
use Rattle.layout.specs.rules.Rules.{RuleSpan, rule_span}
use Rattle.layout.specs.index.Index.{bucket, rule_from, rule_after}
use Rattle.system.proofs.Signatures.{few-symbols}
use Rattle.system.proofs.Forests.{forest-length}
use Rattle.system.proofs.Rules.{listed-head}
use Rattle.layout.proofs.Books.{Turn, well, rule-count, first_rest, turn-of, rule-unique}
use Rattle.layout.proofs.index.Lists.{from-within, from_found, skips-first, skips-next}
use Rattle.matching.specs.declared.FirstRule.TheVariants.{First}
use Rattle.matching.specs.Bindings.{Bindings, no_bindings, consumed, bindings, no_match, match_from, match_listed}
use Rattle.matching.proofs.rules.MatchSteps.{consumed-end, consumed-differ, taken-first, words-stop, rules-end, rules-next, rules-here}
use Rattle.matching.proofs.rules.Searches.{match-start}

-- rule i does not match the front of ws; none before number k does
abbrev pub Fails : List ℕ → List ℕ → ℕ → Type 0
Fails b ws i = bindings (signature_of b) ws (rule (system_of b) i).lhs 0 no_bindings ≡ none

abbrev pub Unmatched : List ℕ → List ℕ → ℕ → Type 0
Unmatched b ws k = (i : ℕ) → i < k → Fails b ws i

-- the search has come to rule k on the list of the bucket of the first word, or to the list's end
pub record Along (b : List ℕ) (sh : Shape) (ws : List ℕ) (k : ℕ) : Type 0 where
  pub inside : k ≤ sh.rules
  pub unmatched : Unmatched b ws k
  pub bucketed : k < sh.rules → bucket (head (rule (system_of b) k).lhs) ≡ bucket (head ws)

-- ---- a rule whose left side starts with another symbol than ws

module _ {b : List ℕ} {sh : Shape} (acc : Accepted b sh) (ws : List ℕ) where
  pub other-fails : (i : ℕ) → i < length (system_of b).rules → (head (rule (system_of b) i).lhs ≡ head ws → ⊥) → Fails b ws i
  other-fails i more d =
      let w = well b sh acc in
      let few = few-symbols (system_of b) w in
      let own = listed-head (system_of b) w i more in
      words-stop (signature_of b) ws (rule (system_of b) i).lhs 0 0 no_bindings (forest-length (w.well_formed_rules i more).left) l refl 0
      (sym (taken-first (signature_of b) ws l 0 ∙ nothing-taken (omega arith))) refl
    where
      l : ℕ
      l = head (rule (system_of b) i).lhs

      nothing-taken : l < variable → consumed (signature_of b) l ws ≡ 0
      nothing-taken low = elim (ℕ_discrete (length ws) 0) [
        | yes e ↦ consumed-end (signature_of b) l ws e
        | no n ↦ consumed-differ (signature_of b) l ws (omega arith) low d
      ]

  -- ---- the list's first rule, and the next one

  pub along-starts : {k : ℕ} → k ≡ rule_from (system_of b) 0 (bucket (head ws)) → Along b sh ws k
  along-starts {k} e =
      let s = system_of b in
      let n = rule-count b sh acc in
      let w = from-within s 0 (bucket (head ws)) (omega arith) in
      record {
        inside = omega arith;
        unmatched = λ i h. skips-first s (head ws) (Fails b ws) other-fails i (omega arith);
        bucketed = λ more. rw e (from_found s 0 (bucket (head ws)) (omega arith));
      }

  pub along-next : {k k' : ℕ} → Along b sh ws k → k < sh.rules → Fails b ws k → k' ≡ rule_after (system_of b) k → Along b sh ws k'
  along-next {k} {k'} a more fails e =
      let s = system_of b in
      let n = rule-count b sh acc in
      let c = bucket (head (rule s k).lhs) in
      let w = from-within s (k + 1) c (omega arith) in
      record {
        inside = omega arith;
        unmatched = λ i h. skips-next s (head ws) (Fails b ws) other-fails k (omega arith) (a.bucketed more) a.unmatched fails i (omega arith);
        bucketed = λ less. rw e (from_found s (k + 1) c (omega arith) ∙ a.bucketed more);
      }

  -- ---- what was skipped does not change what is found

  -- the rules before number k don't match, so the match is the first from there on
  record Goes (k : ℕ) : Type 0 where
    at : ℕ
    rest : RulesAt b k at
    goes : match_from (signature_of b) (drop k (system_of b).rules) k at ws ≡ match_listed (system_of b) ws

  unmatched-goes : (k : ℕ) → k ≤ sh.rules → Unmatched b ws k → Goes k
  unmatched-goes zero h u = record { at = sh.first_rule; rest = first_rest b sh acc; goes = match-start acc ws }
  unmatched-goes (suc k) h u =
      let g = unmatched-goes k (omega arith) (λ i l. u i (omega arith)) in
      let t = turn-of acc (omega arith) g.rest refl in
      let n = t.here.next in
      rw (← add-one k)
      (record { at = _; rest = t.here.rest; goes = sym (rules-next (signature_of b) (system_of b).rules k g.at ws t.more (u k (omega arith)) _ n) ∙ g.goes })

  -- none of them matches
  pub unmatched-ends : {k : ℕ} → k ≤ sh.rules → sh.rules ≤ k → Unmatched b ws k → match_listed (system_of b) ws ≡ no_match
  unmatched-ends {k} inside h u =
      let g = unmatched-goes k inside u in
      sym g.goes ∙ rules-end (signature_of b) (system_of b).rules k g.at ws (omega (arith, rule-count b sh acc))

  -- rule k does, which stands at p: it is the first
  pub unmatched-here : {k at : ℕ} {p : RuleSpan} → Turn b sh k at p → RulesAt b k at → Unmatched b ws k → (x : Bindings) →
      bindings (signature_of b) ws (rule (system_of b) k).lhs 0 no_bindings ≡ some x →
      record { rule = Some (First k p.rhs p.size); starts = x.starts; lengths = x.lengths } ≡ match_listed (system_of b) ws
  unmatched-here {k} {at} {p} t rest u x m =
      let more = t.inside in
      let g = unmatched-goes k (omega arith) u in
      let goes : match_from (signature_of b) (drop k (system_of b).rules) k at ws ≡ match_listed (system_of b) ws = rw (rule-unique acc more rest g.rest) g.goes in
      rw (t.here.right, t.here.size) (sym (rules-here (signature_of b) (system_of b).rules k at ws t.more x m) ∙ goes)

  -- the list's end: no rule matches
  pub along-ends : {k : ℕ} → Along b sh ws k → sh.rules ≤ k → match_listed (system_of b) ws ≡ no_match
  along-ends a h = unmatched-ends a.inside h a.unmatched

  -- rule k matches: it is the first
  pub along-here : {k at : ℕ} → Along b sh ws k → k < sh.rules → RulesAt b k at → {p : RuleSpan} → p ≡ rule_span b at → (x : Bindings) →
      bindings (signature_of b) ws (rule (system_of b) k).lhs 0 no_bindings ≡ some x →
      record { rule = Some (First k p.rhs p.size); starts = x.starts; lengths = x.lengths } ≡ match_listed (system_of b) ws
  along-here a more rest e x m = unmatched-here (turn-of acc more rest e) rest a.unmatched x m
