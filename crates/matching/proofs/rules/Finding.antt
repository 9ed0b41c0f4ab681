-- The search for the first rule that matches, rule by rule.
use Prim.Native.Nat.{ℕ, ◌+◌, ◌<◌}
use native.Mathlib.Omega.{arith}
use native.Mathlib.Decide.{ℕ_discrete}
use mathlib.Core.Path.{◌≡◌, sym, ap, ◌∙◌}
use mathlib.Core.List.{List}
use lib.ListN.{length, get_or}
use Rattle.std.specs.Iterator.Adapters.{enumerate_source, enumerate_count}
use Rattle.std.specs.declared.iter.Enumerate.{Enumerate}
use Rattle.reader.specs.declared.Shape.{Shape}
use Rattle.reader.specs.Book.{system_of, Accepted}
use Rattle.system.specs.System.{rule}
use Rattle.system.specs.Signature.{signature_of}
use Rattle.layout.specs.declared.listed.Rule.{Rule as Listed}
use Rattle.layout.specs.declared.listed.Rules.{Rules}
use Rattle.layout.proofs.Books.{rule-count}
use Rattle.layout.proofs.listed.Turns.{At, Turned, at-start, placed}
use Rattle.matching.specs.declared.Match.{Match}
use Rattle.matching.specs.Bindings.{no_bindings, consumed, no_match, match_listed}
use Rattle.matching.proofs.rules.Lists.{Fails, Unmatched, unmatched-ends}
use Rattle.matching.proofs.rules.MatchSteps.{taken-first, words-stop}

-- no rule before the one that comes next matched, and nothing is found
pub record Searched (b ws : List ℕ) (found : Match) (s : Enumerate Rules) : Type 0 where
  pub at : At b (enumerate_count s) (enumerate_source s)
  pub none_found : found ≡ no_match
  pub unmatched : Unmatched b ws (enumerate_count s)

module _ {b : List ℕ} {sh : Shape} (acc : Accepted b sh) {ws : List ℕ} {found : Match} {s : Enumerate Rules} where
  pub search-starts : found ≡ no_match → enumerate_count s ≡ 0 → (enumerate_source s).left ≡ sh.rules → (enumerate_source s).book.words.now ≡ b → Searched b ws found s
  search-starts n z l e = record { at = rw z (at-start acc l e); none_found = n; unmatched = λ i h. absurd (omega arith) }

  module _ (so : Searched b ws found s) where
    pub search-ends : enumerate_count s ≡ length (system_of b).rules → found ≡ match_listed (system_of b) ws
    search-ends e = let n = rule-count b sh acc in so.none_found ∙ sym (unmatched-ends acc ws (omega arith) (omega arith) so.unmatched)

    -- the rule of this turn, whose number is k, was given up
    pub given-up : {k : ℕ} → k ≡ enumerate_count s → {t : Enumerate Rules} → At b (enumerate_count s + 1) (enumerate_source t) → enumerate_count t ≡ enumerate_count s + 1 →
        Fails b ws k → Searched b ws found t
    given-up {k} is at n f = record {
      at = rw n at;
      none_found = so.none_found;
      unmatched = λ i h. elim (ℕ_discrete i k) [ yes e ↦ rw e f | no d ↦ so.unmatched i (omega arith) ];
    }

-- a turn: the rule of number k
module _ {b : List ℕ} {sh : Shape} (acc : Accepted b sh) {k : ℕ} {x : Listed} {t : Rules} (d : Turned b k x t) where
  sides : x.lhs.now ≡ (rule (system_of b) k).lhs
  sides = ap (λ r. r.lhs) d.rule

  -- its words, by their places
  pub left-word : (j : ℕ) → j < length x.lhs.now → get_or b (x.at + 1 + j) 0 ≡ get_or x.lhs.now j 0
  left-word j h = (placed acc d).here.word j h ∙ ap (λ ws. get_or ws j 0) (sym sides)

  -- it is given up at its first word
  pub root-differs : (ws : List ℕ) {n : ℕ} → n ≡ consumed (signature_of b) (get_or x.lhs.now 0 0) ws → n ≡ 0 → Fails b ws k
  root-differs ws {n} e z =
      let some : 0 < length (rule (system_of b) k).lhs = rw (← sides) x.headed in
      words-stop (signature_of b) ws (rule (system_of b) k).lhs 0 0 no_bindings some (get_or x.lhs.now 0 0) (ap (λ ws. get_or ws 0 0) sides) n
      (e ∙ sym (taken-first (signature_of b) ws (get_or x.lhs.now 0 0) 0)) z
