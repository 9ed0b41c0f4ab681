-- The walk over the words of a left side: what its loop keeps, and each way out of a turn.
use Prim.Native.Nat.{ℕ, ◌+◌, ◌≤◌, ◌<◌}
use native.Mathlib.Omega.{arith}
use mathlib.Core.Path.{◌≡◌, refl, sym, ap, ◌∙◌, subst}
use mathlib.Core.Option.{none, some}
use mathlib.Core.List.{List}
use lib.ListN.{length, get_or, drop, length-drop}
use Rattle.reader.specs.declared.Shape.{Shape}
use Rattle.system.specs.System.{Rule, rule}
use Rattle.system.specs.Signature.{signature_of}
use Rattle.layout.specs.rules.Rules.{RuleSpan}
use Rattle.reader.specs.Book.{system_of, Accepted}
use Rattle.matching.specs.Bindings.{Bindings, no_bindings, taken, with_binding, bindings, match_from, match_listed}
use Rattle.matching.specs.rules.Searches.{stretches, Within}
use Rattle.layout.proofs.Books.{Here, Turn, signature, first-index}
use Rattle.matching.proofs.Stretches.{within_none}
use Rattle.matching.proofs.rules.MatchSteps.{consumed-le, within-binding}
use Rattle.matching.proofs.rules.MatchSteps.{taken-some}
use Rattle.matching.proofs.rules.MatchSteps.{words-end, words-stop, words-next}

-- the first j words of the left side of rule k have taken the first q words
pub record Walked (b ws : List ℕ) (k width j q : ℕ) (starts lengths : List ℕ) : Type 0 where
  pub inside : j ≤ width
  pub within : q ≤ length ws
  pub lies : Within ws starts lengths
  pub goes : bindings (signature_of b) ws (drop j (rule (system_of b) k).lhs) q (record { starts = starts; lengths = lengths }) ≡
      bindings (signature_of b) ws (rule (system_of b) k).lhs 0 no_bindings

module _ {b : List ℕ} {sh : Shape} (acc : Accepted b sh) where
  -- the search starts at the first rule
  pub match-start : (ws : List ℕ) → match_from (signature_of b) (drop 0 (system_of b).rules) 0 sh.first_rule ws ≡ match_listed (system_of b) ws
  unfolding match_listed
  match-start ws = rw (first-index b sh acc, ← signature b sh acc)

module _ {b : List ℕ} {sh : Shape} {k at : ℕ} {p : RuleSpan} (t : Turn b sh k at p) where
  abbrev h : Here b k at p
  h = t.here

  abbrev r : Rule
  r = rule (system_of b) k

  pub walk-starts : (ws : List ℕ) → Walked b ws k p.width 0 0 no_bindings.starts no_bindings.lengths
  walk-starts ws = record { inside = omega arith; within = omega arith; lies = within_none ws; goes = refl }

  -- ---- the words of a left side

  module _ {ws : List ℕ} {j q : ℕ} {s l : List ℕ} (wo : Walked b ws k p.width j q s l) where
    abbrev y : Bindings
    y = stretches s l

    -- the word of this turn
    abbrev w : ℕ
    w = get_or b (p.lhs + j) 0

    pub walk_ends : p.width ≤ j → bindings (signature_of b) ws r.lhs 0 no_bindings ≡ some (record { starts = s; lengths = l })
    walk_ends e = sym wo.goes ∙ words-end (signature_of b) ws r.lhs j q y (omega (arith, h.width))

    module _ (here : j < p.width) where
      -- an unequal word
      pub walk-stops : taken (signature_of b) ws w q y ≡ 0 → bindings (signature_of b) ws r.lhs 0 no_bindings ≡ none
      walk-stops e = sym wo.goes ∙ words-stop (signature_of b) ws r.lhs j q y (omega (arith, h.width)) w (h.word j here) 0 (sym e) refl

      -- a word that is matched
      module _ {n : ℕ} (takes : n ≡ taken (signature_of b) ws w q y) (much : n ≡ 0 → ⊥) where
        pub walk-fits : q + n ≤ length ws
        walk-fits =
            let i = wo.within in
            let e = taken-some (signature_of b) ws w q y (λ z. much (takes ∙ z)) in
            let m = consumed-le (signature_of b) w (drop q ws) in
            let k = length-drop q ws in
            omega arith

        pub walk-goes : {s' l' : List ℕ} → with_binding w q n y ≡ record { starts = s'; lengths = l' } → Walked b ws k p.width (j + 1) (q + n) s' l'
        walk-goes e = record {
          inside = omega arith;
          within = walk-fits;
          lies = subst (λ z. Within ws z.starts z.lengths) e (within-binding ws w y q n (h.low j here) walk-fits wo.lies);
          goes =
              ap (bindings (signature_of b) ws (drop (j + 1) r.lhs) (q + n)) (sym e)
              ∙ sym (words-next (signature_of b) ws r.lhs j q y (omega (arith, h.width)) w (h.word j here) n takes (omega arith)) ∙ wo.goes;
        }
