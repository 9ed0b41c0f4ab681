-- What is found at an active position of a whole term: the first rule that matches there, with which a step is taken, or that none does.
use Prim.Native.Nat.{ℕ, ◌<◌}
use native.Mathlib.Omega.{arith}
use mathlib.Core.Path.{◌≡◌, sym, ap, ◌∙◌, subst, subst₂}
use mathlib.Core.Option.{none, some}
use mathlib.Core.List.{List, ◌++◌}
use lib.ListN.{length, drop}
use Rattle.system.specs.Signature.{Signature, Symbol, subterm, replace}
use Rattle.system.specs.System.{System, Rule}
use Rattle.system.specs.Rules.{RuleOf}
use Rattle.system.specs.Terms.{Whole, WellFormed}
use Rattle.system.proofs.Places.{at-subterm, at-replace, patch}
use Rattle.matching.specs.Matching.{Contraction, contraction, Matches, FirstMatch}
use Rattle.matching.proofs.Firsts.{contraction-rest, fired, unfired}
use Rattle.rewriting.specs.Rewriting.{Active, Step}
use Rattle.rewriting.proofs.Actives.{At, active-whole, at_parted}
use Rattle.rewriting.proofs.Done.{whole-within}

module _ (s : System) (wf : WellFormed s) {t : List ℕ} (h : Whole s.arities t) where
  abbrev g : Signature
  g = s.arities

  module _ {p : ℕ} (act : Active s t p) where
    abbrev pub there : At s (λ _. Unit {0}) t p
    there = active-whole s wf h act

    found-there : contraction s (drop p t) ≡ contraction s there.here
    found-there = ap (contraction s) (at_parted s there) ∙ contraction-rest s wf there.whole there.behind

    -- the first rule that matches there
    pub first-there : (x : Contraction) → contraction s (drop p t) ≡ some x → FirstMatch s t p x
    first-there x e =
        subst₂ (λ t p. FirstMatch s t p x) (sym there.equal) (sym there.position)
        (fired s wf there.whole there.before there.behind x (sym found-there ∙ e))

    -- none does
    pub none-there : contraction s (drop p t) ≡ none → (k : ℕ) (r : Rule) → RuleOf s k r → Matches g t p r → ⊥
    none-there e =
        subst₂ (λ t p. (k : ℕ) (r : Rule) → RuleOf s k r → Matches g t p r → ⊥) (sym there.equal) (sym there.position)
        (unfired s wf there.whole there.before there.behind (sym found-there ∙ e))

    -- the subterm there, and the term with v in its place
    pub subterm-there : subterm g t p ≡ there.here
    subterm-there = (λ j. subterm g (there.equal j) (there.position j)) ∙ at-subterm g (Symbol g) there.before there.behind there.whole

    pub replace-there : (v : List ℕ) → replace g t p v ≡ there.before ++ (v ++ there.behind)
    replace-there v = (λ j. replace g (there.equal j) (there.position j) v) ∙ at-replace g (Symbol g) there.before there.behind v there.whole

    pub replaced-whole : {v : List ℕ} → Whole g v → Whole g (replace g t p v)
    replaced-whole {v} hv = rw (replace-there v) (patch g (Symbol g) there.before there.behind (subst (Whole g) there.equal h) there.whole hv)

    pub active-within : p < length t
    active-within =
        let m = subst (λ z. length there.before < length z) (sym there.equal) (whole-within s there.before there.behind there.whole) in
        omega (arith, there.position)

    -- a step with the first rule that matches there
    abbrev pub step-there : (x : Contraction) → contraction s (drop p t) ≡ some x → Step s t (replace g t p x.reduct)
    step-there x e =
        let f = first-there x e in
        record {
          at = p;
          number = x.number;
          chosen = f.chosen;
          within = active-within;
          known = f.known;
          active = act;
          match = f.match;
          lowest = f.lowest;
          next = ap (replace g t p) f.reduct;
          left = replaced-whole f.left;
        }
