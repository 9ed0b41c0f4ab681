-- Where no rule matches by the strategy test's reasons: at a constructor, and after a change of an idle argument. Both are told by
-- `Matches` alone, so that they hold of every rule, whatever finds it.
use Prim.Native.Nat.{ℕ, suc, ◌+◌, ◌-◌, ◌≤◌, ◌<◌}
use native.Mathlib.Omega.{arith}
use native.Mathlib.Decide.{ℕ_discrete}
use mathlib.Core.Path.{◌≡◌, refl, sym, ap, ◌∙◌, subst}
use mathlib.Core.Bool.{cond}
use mathlib.Core.Option.{none}
use mathlib.Core.List.{List, [], ◌∷◌, ◌++◌, append-nil, flatten}
use lib.ListN.{length, get_or, set, take, drop}
use lib.Seq.{set-get_or, take-append_seam, drop-append_seam}
use lib.Dec.{eqb}
use borrow.Author.Tests.{eq-eqb, ne_eqb}
use Rattle.system.specs.Limits.{variable}
use Rattle.system.specs.Signature.{Signature, Symbol, arity, span, argument, subterm}
use Rattle.system.specs.System.{System, Rule, head, instance}
use Rattle.system.specs.Terms.{Forest, more, Word, Whole, Side, Member, later, occurs, WellFormedRule, WellFormed}
use Rattle.matching.specs.Matching.{Matches, contraction}
use Rattle.matching.specs.Safety.{argument_word, HeldOnce, Idle, Constructor}
use Rattle.system.proofs.Signatures.{arity-variable, symbol-below, few-symbols}
use Rattle.system.proofs.Rules.{rule-formed}
use Rattle.system.proofs.Occurrences.{occurs-once}
use Rattle.system.proofs.Forests.{forest-none, span-forest, Wholes, parts-of, forest-take, flatten-set, focus-here, Node, node-whole, node-set}
use Rattle.system.proofs.Places.{root-argument, at_head, at-subterm}
use Rattle.matching.proofs.Matched.{instance-symbol, instance-variable, instance-cong, instance-forest}
use Rattle.matching.proofs.Words.{instance-append}
use Rattle.matching.proofs.Firsts.{unfired, matchless}

-- ---- fronts of as many terms are equal

module _ (g : Signature) where
  pub same-front : (P : ℕ → Type 0) {k : ℕ} {a a' : List ℕ} (b b' : List ℕ) → Forest g P k a → Forest g P k a' → a ++ b ≡ a' ++ b' → (a ≡ a') × (b ≡ b')
  same-front P {k} {a} {a'} b b' f f' e =
      let n : length a ≡ length a' = sym (span-forest g P b f) ∙ ap (λ r. span g r k) e ∙ span-forest g P b' f' in (
        sym (take-append_seam a b) ∙ ap (take (length a)) e ∙ ap (λ n. take n (a' ++ b')) n ∙ take-append_seam a' b',
        sym (drop-append_seam a b) ∙ ap (drop (length a)) e ∙ ap (λ n. drop n (a' ++ b')) n ∙ drop-append_seam a' b',
      )

  -- the subterm at the root
  pub root-subterm : {u : List ℕ} → Whole g u → subterm g u 0 ≡ u
  root-subterm {u} h = rw (append-nil u) at (at-subterm g (Symbol g) [] [] h)

  module _ (few : length g ≤ variable) where
    -- a part that begins with a variable is that variable
    single : {p : List ℕ} → Side g p → variable ≤ head p → p ≡ head p ∷ []
    single (more {w} {k} {ws} h f) v = ap (λ r. w ∷ r) (forest-none (subst (λ n. Forest g (Word g) n ws) (omega (arith, arity-variable g w few v)) f))

    -- a substitution that fills a side to a given term
    pub record Fills (lhs u : List ℕ) : Type 0 where
      pub σ : ℕ → List ℕ
      pub whole : (v : ℕ) → Whole g (σ v)
      pub equal : instance σ lhs ≡ u

    module _ (w : ℕ) (us ps : List (List ℕ)) (i : ℕ) (nw : w < variable) (wu : Wholes g (Symbol g) us) (wp : Wholes g (Word g) ps) (lu : i < length us) (lp : i < length ps)
        (var : variable ≤ head (get_or ps i [])) (once : occurs (head (get_or ps i [])) (w ∷ flatten ps) ≡ 1) where
      x : ℕ
      x = head (get_or ps i [])

      n : ℕ
      n = x - variable

      before : List ℕ
      before = flatten (take i ps)

      behind : List ℕ
      behind = flatten (drop (suc i) ps)

      side-parts : flatten ps ≡ before ++ (x ∷ behind)
      unfolding before behind x
      side-parts = rw (set-get_or ps i []) at (flatten-set ps i (get_or ps i []) lp) ∙ ap (λ p. flatten (take i ps) ++ (p ++ flatten (drop (suc i) ps))) (single (wp i lp) var)

      is-variable : x ≡ variable + n
      unfolding x n
      is-variable = omega arith

      -- the variable stands nowhere else
      absent : (Member x before → ⊥) × (Member x behind → ⊥)
      unfolding x
      absent =
          let c = occurs-once x (w ∷ before) behind (ap (λ ls. occurs x (w ∷ ls)) (sym side-parts) ∙ once) in
          (λ m. c.0 (later m), c.1)

      -- an instance, part by part
      instance-parts : (τ : ℕ → List ℕ) → instance τ (w ∷ flatten ps) ≡ w ∷ (instance τ before ++ (τ n ++ instance τ behind))
      instance-parts τ =
          instance-symbol τ w (flatten ps) nw
          ∙ ap (λ r. w ∷ instance τ r) side-parts
          ∙ ap (λ r. w ∷ r) (instance-append τ before (x ∷ behind) ∙ ap (λ r. instance τ before ++ r) (instance-variable τ x n behind is-variable))

      refill : (ℕ → List ℕ) → ℕ → List ℕ
      refill τ y = cond (eqb y n) (get_or us i []) (τ y)

      refill-whole : (τ : ℕ → List ℕ) → ((v : ℕ) → Whole g (τ v)) → (v : ℕ) → Whole g (refill τ v)
      unfolding refill
      refill-whole τ h v = elim (ℕ_discrete v n) [ yes e ↦ rw (eq-eqb v n e) (wu i lu) | no d ↦ rw (ne_eqb v n d) (h v) ]

      refill-there : (τ : ℕ → List ℕ) → refill τ n ≡ get_or us i []
      unfolding refill
      refill-there τ = rw (eq-eqb n n refl)

      refill-other : (τ : ℕ → List ℕ) (ls : List ℕ) → (Member x ls → ⊥) → instance (refill τ) ls ≡ instance τ ls
      unfolding refill
      refill-other τ ls z = instance-cong (refill τ) τ ls (λ w m st e. elim (ℕ_discrete m n) [
        | yes q ↦ absurd (z (subst (λ w. Member w ls) (e ∙ ap (λ k. variable + k) q ∙ sym is-variable) st))
        | no d ↦ rw (ne_eqb m n d)
      ])

      fills-before : (v : List ℕ) → Whole g v → Fills (w ∷ flatten ps) (w ∷ flatten (set us i v)) → Fills (w ∷ flatten ps) (w ∷ flatten us)
      unfolding before behind
      fills-before v h f =
          let τ = f.σ in
          let e : instance τ before ++ (τ n ++ instance τ behind) ≡ flatten (take i us) ++ (v ++ flatten (drop (suc i) us)) =
          ap (drop 1) (sym (instance-parts τ) ∙ f.equal) ∙ flatten-set us i v lu in
          let c = same-front (Symbol g) (τ n ++ instance τ behind) (v ++ flatten (drop (suc i) us))
          (instance-forest g few τ f.whole (forest-take g (Word g) ps i (omega arith) wp)) (forest-take g (Symbol g) us i (omega arith) wu) e in
          let d = same-front (Symbol g) (instance τ behind) (flatten (drop (suc i) us)) (f.whole n) h c.1 in
          record {
            σ = refill τ;
            whole = refill-whole τ f.whole;
            equal =
                instance-parts (refill τ)
                ∙ ap (λ r. w ∷ (r ++ (refill τ n ++ instance (refill τ) behind))) (refill-other τ before absent.0 ∙ c.0)
                ∙ ap (λ r. w ∷ (flatten (take i us) ++ (r ++ instance (refill τ) behind))) (refill-there τ)
                ∙ ap (λ r. w ∷ (flatten (take i us) ++ (get_or us i [] ++ r))) (refill-other τ behind absent.1 ∙ d.1)
                ∙ ap (λ r. w ∷ r) (sym (rw (set-get_or us i []) at (flatten-set us i (get_or us i []) lu)));
          }

    -- an instance of a side after a change of an argument that is a variable held once: the side has an instance before the change
    idle-fills : (us : List (List ℕ)) (i : ℕ) (v : List ℕ) {lhs : List ℕ} → Side g lhs → Symbol g (head lhs) → Node g (head lhs) us →
        i < length us → Whole g v → HeldOnce g lhs i → Fills lhs (head lhs ∷ flatten (set us i v)) → Fills lhs (head lhs ∷ flatten us)
    idle-fills us i v (more {w} {k} {ws} _ f) nm d l h z e =
        let c = parts-of g (Word g) (0 + arity g w) f in
        rw c.equal (go c.parts c.count c.wholes (rw c.equal at z.is_variable) (rw c.equal at z.once) (rw c.equal at e))
      where
        go : (ps : List (List ℕ)) → length ps ≡ 0 + arity g w → Wholes g (Word g) ps → variable ≤ argument_word g (w ∷ flatten ps) i →
            occurs (argument_word g (w ∷ flatten ps) i) (w ∷ flatten ps) ≡ 1 →
            Fills (w ∷ flatten ps) (w ∷ flatten (set us i v)) → Fills (w ∷ flatten ps) (w ∷ flatten us)
        go ps c wp var once e =
            let m : i < length ps = (let n = d.count in omega arith) in
            let q : w ∷ flatten ps ≡ (w ∷ flatten (take i ps)) ++ (get_or ps i [] ++ (flatten (drop (suc i) ps) ++ [])) =
            sym (append-nil (w ∷ flatten ps)) ∙ focus-here [] [] w ps i m in
            let y : get_or (w ∷ flatten ps) (argument g (w ∷ flatten ps) 0 i) 0 ≡ head (get_or ps i []) =
            ap (λ j. get_or (w ∷ flatten ps) j 0) (root-argument g (Word g) w ps i m wp) ∙ ap (λ r. get_or r (length (w ∷ flatten (take i ps))) 0) q
            ∙ at_head g (Word g) (w ∷ flatten (take i ps)) (flatten (drop (suc i) ps) ++ []) (wp i m) in
            fills-before w us ps i (symbol-below g w few nm) d.wholes wp l m (rw y at var) (rw y at once) v h e

    -- a rule that matches begins with the term's symbol
    filled-head : {lhs : List ℕ} (σ : ℕ → List ℕ) → Side g lhs → Symbol g (get_or lhs 0 variable) → head (instance σ lhs) ≡ head lhs
    filled-head σ (more {w} {ws} _ _) h = ap head (instance-symbol σ w ws (symbol-below g w few h))

    pub matches-head : {u : List ℕ} {r : Rule} → Whole g u → WellFormedRule g r → Matches g u 0 r → head r.lhs ≡ head u
    matches-head h law m = sym (filled-head m.σ law.left law.headed) ∙ ap head (m.equal ∙ root-subterm h)

    symbol-head : {lhs : List ℕ} → Side g lhs → Symbol g (get_or lhs 0 variable) → Symbol g (head lhs)
    symbol-head (more _ _) h = h

    -- the idle law: a rule that matches after a change of an idle argument matched before it
    pub idle-matches : (w : ℕ) (us : List (List ℕ)) (i : ℕ) (v : List ℕ) {r : Rule} → WellFormedRule g r → head r.lhs ≡ w → Node g w us → i < length us → Whole g v →
        HeldOnce g r.lhs i → Matches g (w ∷ flatten (set us i v)) 0 r → Matches g (w ∷ flatten us) 0 r
    idle-matches w us i v {r} law q d l h z m =
        let f = go w q d (m.equal ∙ root-subterm (node-whole g w (set us i v) (node-set g w us i v d h))) in
        record { σ = f.σ; whole = f.whole; equal = f.equal ∙ sym (root-subterm (node-whole g w us d)) }
      where
        go : (w : ℕ) → head r.lhs ≡ w → Node g w us → instance m.σ r.lhs ≡ w ∷ flatten (set us i v) → Fills r.lhs (w ∷ flatten us)
        go w q d e =
            subst (λ w. Node g w us → instance m.σ r.lhs ≡ w ∷ flatten (set us i v) → Fills r.lhs (w ∷ flatten us)) q
            (λ d e. idle-fills us i v law.left (symbol-head law.left law.headed) d l h z (record { σ = m.σ; whole = m.whole; equal = e })) d e

module _ (s : System) (wf : WellFormed s) where
  abbrev g : Signature
  g = s.arities

  -- no rule matches at a constructor
  pub constructor-contraction : {u : List ℕ} → Whole g u → Constructor s (head u) → contraction s u ≡ none
  constructor-contraction h c = matchless s wf h (λ k r o m. c k r o (matches-head g (few-symbols s wf) h (rule-formed s wf o) m))

  -- where none matched, none matches after a change of an idle argument
  pub idle-contraction : (w : ℕ) (us : List (List ℕ)) (i : ℕ) (v : List ℕ) → Node g w us → i < length us → Whole g v → Idle s w i →
      contraction s (w ∷ flatten us) ≡ none → contraction s (w ∷ flatten (set us i v)) ≡ none
  idle-contraction w us i v d l h z e =
      let few = few-symbols s wf in
      let u = node-whole g w us d in
      let u' = node-whole g w (set us i v) (node-set g w us i v d h) in
      matchless s wf u' (λ k r o m.
      let law = rule-formed s wf o in
      let q = matches-head g few u' law m in
      unfired s wf u [] [] e k r o (subst (λ t. Matches g t 0 r) (sym (append-nil (w ∷ flatten us))) (idle-matches g few w us i v law q d l h (z k r o q) m)))
