-- `first_match` finds the first rule that is bound, and `contraction` the lowest rule that matches, or none.
use Prim.Native.Nat.{ℕ, zero, suc, ◌+◌, ◌≤◌, ◌<◌}
use native.Mathlib.Nat.{add-zero, le_of_suc-le-suc, not-suc-le-zero}
use native.Mathlib.Omega.{arith}
use mathlib.Core.Path.{◌≡◌, refl, sym, ap, ◌∙◌, subst}
use mathlib.Core.Option.{Option, none, some}
use mathlib.Core.List.{List, [], ◌∷◌, ◌++◌, append-nil}
use lib.ListN.{length, get_or, drop}
use lib.Seq.{drop-append_seam}
use Rattle.system.specs.Limits.{variable}
use Rattle.system.specs.BuiltIns.{literal}
use Rattle.system.specs.Signature.{Signature, Symbol}
use Rattle.system.specs.System.{System, Rule, rule, no_rule, head, instance}
use Rattle.system.specs.Rules.{BuiltIn, RuleOf, listed, built_in}
use Rattle.system.specs.Terms.{more, Whole, Side, WellFormedRule, WellFormed}
use Rattle.matching.specs.Matching.{Matches, FirstMatch, bind, Contraction, first_match, Computation, computed, computed_contraction, contraction}
use Rattle.system.proofs.Signatures.{few-symbols, few-listed}
use Rattle.system.proofs.Rules.{built-number, built-ground, built-plain, built-formed, listed-head}
use Rattle.system.proofs.Places.{at-subterm}
use Rattle.matching.proofs.Matched.{matched, unmatched, bind-append, bind-nil, bind-differ, chain, instance-forest, instance-ground}
use Rattle.matching.proofs.Computed.{computed-left, left-computed, computed-built, computed-rest, computed-empty}

module _ (g : Signature) where
  pub first-here : (r : Rule) (rs : List Rule) (k : ℕ) (ws : List ℕ) (σ : List (List ℕ)) → bind g r.lhs ws [] ≡ some σ →
      first_match g (r ∷ rs) k ws ≡ some (record { number = k; reduct = instance (λ v. get_or σ v []) r.rhs })
  unfolding first_match
  first-here r rs k ws σ e = rw (e, first_match)

  pub first_next : (r : Rule) (rs : List Rule) (k : ℕ) (ws : List ℕ) → bind g r.lhs ws [] ≡ none → first_match g (r ∷ rs) k ws ≡ first_match g rs (suc k) ws
  unfolding first_match
  first_next r rs k ws e = rw (e, first_match)

  pub first-nil : (k : ℕ) (ws : List ℕ) → first_match g [] k ws ≡ none
  unfolding first_match
  first-nil k ws = refl

  -- none of the rules is bound
  abbrev pub Unbound : List Rule → List ℕ → Type 0
  Unbound rs ws = (j : ℕ) → j < length rs → bind g (get_or rs j no_rule).lhs ws [] ≡ none

  pub record Lowest (rs : List Rule) (k : ℕ) (ws : List ℕ) (x : Contraction) : Type 0 where
    pub index : ℕ
    pub number : x.number ≡ k + index
    pub within : index < length rs
    pub σ : List (List ℕ)
    pub bound : bind g (get_or rs index no_rule).lhs ws [] ≡ some σ
    pub reduct : x.reduct ≡ instance (λ v. get_or σ v []) (get_or rs index no_rule).rhs
    pub earlier : (j : ℕ) → j < index → bind g (get_or rs j no_rule).lhs ws [] ≡ none

  pub first_some : (rs : List Rule) (k : ℕ) (ws : List ℕ) (x : Contraction) → first_match g rs k ws ≡ some x → Lowest rs k ws x
  first_some [] k ws x e = absurd (let z : ◌≡◌ {A = ℕ} 0 1 = cc (first-nil k ws) in omega arith)
  first_some (r ∷ rs) k ws x e = go (bind g r.lhs ws []) refl (first_some rs (suc k) ws x)
    where
      go : (o : Option (List (List ℕ))) → bind g r.lhs ws [] ≡ o → (first_match g rs (suc k) ws ≡ some x → Lowest rs (suc k) ws x) → Lowest (r ∷ rs) k ws x
      go none q ih =
          let c = ih (sym (first_next r rs k ws q) ∙ e) in
          let n = c.number in
          record {
            index = suc c.index;
            number = omega arith;
            within = (let l = c.within in omega arith);
            σ = c.σ;
            bound = c.bound;
            reduct = c.reduct;
            earlier = elim [ zero ↦ λ l. q | suc j ↦ λ l. c.earlier j (le_of_suc-le-suc l) ];
          }
      go (some σ) q ih =
          let d : record { number = k; reduct = instance (λ v. get_or σ v []) r.rhs } ≡ x = cc (first-here r rs k ws σ q) in
          record {
            index = 0;
            number = ap (λ y. y.number) (sym d) ∙ sym (add-zero k);
            within = omega arith;
            σ = σ;
            bound = q;
            reduct = ap (λ y. y.reduct) (sym d);
            earlier = λ j l. absurd (not-suc-le-zero l);
          }

  pub first-none : (rs : List Rule) (k : ℕ) (ws : List ℕ) → first_match g rs k ws ≡ none → Unbound rs ws
  first-none [] k ws e = λ j l. absurd (not-suc-le-zero l)
  first-none (r ∷ rs) k ws e = go (bind g r.lhs ws []) refl (first-none rs (suc k) ws)
    where
      go : (o : Option (List (List ℕ))) → bind g r.lhs ws [] ≡ o → (first_match g rs (suc k) ws ≡ none → Unbound rs ws) → Unbound (r ∷ rs) ws
      go none q ih zero l = q
      go none q ih (suc j) l = ih (sym (first_next r rs k ws q) ∙ e) j (le_of_suc-le-suc l)
      go (some σ) q ih j l = absurd (let z : ◌≡◌ {A = ℕ} 0 1 = cc (first-here r rs k ws σ q) in omega arith)

  pub none_first : (rs : List Rule) (k : ℕ) (ws : List ℕ) → Unbound rs ws → first_match g rs k ws ≡ none
  none_first [] k ws h = first-nil k ws
  none_first (r ∷ rs) k ws h = first_next r rs k ws (h 0 (omega arith)) ∙ none_first rs (suc k) ws (λ j l. h (suc j) (omega arith))

  module _ (few : length g ≤ variable) {u : List ℕ} (whole : Whole g u) where
    chain-end : (b : List ℕ) (o : Option (List (List ℕ))) → chain o (bind g [] b) ≡ o
    chain-end b none = refl
    chain-end b (some σ) = bind-nil g b σ

    pub bind-rest : (b : List ℕ) {r : Rule} → WellFormedRule g r → bind g r.lhs (u ++ b) [] ≡ bind g r.lhs u []
    bind-rest b {r} law = rw (append-nil r.lhs) at (bind-append g few [] b [] law.left whole) ∙ chain-end b (bind g r.lhs u [])

    -- what follows the subterm does not count
    pub first_rest : (b : List ℕ) (rs : List Rule) (k : ℕ) → ((j : ℕ) → j < length rs → WellFormedRule g (get_or rs j no_rule)) →
        first_match g rs k (u ++ b) ≡ first_match g rs k u
    first_rest b [] k law = first-nil k (u ++ b) ∙ sym (first-nil k u)
    first_rest b (r ∷ rs) k law = go (bind g r.lhs u []) refl (first_rest b rs (suc k) (λ j l. law (suc j) (omega arith)))
      where
        q : bind g r.lhs (u ++ b) [] ≡ bind g r.lhs u []
        q = bind-rest b (law 0 (omega arith))

        go : (o : Option (List (List ℕ))) → bind g r.lhs u [] ≡ o → first_match g rs (suc k) (u ++ b) ≡ first_match g rs (suc k) u →
            first_match g (r ∷ rs) k (u ++ b) ≡ first_match g (r ∷ rs) k u
        go none e ih = first_next r rs k (u ++ b) (q ∙ e) ∙ ih ∙ sym (first_next r rs k u e)
        go (some σ) e ih = first-here r rs k (u ++ b) σ (q ∙ e) ∙ sym (first-here r rs k u σ e)

module _ (s : System) where
  abbrev g : Signature
  g = s.arities

  -- how it is found: a listed rule, or else a built-in one
  pub contraction-listed : (ws : List ℕ) (x : Contraction) → first_match g s.rules 0 ws ≡ some x → contraction s ws ≡ some x
  unfolding contraction
  contraction-listed ws x e = rw (e, contraction)

  pub contraction-computed : (ws : List ℕ) → first_match g s.rules 0 ws ≡ none → contraction s ws ≡ computed_contraction (computed ws)
  unfolding contraction
  contraction-computed ws e = rw (e, contraction)

  -- which of them it was
  data Finds (ws : List ℕ) (x : Contraction) : Type 0 where
    in-book : first_match g s.rules 0 ws ≡ some x → Finds ws x
    built_in_lem : (c : Computation) → first_match g s.rules 0 ws ≡ none → computed ws ≡ some c → x ≡ record { number = c.number; reduct = c.word ∷ [] } → Finds ws x

  finds : (ws : List ℕ) (x : Contraction) → contraction s ws ≡ some x → Finds ws x
  finds ws x e = go (first_match g s.rules 0 ws) refl
    where
      by : (c : Option Computation) → computed ws ≡ c → first_match g s.rules 0 ws ≡ none → computed_contraction c ≡ some x → Finds ws x
      by none q p e = absurd (let z : ◌≡◌ {A = ℕ} 0 1 = cc in omega arith)
      by (some c) q p e = built_in_lem c p q (let z : x ≡ record { number = c.number; reduct = c.word ∷ [] } = cc in z)

      go : (o : Option Contraction) → first_match g s.rules 0 ws ≡ o → Finds ws x
      go (some y) q = in-book (q ∙ sym (contraction-listed ws y q) ∙ e)
      go none q = by (computed ws) refl q (sym (contraction-computed ws q) ∙ e)

  -- none is found exactly where neither finds one
  record FindsNone (ws : List ℕ) : Type 0 where
    in-book : first_match g s.rules 0 ws ≡ none
    built_in_lem : computed ws ≡ none

  finds-none : (ws : List ℕ) → contraction s ws ≡ none → FindsNone ws
  finds-none ws e = go (first_match g s.rules 0 ws) refl
    where
      by : (c : Option Computation) → computed ws ≡ c → computed_contraction c ≡ none → computed ws ≡ none
      by none q e = q
      by (some c) q e = absurd (let z : ◌≡◌ {A = ℕ} 0 1 = cc in omega arith)

      go : (o : Option Contraction) → first_match g s.rules 0 ws ≡ o → FindsNone ws
      go (some y) q = absurd (let z : ◌≡◌ {A = ℕ} 0 1 = cc (contraction-listed ws y q) in omega arith)
      go none q = record { in-book = q; built_in_lem = by (computed ws) refl (sym (contraction-computed ws q) ∙ e) }

  module _ (wf : WellFormed s) where
    -- from the literals on no listed rule matches: its left side starts with a listed symbol
    pub first-high : (ws : List ℕ) → literal ≤ get_or ws 0 0 → first_match g s.rules 0 ws ≡ none
    first-high ws h = none_first g s.rules 0 ws (λ k l. other ws h (wf.well_formed_rules k l).left (listed-head s wf k l))
      where
        other : (ws : List ℕ) → literal ≤ get_or ws 0 0 → {lhs : List ℕ} → Side g lhs → head lhs < length g → bind g lhs ws [] ≡ none
        other [] h f l = absurd (omega arith)
        other (w ∷ ws) h (more {w = x} {ws = ls} _ _) l = let n = wf.symbol_bound in bind-differ g x w ls ws [] (omega arith) (λ e. omega arith)

    -- no rule matches where no word stands
    pub contraction-empty : contraction s [] ≡ none
    contraction-empty = contraction-computed [] (none_first g s.rules 0 [] (λ k l. unbound (wf.well_formed_rules k l).left)) ∙ ap computed_contraction computed-empty
      where
        unbound : {lhs : List ℕ} → Side g lhs → bind g lhs [] [] ≡ none
        unbound (more h f) = unfold bind in refl

    module _ {u : List ℕ} (whole : Whole g u) where
      -- what follows the subterm does not count
      pub contraction-rest : (b : List ℕ) → contraction s (u ++ b) ≡ contraction s u
      contraction-rest b = go (first_match g s.rules 0 u) refl
        where
          q : first_match g s.rules 0 (u ++ b) ≡ first_match g s.rules 0 u
          q = first_rest g (few-symbols s wf) whole b s.rules 0 wf.well_formed_rules

          go : (o : Option Contraction) → first_match g s.rules 0 u ≡ o → contraction s (u ++ b) ≡ contraction s u
          go (some x) e = contraction-listed (u ++ b) x (q ∙ e) ∙ sym (contraction-listed u x e)
          go none e = contraction-computed (u ++ b) (q ∙ e) ∙ ap computed_contraction (computed-rest g (few-listed s wf) b whole) ∙ sym (contraction-computed u e)

      -- the first rule at a position is that of the subterm there
      pub contraction-at : (a b : List ℕ) → contraction s (drop (length a) (a ++ (u ++ b))) ≡ contraction s u
      contraction-at a b = rw (drop-append_seam a (u ++ b)) (contraction-rest b)

      module _ (a b : List ℕ) where
        abbrev Here : Rule → Type 0
        Here r = Matches g (a ++ (u ++ b)) (length a) r

        -- a listed rule that is not bound does not match
        listed-unmatched : (k : ℕ) → k < length s.rules → bind g (rule s k).lhs u [] ≡ none → Here (rule s k) → ⊥
        listed-unmatched k l e =
            let few = few-symbols s wf in
            unmatched g few a b whole (wf.well_formed_rules k l) (bind-rest g few whole b (wf.well_formed_rules k l) ∙ e)

        -- a built-in rule that matches stands there
        built-there : {k : ℕ} {r : Rule} → BuiltIn k r → Here r → r.lhs ≡ u
        built-there {r} d m = sym (instance-ground m.σ r.lhs (built-ground d)) ∙ m.equal ∙ at-subterm g (Symbol g) a b whole

        -- so none matches where nothing is computed
        built-unmatched : computed u ≡ none → {k : ℕ} {r : Rule} → BuiltIn k r → Here r → ⊥
        built-unmatched e d m = left-computed d (ap computed (built-there d m) ∙ e)

        -- a listed rule is the first that matches
        listed-fired : (x : Contraction) → first_match g s.rules 0 u ≡ some x → FirstMatch s (a ++ (u ++ b)) (length a) x
        listed-fired x e =
            let few = few-symbols s wf in
            let c = first_some g s.rules 0 u x e in
            let q : c.index ≡ x.number = (let n = c.number in omega arith) in
            let k : x.number < length s.rules = (let l = c.within in omega arith) in
            let law = wf.well_formed_rules x.number k in
            let m = matched g few a b whole law c.σ (bind-rest g few whole b law ∙ subst (λ n. bind g (rule s n).lhs u [] ≡ some c.σ) q c.bound) in
            let d : x.reduct ≡ instance m.0.σ (rule s x.number).rhs =
            subst (λ n. x.reduct ≡ instance (λ v. get_or c.σ v []) (rule s n).rhs) q c.reduct ∙ sym m.1 in
            record {
              chosen = rule s x.number;
              known = listed k;
              match = m.0;
              reduct = d;
              left = rw d (instance-forest g few m.0.σ m.0.whole law.right);
              lowest = λ j r o. lower j r o c.earlier q k;
            }
          where
            lower : (j : ℕ) (r : Rule) → RuleOf s j r → {i n : ℕ} → ((j : ℕ) → j < i → bind g (get_or s.rules j no_rule).lhs u [] ≡ none) → i ≡ n →
                n < length s.rules → j < n → Here r → ⊥
            lower j r (listed l) earlier q k h = listed-unmatched j l (earlier j (omega arith))
            lower j r (built_in d) earlier q k h = absurd (let z = (built-number d).0 in let few = wf.rule_bound in omega arith)

        -- or a built-in one
        computed-fired : (c : Computation) → first_match g s.rules 0 u ≡ none → computed u ≡ some c →
            FirstMatch s (a ++ (u ++ b)) (length a) (record { number = c.number; reduct = c.word ∷ [] })
        computed-fired c q e =
            let f = computed-built g (few-listed s wf) whole c e in
            let i = f.right ∙ sym (instance-ground (λ v. u) f.chosen.rhs (built-plain f.built)) in
            record {
              chosen = f.chosen;
              known = built_in f.built;
              match = record {
                σ = λ v. u;
                whole = λ v. whole;
                equal = instance-ground (λ v. u) f.chosen.lhs (built-ground f.built) ∙ sym f.left ∙ sym (at-subterm g (Symbol g) a b whole);
              };
              lowest = λ j r o. lower j r o;
              reduct = i;
              left = rw i (instance-forest g (few-symbols s wf) (λ v. u) (λ v. whole) (built-formed g (few-listed s wf) f.built).right);
            }
          where
            lower : (j : ℕ) (r : Rule) → RuleOf s j r → j < c.number → Here r → ⊥
            lower j r (listed l) h m = listed-unmatched j l (first-none g s.rules 0 u q j l) m
            lower j r (built_in d) h m = let z = (computed-left d c (ap computed (built-there d m) ∙ e)).0 in omega arith

        -- the first rule that matches, and what it leaves
        pub fired : (x : Contraction) → contraction s u ≡ some x → FirstMatch s (a ++ (u ++ b)) (length a) x
        fired x e = go (finds u x e)
          where
            go : Finds u x → FirstMatch s (a ++ (u ++ b)) (length a) x
            go (in-book q) = listed-fired x q
            go (built_in_lem c q d z) = subst (FirstMatch s (a ++ (u ++ b)) (length a)) (sym z) (computed-fired c q d)

        -- no rule matches
        pub unfired : contraction s u ≡ none → (k : ℕ) (r : Rule) → RuleOf s k r → Here r → ⊥
        unfired e k r (listed l) m = listed-unmatched k l (first-none g s.rules 0 u (finds-none u e).in-book k l) m
        unfired e k r (built_in d) m = built-unmatched (finds-none u e).built_in_lem d m

      -- and the other way
      pub matchless : ((k : ℕ) (r : Rule) → RuleOf s k r → Matches g u 0 r → ⊥) → contraction s u ≡ none
      matchless h = go (contraction s u) refl
        where
          go : (o : Option Contraction) → contraction s u ≡ o → contraction s u ≡ none
          go none e = e
          go (some x) e =
              let f = fired [] [] x e in
              absurd (h x.number f.chosen f.known (subst (λ t. Matches g t 0 f.chosen) (append-nil u) f.match))
