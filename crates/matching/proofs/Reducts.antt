-- The answer of the search over an accepted book: the first redex; and the length of its reduct.
use Prim.Native.Nat.{ℕ, suc, ◌+◌, ◌-◌, ◌≤◌, ◌<◌}
use native.Mathlib.Omega.{arith}
use native.Mathlib.Numerals.{add-one}
use native.Mathlib.Decide.{dec_lt}
use mathlib.Core.Path.{◌≡◌, refl, sym, ap, ◌∙◌, subst}
use mathlib.Core.Logic.{◌↔◌}
use mathlib.Core.Option.{none, some}
use mathlib.Core.List.{List, [], ◌∷◌, ◌++◌}
use lib.ListN.{length, get_or, take, drop, length-append, drop_of_length-le}
use lib.Seq.{drop-cons}
use borrow.Author.Tests.{lt-ltb, le-ltb}
use Rattle.std.specs.Prelude.{Option as Found, None, Some}
use Rattle.reader.specs.declared.Shape.{Shape}
use Rattle.system.specs.Limits.{variable}
use Rattle.system.specs.BuiltIns.{literal, literals}
use Rattle.system.specs.System.{System, Rule, rule, instance}
use Rattle.system.specs.Rules.{RuleOf, listed, built_in}
use Rattle.system.specs.Terms.{Whole, WellFormedRule}
use Rattle.system.specs.Signature.{signature_of}
use Rattle.system.proofs.Signatures.{few-symbols, few-listed}
use Rattle.system.proofs.Rules.{built-ground}
use Rattle.matching.specs.declared.Match.{Match}
use Rattle.matching.specs.declared.FirstRule.{FirstRule}
use Rattle.matching.specs.declared.FirstRule.TheVariants.{First, Computed}
use Rattle.reader.specs.Book.{system_of, Accepted}
use Rattle.matching.specs.Matching.{FirstMatch, Matches, bind, Contraction, contraction}
use Rattle.matching.specs.Bindings.{Bindings, match_listed, match_of, value, bindings_of, contraction_of}
use Rattle.matching.specs.rules.Searches.{reduct_length, Within}
use Rattle.matching.proofs.Matched.{instance-nil, instance-symbol, instance-variable, instance-cong, instance-ground, bind-sound}
use Rattle.matching.proofs.Computed.{Redex, computed-built, computed-rest, computed-literal}
use Rattle.matching.proofs.Firsts.{contraction-rest, fired, unfired}
use Rattle.matching.proofs.Stretches.{value-length}
use Rattle.matching.proofs.BindingsAgree.{Chosen}
use Rattle.matching.proofs.Sources.{found, all-within, match-listed, match-computed, match-contraction}
use Rattle.layout.proofs.Books.{well, signature}

-- ---- lengths

module _ (lengths : List ℕ) where
  length-cons-symbol : (w : ℕ) (ls : List ℕ) → w < variable → reduct_length lengths (w ∷ ls) ≡ 1 + reduct_length lengths ls
  unfolding reduct_length
  length-cons-symbol w ls h = rw (lt-ltb w variable h)

  length-cons-variable : (w : ℕ) (ls : List ℕ) → variable ≤ w → reduct_length lengths (w ∷ ls) ≡ get_or lengths (w - variable) 0 + reduct_length lengths ls
  unfolding reduct_length
  length-cons-variable w ls h = rw (le-ltb w variable h)

  length_none : reduct_length lengths [] ≡ 0
  unfolding reduct_length
  length_none = refl

  -- the length of an instance, from the lengths of what the variables stand for
  pub instance-length : (σ : ℕ → List ℕ) → ((v : ℕ) → length (σ v) ≡ get_or lengths v 0) → (ls : List ℕ) → length (instance σ ls) ≡ reduct_length lengths ls
  instance-length σ h [] = rw (instance-nil σ, length_none)
  instance-length σ h (w ∷ ls) =
      let ih = instance-length σ h ls in
      elim (dec_lt w variable) [
        | yes l ↦ rw (instance-symbol σ w ls l, length-cons-symbol w ls l) (omega arith)
        | no l ↦
            let e : w ≡ variable + (w - variable) = omega arith in
            rw (instance-variable σ w (w - variable) ls e, length-append (σ (w - variable)) (instance σ ls), length-cons-variable w ls (omega arith), h (w - variable), ih)
      ]

  -- word j of a right side
  module _ (side : List ℕ) (j : ℕ) where
    pub length-done : length side ≤ j → reduct_length lengths (drop j side) ≡ 0
    length-done h = rw (drop_of_length-le side h, length_none)

    module _ (here : j < length side) (w : ℕ) (is : w ≡ get_or side j 0) where
      split : drop j side ≡ w ∷ drop (j + 1) side
      split = rw (add-one j) (drop-cons side j 0 here ∙ ap (λ y. y ∷ drop (suc j) side) (sym is))

      pub length-symbol : w < variable → reduct_length lengths (drop j side) ≡ 1 + reduct_length lengths (drop (j + 1) side)
      length-symbol h = ap (reduct_length lengths) split ∙ length-cons-symbol w (drop (j + 1) side) h

      pub length-variable : variable ≤ w → reduct_length lengths (drop j side) ≡ get_or lengths (w - variable) 0 + reduct_length lengths (drop (j + 1) side)
      length-variable h = ap (reduct_length lengths) split ∙ length-cons-variable w (drop (j + 1) side) h

-- what a variable stands for is as long as its stretch, so the reduct is as long as the lengths say
pub reduct-length : (ws : List ℕ) (a : Bindings) → Within ws a.starts a.lengths → (ls : List ℕ) → length (instance (value ws a) ls) ≡ reduct_length a.lengths ls
reduct-length ws a h ls = instance-length a.lengths (value ws a) (value-length ws a h) ls

-- ---- the answer over an accepted book

module _ (b : List ℕ) (sh : Shape) (acc : Accepted b sh) where
  abbrev s : System
  s = system_of b

  module _ (ws : List ℕ) (m : Match) (e : m ≡ match_of s ws) where
    -- what was found of the listed rules
    book-match : {n rhs size : ℕ} → m.rule ≡ Some (First n rhs size) → m ≡ match_listed s ws
    book-match f = e ∙ match-listed b sh acc ws (ap (λ y. y.rule) (sym e) ∙ f)

    -- the stretches of its variables
    pub match-within : Within ws m.starts m.lengths
    match-within = rw e (all-within b sh acc ws)

    -- the redex, by what was found
    pub match-redex : contraction_of b ws m ≡ contraction s ws
    match-redex = ap (contraction_of b ws) e ∙ match-contraction b sh acc ws

    pub match_none : m.rule ≡ None → contraction s ws ≡ none
    unfolding contraction_of
    match_none f = sym match-redex ∙ rw (f, contraction_of)

    pub match-some : {n rhs size : ℕ} → m.rule ≡ Some (First n rhs size) →
        contraction s ws ≡ some (record { number = n; reduct = instance (value ws (bindings_of m)) (take size (drop rhs b)) })
    unfolding contraction_of
    match-some f = sym match-redex ∙ rw (f, contraction_of)

    pub match-word : {k w : ℕ} → m.rule ≡ Some (Computed k w) → contraction s ws ≡ some (record { number = k; reduct = w ∷ [] })
    unfolding contraction_of
    match-word f = sym match-redex ∙ rw (f, contraction_of)

    -- what a built-in rule puts there is a literal
    pub match-literal : {k w : ℕ} → m.rule ≡ Some (Computed k w) → (literal ≤ w) × (w < literal + literals)
    match-literal f = computed-literal ws (match-computed b sh acc ws (ap (λ y. y.rule) (sym e) ∙ f)).1

  -- ---- over a whole subterm u, wherever it stands: a ++ (u ++ d), and ws the words from it on

  module _ (a d : List ℕ) {u : List ℕ} (whole : Whole s.arities u) (m : Match) (e : m ≡ match_of s (u ++ d)) where
    same-redex : contraction_of b (u ++ d) m ≡ contraction s u
    same-redex = match-redex (u ++ d) m e ∙ contraction-rest s (well b sh acc) whole d

    -- nothing is found: no rule matches
    pub nothing-matches : m.rule ≡ None → (k : ℕ) (r : Rule) → RuleOf s k r → Matches s.arities (a ++ (u ++ d)) (length a) r → ⊥
    nothing-matches f = unfired s (well b sh acc) whole a d (sym (contraction-rest s (well b sh acc) whole d) ∙ match_none (u ++ d) m e f)

    -- a rule is found: it matches, none of a lower number does, and the substitution makes the instance, which is whole
    pub first_matches : (x : Contraction) → contraction_of b (u ++ d) m ≡ some x → FirstMatch s (a ++ (u ++ d)) (length a) x
    first_matches x f = fired s (well b sh acc) whole a d x (sym same-redex ∙ f)

    -- what the left side of a listed rule is bound to
    module _ {n rhs size : ℕ} (f : m.rule ≡ Some (First n rhs size)) where
      abbrev c : Chosen b (u ++ d) (signature_of b) s.rules 0 n (bindings_of (match_listed s (u ++ d)))
      c = (found b sh acc (u ++ d)).chosen n rhs size (ap (λ y. y.rule) (sym (book-match (u ++ d) m e f)) ∙ f)

      inside : n < length s.rules
      inside = let q = c.number in let z = c.inside in omega arith

      law : WellFormedRule s.arities (rule s n)
      law = (well b sh acc).well_formed_rules n inside

      bound : bind s.arities (rule s n).lhs (u ++ d) [] ≡ some c.σ
      bound =
          let i : c.index ≡ n = (let q = c.number in omega arith) in
          ap (λ y. bind y (rule s n).lhs (u ++ d) []) (signature b sh acc) ∙ subst (λ y. bind (signature_of b) (rule s y).lhs (u ++ d) [] ≡ some c.σ) i c.bound

    -- a built-in rule that is found has the subterm for its left side: an operator and its arguments
    built : {k w : ℕ} → m.rule ≡ Some (Computed k w) → Redex s.arities (few-listed s (well b sh acc)) u (record { number = k; word = w })
    built f =
        let few = few-listed s (well b sh acc) in
        let q = (match-computed b sh acc (u ++ d) (ap (λ y. y.rule) (sym e) ∙ f)).1 in
        computed-built s.arities few whole _ (sym (computed-rest s.arities few d whole) ∙ q)

    -- the words of the stretches fill its left side to the subterm
    listed-instance : {n rhs size : ℕ} → m.rule ≡ Some (First n rhs size) → instance (value (u ++ d) (bindings_of m)) (rule s n).lhs ≡ u
    listed-instance {n} f =
        instance-cong (value (u ++ d) (bindings_of m)) (λ v. get_or (c f).σ v []) (rule s n).lhs
        (λ v k st y. ap (λ x. value (u ++ d) (bindings_of x) k) (book-match (u ++ d) m e f) ∙ sym ((c f).reads.values k))
        ∙ (bind-sound s.arities (few-symbols s (well b sh acc)) d [] (c f).σ (law f).left (law f).numbered whole refl (bound f)).filled

    -- a rule is found, listed or built in: the words of the stretches fill its left side to the subterm
    pub found-instance : (x : Contraction) → contraction_of b (u ++ d) m ≡ some x →
        (r : Rule) × RuleOf s x.number r × (instance (value (u ++ d) (bindings_of m)) r.lhs ≡ u)
    found-instance x f = go m.rule refl
      where
        number : {k : ℕ} {v : List ℕ} → contraction s (u ++ d) ≡ some (record { number = k; reduct = v }) → k ≡ x.number
        number {k} {v} q =
            let y = sym q ∙ sym (match-redex (u ++ d) m e) ∙ f in
            let z : record { number = k; reduct = v } ≡ x = cc in
            ap (λ y. y.number) z

        go : (o : Found FirstRule) → m.rule ≡ o → (r : Rule) × RuleOf s x.number r × (instance (value (u ++ d) (bindings_of m)) r.lhs ≡ u)
        go None q = absurd (let y = sym f ∙ match-redex (u ++ d) m e ∙ match_none (u ++ d) m e q in let z : ◌≡◌ {A = ℕ} 0 1 = cc in omega arith)
        go (Some (First n rhs size)) q =
            (rule s n, subst (λ k. RuleOf s k (rule s n)) (number (match-some (u ++ d) m e q)) (listed (inside q)), listed-instance q)
        go (Some (Computed k w)) q =
            let r = built q in (
              r.chosen,
              subst (λ k. RuleOf s k r.chosen) (number (match-word (u ++ d) m e q)) (built_in r.built),
              instance-ground (value (u ++ d) (bindings_of m)) r.chosen.lhs (built-ground r.built) ∙ sym r.left,
            )

    -- so a rule is found exactly if some rule matches
    pub found-exactly : (m.rule ≡ None) ↔ ((k : ℕ) (r : Rule) → RuleOf s k r → Matches s.arities (a ++ (u ++ d)) (length a) r → ⊥)
    found-exactly = (nothing-matches, λ h. go m.rule refl h)
      where
        matches : {x : Contraction} → contraction_of b (u ++ d) m ≡ some x → ((k : ℕ) (r : Rule) → RuleOf s k r → Matches s.arities (a ++ (u ++ d)) (length a) r → ⊥) → ⊥
        matches {x} f h = let c = first_matches x f in h x.number c.chosen c.known c.match

        go : (o : Found FirstRule) → m.rule ≡ o → ((k : ℕ) (r : Rule) → RuleOf s k r → Matches s.arities (a ++ (u ++ d)) (length a) r → ⊥) → m.rule ≡ None
        go None f h = f
        go (Some (First n rhs size)) f h = absurd (matches (match-redex (u ++ d) m e ∙ match-some (u ++ d) m e f) h)
        go (Some (Computed k w)) f h = absurd (matches (match-redex (u ++ d) m e ∙ match-word (u ++ d) m e f) h)
