-- A listed rule that is found over an accepted book, at a whole subterm: its sides, and what its variables stand for. A cut of its left side cuts
-- the subterm, and no stretch lies across the cut.
use Prim.Native.Nat.{ℕ, suc, ◌+◌, ◌≤◌, ◌<◌}
use native.Mathlib.Omega.{arith}
use mathlib.Core.Path.{◌≡◌, refl, sym, ap, ◌∙◌, subst}
use mathlib.Core.Logic.{◌⊎◌, inl, inr}
use mathlib.Core.Option.{Option, none, some}
use mathlib.Core.List.{List, [], ◌∷◌, ◌++◌}
use lib.ListN.{length, get_or, take, drop, length-append, take-append-drop}
use Rattle.std.specs.Prelude.{Option as Found, Some}
use Rattle.reader.specs.declared.Shape.{Shape}
use Rattle.system.specs.Limits.{variable}
use Rattle.system.specs.Signature.{Signature, Symbol}
use Rattle.system.specs.System.{System, Rule, rule, no_rule, instance}
use Rattle.system.specs.Terms.{Whole, Member, WellFormedRule}
use Rattle.reader.specs.Format.{encode_strategies, encode_rules}
use Rattle.reader.specs.Book.{system_of, Accepted}
use Rattle.system.proofs.Signatures.{few-symbols}
use Rattle.system.proofs.Members.{numbered_below}
use Rattle.system.proofs.Forests.{Wholes}
use Rattle.reader.proofs.Located.{RuleAt, rule-encoded}
use Rattle.layout.proofs.Books.{well, sections}
use Rattle.matching.specs.declared.Match.{Match}
use Rattle.matching.specs.declared.FirstRule.{FirstRule}
use Rattle.matching.specs.declared.FirstRule.TheVariants.{First}
use Rattle.matching.specs.Matching.{bind, contraction}
use Rattle.matching.specs.Bindings.{Bindings, no_bindings, bindings, match_from, match_listed, match_of, value, bindings_of}
use Rattle.matching.specs.rules.Searches.{reduct_length}
use Rattle.matching.proofs.Matched.{Bound, bind-sound, instance-cong}
use Rattle.matching.proofs.Words.{instance-append}
use Rattle.matching.proofs.BindingsAgree.{Reads, Agree, neither, both, rule-agree}
use Rattle.matching.proofs.Sources.{match-listed}
use Rattle.matching.proofs.Reducts.{match-some, match-within, reduct-length}
use Rattle.matching.proofs.Placed.{below-placed, any-placed, placed-split, placed-inside, placed-member}
use Rattle.matching.proofs.rules.MatchSteps.{from-nil, from-here, from_next}

-- ---- the rule that is found, with its left side's bindings and its right side's words

module _ (b ws : List ℕ) (g : Signature) where
  record Listing (rs : List Rule) (k n rhs size : ℕ) (a : Bindings) : Type 0 where
    index : ℕ
    number : n ≡ k + index
    inside : index < length rs
    bound : bindings g ws (get_or rs index no_rule).lhs 0 no_bindings ≡ some a
    words : take size (drop rhs b) ≡ (get_or rs index no_rule).rhs

  module _ (m : Match) {n rhs size : ℕ} (f : m.rule ≡ Some (First n rhs size)) where
    listing : (rs : List Rule) (k at : ℕ) → drop at b ≡ encode_rules rs → m ≡ match_from g rs k at ws → Listing rs k n rhs size (bindings_of m)
    listing [] k at e q = absurd (let y = q ∙ from-nil g k at ws in let z : ◌≡◌ {A = ℕ} 0 1 = cc in omega arith)
    listing (r ∷ rs) k at e q = go (bindings g ws r.lhs 0 no_bindings) refl (listing rs (suc k) next stands.rests)
      where
        next : ℕ
        next = at + 1 + length r.lhs + 1 + length r.rhs

        stands : RuleAt b at r rs
        stands = rule-encoded b at r rs e

        go : (o : Option Bindings) → bindings g ws r.lhs 0 no_bindings ≡ o → (m ≡ match_from g rs (suc k) next ws → Listing rs (suc k) n rhs size (bindings_of m)) →
            Listing (r ∷ rs) k n rhs size (bindings_of m)
        go none y ih =
            let c = ih (q ∙ from_next g r rs k at ws y) in
            record { index = suc c.index; number = (let z = c.number in omega arith); inside = (let z = c.inside in omega arith); bound = c.bound; words = c.words }
        go (some x) y ih =
            let z = q ∙ from-here g r rs k at ws x y in
            let i : ◌≡◌ {A = Found FirstRule} (Some (First k (at + 1 + length r.lhs + 1) (length r.rhs))) (Some (First n rhs size)) = ap (λ y. y.rule) (sym z) ∙ f in
            let i₀ : k ≡ n = cc in
            let i₁ : at + 1 + length r.lhs + 1 ≡ rhs = cc in
            let i₂ : length r.rhs ≡ size = cc in
            record {
              index = 0;
              number = omega arith;
              inside = omega arith;
              bound = y ∙ ap (λ y. some (bindings_of y)) (sym z);
              words = rw (← i₁, ← i₂) stands.right-words;
            }

-- what was bound to stretches is bound by `bind`
agreed : {ws : List ℕ} {a : Bindings} {o : Option (List (List ℕ))} {p : Option Bindings} → Agree ws o p → p ≡ some a → (σ : List (List ℕ)) × (o ≡ some σ) × Reads ws σ a
agreed neither q = absurd (let z : ◌≡◌ {A = ℕ} 0 1 = cc in omega arith)
agreed {ws} {a} (both {σ} {a = x} h) q = let z : x ≡ a = cc in (σ, refl, subst (Reads ws σ) z h)

-- ---- over an accepted book, at a whole subterm u

module _ (b : List ℕ) (sh : Shape) (acc : Accepted b sh) where
  abbrev s : System
  s = system_of b

  module _ (d : List ℕ) {u : List ℕ} (whole : Whole s.arities u) (m : Match) (e : m ≡ match_of s (u ++ d)) {k rhs size : ℕ} (f : m.rule ≡ Some (First k rhs size)) where
    abbrev lhs : List ℕ
    lhs = (rule s k).lhs

    abbrev a : Bindings
    a = bindings_of m

    abbrev σ : ℕ → List ℕ
    σ = value (u ++ d) a

    found-listing : Listing b (u ++ d) s.arities s.rules 0 k rhs size a
    unfolding match_listed
    found-listing =
        listing b (u ++ d) s.arities m f s.rules 0 (length s.arities + 3 + length (encode_strategies s.strategies)) (sections b sh acc).rules
        (e ∙ match-listed b sh acc (u ++ d) (ap (λ y. y.rule) (sym e) ∙ f))

    found-index : found-listing.index ≡ k
    found-index = let z = found-listing.number in omega arith

    -- the rule is one of the book's, and well formed; its right side's words are the book's
    pub match-inside : k < length s.rules
    match-inside = let z = found-listing.inside in omega (arith, found-index)

    pub match-law : WellFormedRule s.arities (rule s k)
    match-law = (well b sh acc).well_formed_rules k match-inside

    pub match-words : take size (drop rhs b) ≡ (rule s k).rhs
    match-words = subst (λ y. take size (drop rhs b) ≡ (rule s y).rhs) found-index found-listing.words

    match-bound : bindings s.arities (u ++ d) lhs 0 no_bindings ≡ some a
    match-bound = subst (λ y. bindings s.arities (u ++ d) (rule s y).lhs 0 no_bindings ≡ some a) found-index found-listing.bound

    -- so its reduct is by its right side
    pub match-contracts : contraction s (u ++ d) ≡ some (record { number = k; reduct = instance σ (rule s k).rhs })
    match-contracts = match-some b sh acc (u ++ d) m e f ∙ ap (λ y. some (record { number = k; reduct = instance σ y })) match-words

    -- its variables stand in its left side
    pub match-known : (v : ℕ) → Member (variable + v) (rule s k).rhs → Member (variable + v) lhs
    match-known v st =
        placed-member s.arities (u ++ d) (below-placed s.arities (u ++ d) match-law match-bound v (let z = match-law.known (variable + v) st in omega arith))

    -- ---- what the variables stand for

    values : (τ : List (List ℕ)) × (bind s.arities lhs (u ++ d) [] ≡ some τ) × Reads (u ++ d) τ a
    values = agreed (rule-agree (u ++ d) s.arities match-law) match-bound

    sound : Bound s.arities (few-symbols s (well b sh acc)) [] values.0 match-law.count lhs u
    sound = bind-sound s.arities (few-symbols s (well b sh acc)) d [] values.0 match-law.left match-law.numbered whole refl values.1

    -- its left side, filled, is the subterm
    pub match-left : u ≡ instance σ lhs
    match-left = sym (instance-cong σ (λ v. get_or values.0 v []) lhs (λ w n st y. sym (values.2.values n)) ∙ sound.filled)

    -- each variable stands for a whole term
    pub match-whole : (v : ℕ) → Member (variable + v) lhs → Whole s.arities (σ v)
    match-whole v st =
        let w = subst (Wholes s.arities (Symbol s.arities)) (sym sound.equal) sound.wholes in
        let h : v < length values.0 = (let z = numbered_below match-law.numbered st in let n = sound.count in omega arith) in
        subst (Whole s.arities) (values.2.values v) (w v h)

    -- ---- where the stretches lie

    -- how long a side is, or a part of one, when it is filled
    pub side-length : (ls : List ℕ) → length (instance σ ls) ≡ reduct_length m.lengths ls
    side-length = reduct-length (u ++ d) a (match-within b sh acc (u ++ d) m e)

    pub match-width : length u ≡ reduct_length m.lengths lhs
    match-width = ap length match-left ∙ side-length lhs

    -- every stretch lies in u, and on one side of each cut of the left side
    pub match-fits : (v : ℕ) → get_or m.starts v 0 + get_or m.lengths v 0 ≤ length u
    match-fits v =
        let n = match-width in
        elim (any-placed s.arities (u ++ d) match-law match-bound v) [
          | inl p ↦ let z = placed-inside s.arities (u ++ d) p in omega arith
          | inr z ↦ omega arith
        ]

    pub match-split : (j v : ℕ) → (get_or m.starts v 0 + get_or m.lengths v 0 ≤ reduct_length m.lengths (take j lhs)) ⊎
        (reduct_length m.lengths (take j lhs) ≤ get_or m.starts v 0)
    match-split j v =
        elim (any-placed s.arities (u ++ d) match-law match-bound v) [
          | inl p ↦ elim (placed-split s.arities (u ++ d) p j) [ inl h ↦ inl (omega arith) | inr h ↦ inr (omega arith) ]
          | inr z ↦ inl (omega arith)
        ]

    -- ---- a cut of the left side: the subterm is what both parts are filled to

    pub split-redex : (j : ℕ) → u ≡ instance σ (take j lhs) ++ instance σ (drop j lhs)
    split-redex j = match-left ∙ ap (instance σ) (sym (take-append-drop j lhs)) ∙ instance-append σ (take j lhs) (drop j lhs)

    pub split-front : (j : ℕ) → length (instance σ (take j lhs)) ≡ reduct_length m.lengths (take j lhs)
    split-front j = side-length (take j lhs)

    pub split-back : (j : ℕ) → length (instance σ (drop j lhs)) ≡ reduct_length m.lengths (drop j lhs)
    split-back j = side-length (drop j lhs)

    pub split-length : (j : ℕ) → length u ≡ reduct_length m.lengths (take j lhs) + reduct_length m.lengths (drop j lhs)
    split-length j =
        let z = ap length (split-redex j) ∙ length-append (instance σ (take j lhs)) (instance σ (drop j lhs)) in
        omega (arith, split-front j, split-back j)
