-- The stretches are what `bind` finds: the same rules match, and the words of the stretches are bind's substitution. So the answer of the
-- search is the first redex.
use Prim.Native.Nat.{ℕ, suc, ◌+◌, ◌-◌, ◌≤◌, ◌<◌}
use native.Mathlib.Omega.{arith}
use native.Mathlib.Numerals.{add-one}
use native.Mathlib.Decide.{ℕ_discrete, dec_lt}
use mathlib.Core.Path.{◌≡◌, refl, sym, ap, ◌∙◌, subst, subst₂}
use mathlib.Core.Bool.{true}
use mathlib.Core.Option.{Option, none, some}
use mathlib.Core.List.{List, [], ◌∷◌, ◌++◌}
use lib.ListN.{length, get_or, take, drop, set, length-append, length-drop, get_or-eq_default, get_or-append}
use lib.Seq.{get_or_at, get_or-set_other, drop-cons}
use Rattle.std.specs.Prelude.{None, Some}
use Rattle.system.specs.Limits.{variable, variables}
use Rattle.system.specs.Signature.{Signature, span, subterm}
use Rattle.system.specs.System.{Rule, no_rule, instance}
use Rattle.system.specs.Terms.{Numbered, end, symbol, next, again, WellFormedRule}
use Rattle.reader.specs.Format.{encode_rules}
use Rattle.system.proofs.Members.{member-get_or, numbered-le}
use Rattle.reader.proofs.Located.{RuleAt, rule-encoded}
use Rattle.system.proofs.words.SpanSteps.{span-le, span-some}
use Rattle.matching.specs.Matching.{same_words, bind, Contraction, first_match}
use Rattle.matching.specs.declared.Match.{Match}
use Rattle.matching.specs.declared.FirstRule.TheVariants.{First, Computed}
use Rattle.matching.specs.Bindings.{Bindings, no_bindings, consumed, bindings, no_match, match_from, value, bindings_of, contraction_of}
use Rattle.matching.specs.rules.Searches.{RightSideAt, Within}
use Rattle.matching.proofs.Matched.{bind-nil, instance-cong}
use Rattle.matching.proofs.Firsts.{first-here, first_next, first-nil}
use Rattle.matching.proofs.SameWords.{same_self, differ_same, same-words}
use Rattle.matching.proofs.Words.{match-end, match-symbol, match-differ, match-variable, match-again, match-unlike}
use Rattle.matching.proofs.Stretches.{none-length, within_none, value_none, length-same, within-set, value_same, value-other}
use Rattle.matching.proofs.rules.MatchSteps.{consumed-end, consumed-variable, consumed-differ, consumed-same, with_binding-symbol, with_binding-old, with_binding-new}
use Rattle.matching.proofs.rules.MatchSteps.{taken-symbol, taken-new, taken-again, taken-unlike, taken_none}
use Rattle.matching.proofs.rules.MatchSteps.{words-end, words-stop, words-next, from-nil, from-here, from_next}

module _ (t : List ℕ) where
  -- the values that were bound are the words of the stretches
  pub record Reads (σ : List (List ℕ)) (a : Bindings) : Type 0 where
    pub values : (v : ℕ) → get_or σ v [] ≡ value t a v
    pub within : Within t a.starts a.lengths
    -- those that were bound have a stretch, and the others none
    pub known : (v : ℕ) → v < length σ → 0 < get_or a.lengths v 0
    pub others : (v : ℕ) → length σ ≤ v → get_or a.lengths v 0 ≡ 0

  pub data Agree : Option (List (List ℕ)) → Option Bindings → Type 0 where
    neither : Agree none none
    both : {σ : List (List ℕ)} {a : Bindings} → Reads σ a → Agree (some σ) (some a)

  pub reads_none : Reads [] no_bindings
  reads_none = record {
    values = λ v. sym (value_none t v);
    within = within_none t;
    known = λ v h. absurd (omega arith);
    others = λ v h. none-length v;
  }

  -- one stretch more
  module _ (σ : List (List ℕ)) (a : Bindings) (n q m : ℕ) (count : length σ ≡ n) (few : n < variables) (fits : q + m ≤ length t) (some : 0 < m) (before : Reads σ a) where
    abbrev a' : Bindings
    a' = record { starts = set a.starts n q; lengths = set a.lengths n m }

    abbrev x : List ℕ
    x = take m (drop q t)

    longer : length (σ ++ x ∷ []) ≡ length σ + 1
    longer = length-append σ (x ∷ [])

    same : value t a' n ≡ x
    same = value_same t before.within n q m few

    other : (v : ℕ) → (v ≡ n → ⊥) → value t a' v ≡ value t a v
    other = value-other t before.within n q m few

    values-at : (v : ℕ) → get_or (σ ++ x ∷ []) v [] ≡ value t a' v
    values-at v = elim (ℕ_discrete v n) [
      | yes e ↦ subst (λ y. get_or (σ ++ x ∷ []) y [] ≡ value t a' y) (sym e) (get_or_at σ x [] [] n count ∙ sym same)
      | no d ↦ elim (dec_lt v n) [
        | yes h ↦ get_or-append σ (x ∷ []) [] v (omega arith) ∙ before.values v ∙ sym (other v d)
        | no h ↦
            get_or-eq_default (σ ++ x ∷ []) [] {n = v} (rw longer (omega arith))
            ∙ sym (get_or-eq_default σ [] {n = v} (omega arith)) ∙ before.values v ∙ sym (other v d)
      ]
    ]

    known_at : (v : ℕ) → v < length σ + 1 → 0 < get_or a'.lengths v 0
    known_at v h = elim (ℕ_discrete v n) [
      | yes e ↦ rw (e, length-same t before.within n q m few) some
      | no d ↦ rw (get_or-set_other a.lengths n v m 0 d) (before.known v (omega arith))
    ]

    reads_more : Reads (σ ++ x ∷ []) a'
    reads_more = record {
      values = values-at;
      within = within-set t before.within n q m few fits;
      known = λ v h. known_at v (rw longer at h);
      others = λ v h. let l = rw longer at h in get_or-set_other a.lengths n v m 0 (λ e. omega arith) ∙ before.others v (omega arith);
    }

  module _ (g : Signature) where
    -- behind the last word nothing is bound
    agree-past : (l : ℕ) (ls : List ℕ) (q : ℕ) (σ : List (List ℕ)) (a : Bindings) → length t ≤ q → Agree (bind g (l ∷ ls) (drop q t) σ) (bindings g t (l ∷ ls) q a)
    agree-past l ls q σ a past =
        let e : length (drop q t) ≡ 0 = rw (length-drop q t) (omega arith) in
        rw (
          match-end g (l ∷ ls) t 0 q σ (omega arith) past,
          words-stop g t (l ∷ ls) 0 q a (omega arith) l refl 0 (sym (taken_none g t l q a (consumed-end g l (drop q t) e))) refl,
        ) neither

    agree : {n m : ℕ} {ls : List ℕ} → Numbered n m ls → m ≤ variables → (q : ℕ) → q ≤ length t → (σ : List (List ℕ)) (a : Bindings) → length σ ≡ n → Reads σ a →
        Agree (bind g ls (drop q t) σ) (bindings g t ls q a)
    unfolding subterm
    agree end few q h σ a c r = rw (bind-nil g (drop q t) σ, words-end g t [] 0 q a (omega arith)) (both r)
    agree (symbol {w = l} {ws = ls} v nb) few q h σ a c r =
        let w = taken-symbol g t l q a v in
        elim (dec_lt q (length t)) [
          | no past ↦ agree-past l ls q σ a (omega arith)
          | yes here ↦
              let some : 0 < length (drop q t) = rw (length-drop q t) (omega arith) in
              let front : get_or (drop q t) 0 0 ≡ get_or t q 0 = ap (λ y. get_or y 0 0) (drop-cons t q 0 here) in
              elim (ℕ_discrete l (get_or t q 0)) [
                | yes e ↦
                    rw (
                      match-symbol g (l ∷ ls) t 0 q σ (omega arith) here v e,
                      ← add-one q,
                      words-next g t (l ∷ ls) 0 q a (omega arith) l refl 1 (sym (w ∙ consumed-same g l (drop q t) some v (e ∙ sym front))) (omega arith),
                      with_binding-symbol l a q 1 v,
                    )
                    (agree nb few (q + 1) (omega arith) σ a c r)
                | no d ↦
                    rw (
                      match-differ g (l ∷ ls) t 0 q σ (omega arith) here v d,
                      words-stop g t (l ∷ ls) 0 q a (omega arith) l refl 0 (sym (w ∙ consumed-differ g l (drop q t) some v (λ e. d (e ∙ front)))) refl,
                    ) neither
              ]
        ]
    agree (next {n} {m} {w = l} {ws = ls} e nb) few q h σ a c r =
        let v : variable ≤ l = omega arith in
        let i : l - variable ≡ n = omega arith in
        let new = r.others (l - variable) (omega arith) in
        elim (dec_lt q (length t)) [
          | no past ↦ agree-past l ls q σ a (omega arith)
          | yes here ↦
              let some : 0 < length (drop q t) = rw (length-drop q t) (omega arith) in
              let k : ℕ = span g (drop q t) 1 in
              let fits : q + k ≤ length t = (let b = rw (length-drop q t) at (span-le g (drop q t) 1) in omega arith) in
              rw (
                match-variable g (l ∷ ls) t 0 q σ (omega arith) here v (omega arith),
                words-next g t (l ∷ ls) 0 q a (omega arith) l refl k (sym (taken-new g t l q a new ∙ consumed-variable g l (drop q t) some v)) (span-some g (drop q t) some),
                with_binding-new l a q k v new,
                i,
              )
              (agree nb few (q + k) fits (σ ++ take k (drop q t) ∷ []) _ (rw (length-append σ (take k (drop q t) ∷ [])) (omega arith))
              (reads_more σ a n q k c (let z = numbered-le nb in omega arith) fits (span-some g (drop q t) some) r))
        ]
    agree (again {n} {m} {v = y} {w = l} {ws = ls} e b nb) few q h σ a c r =
        let v : variable ≤ l = omega arith in
        let known : l - variable < length σ = omega arith in
        let old = r.known (l - variable) known in
        elim (dec_lt q (length t)) [
          | no past ↦ agree-past l ls q σ a (omega arith)
          | yes here ↦
              let some : 0 < length (drop q t) = rw (length-drop q t) (omega arith) in
              let k : ℕ = span g (drop q t) 1 in
              let takes : consumed g l (drop q t) ≡ k = consumed-variable g l (drop q t) some v in
              let fits : q + k ≤ length t = (let b = rw (length-drop q t) at (span-le g (drop q t) 1) in omega arith) in
              let is = r.values (l - variable) in
              let like : same_words (value t a (l - variable)) (take (consumed g l (drop q t)) (drop q t)) ≡ same_words (get_or σ (l - variable) []) (take k (drop q t)) =
              ap (λ x. same_words x (take (consumed g l (drop q t)) (drop q t))) (sym is) ∙ ap (λ j. same_words (get_or σ (l - variable) []) (take j (drop q t))) takes in
              elim (same-words (get_or σ (l - variable) []) (take k (drop q t))) [
                | yes s ↦
                    let z : same_words (get_or σ (l - variable) []) (take k (drop q t)) ≡ true = rw s (same_self (take k (drop q t))) in
                    rw (
                      match-again g (l ∷ ls) t 0 q σ (omega arith) here v known s,
                      words-next g t (l ∷ ls) 0 q a (omega arith) l refl k (sym (taken-again g t l q a v old (like ∙ z) ∙ takes)) (span-some g (drop q t) some),
                      with_binding-old l a q k v old,
                    )
                    (agree nb few (q + k) fits σ a c r)
                | no d ↦
                    rw (
                      match-unlike g (l ∷ ls) t 0 q σ (omega arith) here v known d,
                      words-stop g t (l ∷ ls) 0 q a (omega arith) l refl 0 (sym (taken-unlike g t l q a v old (like ∙ differ_same _ _ d))) refl,
                    ) neither
              ]
        ]

    -- the left side of a rule
    pub rule-agree : {r : Rule} → WellFormedRule g r → Agree (bind g r.lhs t []) (bindings g t r.lhs 0 no_bindings)
    rule-agree law = agree law.numbered law.variable_bound 0 (omega arith) [] no_bindings refl reads_none

-- ---- the answer of the search

module _ (b ws : List ℕ) where
  contraction-nothing : contraction_of b ws no_match ≡ none
  unfolding contraction_of
  contraction-nothing = refl

  contraction-found : (k rhs size : ℕ) (a : Bindings) →
      contraction_of b ws (record { rule = Some (First k rhs size); starts = a.starts; lengths = a.lengths }) ≡ some (record { number = k; reduct = instance (value ws a) (take size (drop rhs b)) })
  unfolding contraction_of
  contraction-found k rhs size a = refl

  module _ (g : Signature) where
    -- a rule that stands at `at`
    module _ (r : Rule) (rs : List Rule) (k at : ℕ) (stands : RuleAt b at r rs) (law : WellFormedRule g r) where
      abbrev rhs : ℕ
      rhs = at + 1 + length r.lhs + 1

      right_side : RightSideAt b rhs (length r.rhs)
      right_side = record {
        fits = stands.fits;
        right = rw stands.right-words (record {
          small = law.short_right;
          known = λ j h. let z = law.known (get_or r.rhs j 0) (member-get_or r.rhs j h) in omega (arith, law.variable_bound);
        });
      }

      -- the same reduct
      found-contraction : (σ : List (List ℕ)) (a : Bindings) → Reads ws σ a →
          instance (value ws a) (take (length r.rhs) (drop rhs b)) ≡ instance (λ v. get_or σ v []) r.rhs
      found-contraction σ a h =
          (ap (instance (value ws a)) stands.right-words ∙ instance-cong (value ws a) (λ v. get_or σ v []) r.rhs (λ w n st e. sym (h.values n)))

    -- the rule that was found is bound, by the words of the stretches
    pub record Chosen (rs : List Rule) (k n : ℕ) (a : Bindings) : Type 0 where
      pub index : ℕ
      pub number : n ≡ k + index
      pub inside : index < length rs
      pub σ : List (List ℕ)
      pub bound : bind g (get_or rs index no_rule).lhs ws [] ≡ some σ
      pub reads : Reads ws σ a

    -- what the search found: the first redex, with its right side and stretches
    pub record Answers (rs : List Rule) (k : ℕ) (m : Match) : Type 0 where
      pub contraction : contraction_of b ws m ≡ first_match g rs k ws
      pub right : (n rhs size : ℕ) → m.rule ≡ Some (First n rhs size) → RightSideAt b rhs size
      pub within : Within ws m.starts m.lengths
      pub chosen : (n rhs size : ℕ) → m.rule ≡ Some (First n rhs size) → Chosen rs k n (bindings_of m)
      -- nothing is found that is not listed, and nothing is bound where nothing is found
      pub listed : (n w : ℕ) → m.rule ≡ Some (Computed n w) → ⊥
      pub nothing : m.rule ≡ None → m ≡ no_match

    answers-nothing : (k : ℕ) → Answers [] k no_match
    answers-nothing k = record {
      contraction = contraction-nothing ∙ sym (first-nil g k ws);
      right = λ n rhs size e. absurd (let z : ◌≡◌ {A = ℕ} 0 1 = cc in omega arith);
      within = (reads_none ws).within;
      chosen = λ n rhs size e. absurd (let z : ◌≡◌ {A = ℕ} 0 1 = cc in omega arith);
      listed = λ n w e. let z : ◌≡◌ {A = ℕ} 0 1 = cc in omega arith;
      nothing = λ e. refl;
    }

    pub answers : (rs : List Rule) (k at : ℕ) → drop at b ≡ encode_rules rs → ((j : ℕ) → j < length rs → WellFormedRule g (get_or rs j no_rule)) → Answers rs k (match_from g rs k at ws)
    answers [] k at e law = rw (from-nil g k at ws) (answers-nothing k)
    answers (r ∷ rs) k at e law = go (rule-agree ws g l) refl refl (answers rs (suc k) (at + 1 + length r.lhs + 1 + length r.rhs) stands.rests (λ j h. law (suc j) (omega arith)))
      where
        stands : RuleAt b at r rs
        stands = rule-encoded b at r rs e

        l : WellFormedRule g r
        l = law 0 (omega arith)

        go : {o : Option (List (List ℕ))} {p : Option Bindings} → Agree ws o p → bind g r.lhs ws [] ≡ o → bindings g ws r.lhs 0 no_bindings ≡ p →
            Answers rs (suc k) (match_from g rs (suc k) (at + 1 + length r.lhs + 1 + length r.rhs) ws) → Answers (r ∷ rs) k (match_from g (r ∷ rs) k at ws)
        go neither d q ih = rw (from_next g r rs k at ws q) (record {
          contraction = ih.contraction ∙ sym (first_next g r rs k ws d);
          right = ih.right;
          within = ih.within;
          chosen = λ n rhs size e. let c = ih.chosen n rhs size e in record {
            index = suc c.index;
            number = (let z = c.number in omega arith);
            inside = (let z = c.inside in omega arith);
            σ = c.σ;
            bound = c.bound;
            reads = c.reads;
          };
          listed = ih.listed;
          nothing = ih.nothing;
        })
        go (both {σ} {a} h) d q ih =
            let x : ℕ = at + 1 + length r.lhs + 1 in
            let f : List ℕ → Option Contraction = λ y. some (record { number = k; reduct = y }) in
            rw (from-here g r rs k at ws a q) (record {
              contraction = contraction-found k x (length r.rhs) a ∙ ap f (found-contraction r rs k at stands l σ a h) ∙ sym (first-here g r rs k ws σ d);
              right = λ n rhs size e.
                  let e₁ : x ≡ rhs = cc in
                  let e₂ : length r.rhs ≡ size = cc in
                  subst₂ (λ y z. RightSideAt b y z) e₁ e₂ (right_side r rs k at stands l);
              within = h.within;
              chosen = λ n rhs size e. let z : k ≡ n = cc in record { index = 0; number = omega arith; inside = omega arith; σ = σ; bound = d; reads = h };
              listed = λ n w e. let z : ◌≡◌ {A = ℕ} 0 1 = cc in omega arith;
              nothing = λ e. absurd (let z : ◌≡◌ {A = ℕ} 0 1 = cc in omega arith);
            })
