-- Where the stretches of a match lie: that of a variable starts where the words before it in the left side end, and what the side does not
-- name has none. So no stretch lies across a cut of the left side.
use Prim.Native.Nat.{ℕ, zero, suc, ◌+◌, ◌-◌, ◌≤◌, ◌<◌}
use native.Mathlib.Omega.{arith}
use native.Mathlib.Decide.{ℕ_discrete, dec_lt}
use mathlib.Core.Path.{◌≡◌, refl, sym, ap, ◌∙◌, subst}
use mathlib.Core.Logic.{◌⊎◌, inl, inr}
use mathlib.Core.Option.{some}
use mathlib.Core.List.{List, [], ◌∷◌, ◌++◌}
use lib.ListN.{length, get_or, take, drop, set, length-drop, take-append-drop}
use lib.Seq.{get_or-set_other, take-suc, take-take, take-length, length-take-le}
use Rattle.system.specs.Limits.{variable, variables}
use Rattle.system.specs.Signature.{Signature, span}
use Rattle.system.specs.System.{Rule}
use Rattle.system.specs.Terms.{Member, Numbered, end, symbol, next, again, WellFormedRule}
use Rattle.system.proofs.Members.{member-get_or, numbered-le}
use Rattle.matching.specs.Bindings.{Bindings, no_bindings, consumed, value, taken, with_binding, bindings}
use Rattle.matching.specs.rules.Searches.{reduct_length, Within}
use Rattle.matching.proofs.SameWords.{same_self, differ_same, same-words}
use Rattle.matching.proofs.Stretches.{none-start, none-length, within_none, value-length, start-same, length-same, within-set}
use Rattle.matching.proofs.Reducts.{length-done, length-symbol, length-variable}
use Rattle.matching.proofs.rules.MatchSteps.{consumed-variable, consumed-differ, consumed-same, consumed-le, with_binding-symbol, with_binding-old, with_binding-new}
use Rattle.matching.proofs.rules.MatchSteps.{taken-again, taken-unlike, taken-some, words-end, words-stop, words-next}

-- ---- the length of a side's instance, in parts

module _ (lengths : List ℕ) where
  pub reduct-append : (xs ys : List ℕ) → reduct_length lengths (xs ++ ys) ≡ reduct_length lengths xs + reduct_length lengths ys
  unfolding reduct_length
  reduct-append [] ys = omega arith
  reduct-append (w ∷ xs) ys = let ih = reduct-append xs ys in omega arith

  -- a longer front is no shorter
  reduct-take : (ls : List ℕ) (i j : ℕ) → i ≤ j → reduct_length lengths (take i ls) ≤ reduct_length lengths (take j ls)
  reduct-take ls i j h =
      let e = ap (reduct_length lengths) (sym (take-append-drop i (take j ls))) ∙ reduct-append (take i (take j ls)) (drop i (take j ls)) in
      let z = ap (reduct_length lengths) (take-take i j ls h) in
      omega arith

  reduct-none : reduct_length lengths [] ≡ 0
  reduct-none = length-done lengths [] 0 (omega arith)

  reduct-symbol : (w : ℕ) → w < variable → reduct_length lengths (w ∷ []) ≡ 1
  reduct-symbol w h = let z = length-symbol lengths (w ∷ []) 0 (omega arith) w refl h in omega (arith, reduct-none)

  reduct-variable : (w v : ℕ) → w ≡ variable + v → reduct_length lengths (w ∷ []) ≡ get_or lengths v 0
  reduct-variable w v e =
      let i : w - variable ≡ v = omega arith in
      let z = rw i at (length-variable lengths (w ∷ []) 0 (omega arith) w refl (omega arith)) in
      omega (arith, reduct-none)

-- ---- a side that is bound to the words of t from number q on

module _ (g : Signature) (t : List ℕ) where
  -- the stretch of v starts where the words before it end, and is one subterm
  pub record Placed (a : Bindings) (q : ℕ) (ls : List ℕ) (v : ℕ) : Type 0 where
    pub index : ℕ
    pub inside : index < length ls
    pub word : get_or ls index 0 ≡ variable + v
    pub start : get_or a.starts v 0 ≡ q + reduct_length a.lengths (take index ls)
    pub spans : get_or a.lengths v 0 ≡ span g (drop (get_or a.starts v 0) t) 1

  -- the first word of the side takes some words
  record Taken (l : ℕ) (ls : List ℕ) (q : ℕ) (a a' : Bindings) : Type 0 where
    words : ℕ
    takes : taken g t l q a ≡ words
    goes : bindings g t ls (q + words) (with_binding l q words a) ≡ some a'
    one : l < variable → words ≡ 1
    spans : variable ≤ l → words ≡ span g (drop q t) 1
    some_words : 0 < words
    fits : words ≤ length (drop q t)

  takes-some : (l : ℕ) (ls : List ℕ) (q : ℕ) (a a' : Bindings) → bindings g t (l ∷ ls) q a ≡ some a' → Taken l ls q a a'
  takes-some l ls q a a' e = go (taken g t l q a) refl
    where
      go : (n : ℕ) → taken g t l q a ≡ n → Taken l ls q a a'
      go zero c = absurd (let z : ◌≡◌ {A = ℕ} 0 1 = cc (words-stop g t (l ∷ ls) 0 q a (omega arith) l refl 0 (sym c) refl) in omega arith)
      go (suc n) c =
          let k : consumed g l (drop q t) ≡ suc n = sym (taken-some g t l q a (λ z. omega arith)) ∙ c in
          let m = consumed-le g l (drop q t) in
          let here : 0 < length (drop q t) = omega arith in
          record {
            words = suc n;
            takes = c;
            goes = sym (words-next g t (l ∷ ls) 0 q a (omega arith) l refl (suc n) (sym c) (omega arith)) ∙ e;
            one = λ h. elim (ℕ_discrete l (get_or (drop q t) 0 0)) [
              | yes y ↦ sym k ∙ consumed-same g l (drop q t) here h y
              | no y ↦ absurd (let z = consumed-differ g l (drop q t) here h y in omega arith)
            ];
            spans = λ h. sym k ∙ consumed-variable g l (drop q t) here h;
            some_words = omega arith;
            fits = omega arith;
          }

  -- the same seen from the word before
  before : {l : ℕ} {ls : List ℕ} {q n v : ℕ} {a : Bindings} → reduct_length a.lengths (l ∷ []) ≡ n → Placed a (q + n) ls v → Placed a q (l ∷ ls) v
  before {l} {ls} {a} e p = record {
    index = suc p.index;
    inside = (let z = p.inside in omega arith);
    word = p.word;
    start = (let z = p.start in let y = reduct-append a.lengths (l ∷ []) (take p.index ls) in omega arith);
    spans = p.spans;
  }

  -- which variables have a stretch after n different ones
  record First (a : Bindings) (n : ℕ) : Type 0 where
    within : Within t a.starts a.lengths
    known : (v : ℕ) → v < n → 0 < get_or a.lengths v 0
    others : (v : ℕ) → n ≤ v → get_or a.lengths v 0 ≡ 0

  -- a binding more
  abbrev bound : ℕ → ℕ → ℕ → Bindings → Bindings
  bound n q k a = record { starts = set a.starts n q; lengths = set a.lengths n k }

  module _ {l : ℕ} {ls : List ℕ} {q : ℕ} {a a' : Bindings} (c : Taken l ls q a a') where
    goes-symbol : l < variable → bindings g t ls (q + c.words) a ≡ some a'
    goes-symbol h = rw (with_binding-symbol l a q c.words h) at c.goes

    module _ {n v : ℕ} (f : First a n) (e : l ≡ variable + v) where
      index : l - variable ≡ v
      index = omega arith

      goes-new : n ≡ v → bindings g t ls (q + c.words) (bound v q c.words a) ≡ some a'
      goes-new i = rw (with_binding-new l a q c.words (omega arith) (f.others (l - variable) (omega (arith, index))), index) at c.goes

      first_more : n ≡ v → v < variables → First (bound v q c.words a) (suc v)
      first_more i few = record {
        within = within-set t f.within v q c.words few (let z = c.fits in let s = c.some_words in let y = length-drop q t in omega arith);
        known = λ u h. elim (ℕ_discrete u v) [
          | yes z ↦ rw (z, length-same t f.within v q c.words few) c.some_words
          | no d ↦ rw (get_or-set_other a.lengths v u c.words 0 d) (f.known u (omega arith))
        ];
        others = λ u h. get_or-set_other a.lengths v u c.words 0 (λ z. omega arith) ∙ f.others u (omega arith);
      }

      module _ (old : v < n) where
        has : 0 < get_or a.lengths (l - variable) 0
        has = f.known (l - variable) (omega (arith, index))

        goes-old : bindings g t ls (q + c.words) a ≡ some a'
        goes-old = rw (with_binding-old l a q c.words (omega arith) has) at c.goes

        -- the same words, so as many
        as_many : get_or a.lengths v 0 ≡ c.words
        as_many = elim (same-words (value t a (l - variable)) (take (consumed g l (drop q t)) (drop q t))) [
          | yes s ↦
              let k = sym (taken-again g t l q a (omega arith) has (rw s (same_self (take (consumed g l (drop q t)) (drop q t))))) ∙ c.takes in
              sym (ap (λ u. get_or a.lengths u 0) index) ∙ sym (value-length t a f.within (l - variable)) ∙ ap length s
              ∙ length-take-le (consumed g l (drop q t)) (drop q t) (consumed-le g l (drop q t)) ∙ k
          | no d ↦ absurd (let z = taken-unlike g t l q a (omega arith) has (differ_same _ _ d) in let y = c.takes in let s = c.some_words in omega arith)
        ]

  -- what is bound is kept: a stretch is noted where a variable stands first
  record Kept (a a' : Bindings) (v : ℕ) : Type 0 where
    start : get_or a'.starts v 0 ≡ get_or a.starts v 0
    words : get_or a'.lengths v 0 ≡ get_or a.lengths v 0

  kept : {n m : ℕ} {ls : List ℕ} → Numbered n m ls → m ≤ variables → (q : ℕ) (a a' : Bindings) → First a n → bindings g t ls q a ≡ some a' →
      (v : ℕ) → (v < n) ⊎ (m ≤ v) → Kept a a' v
  kept end few q a a' f e v out = let z : a ≡ a' = cc (words-end g t [] 0 q a (omega arith)) in rw z (record { start = refl; words = refl })
  kept (symbol {w = l} {ws = ls} h nb) few q a a' f e v out =
      let c = takes-some l ls q a a' e in
      kept nb few (q + c.words) a a' f (goes-symbol c h) v out
  kept (next {n} {m} {w = l} {ws = ls} y nb) few q a a' f e v out =
      let c = takes-some l ls q a a' e in
      let z = numbered-le nb in
      let far : (v ≡ n → ⊥) × ((v < suc n) ⊎ (m ≤ v)) = elim out [
        | inl h ↦ (omega arith, inl (omega arith))
        | inr h ↦ (omega arith, inr h)
      ] in
      let k = kept nb few (q + c.words) _ a' (first_more c f y refl (omega arith)) (goes-new c f y refl) v far.1 in
      record {
        start = k.start ∙ get_or-set_other a.starts n v q 0 far.0;
        words = k.words ∙ get_or-set_other a.lengths n v c.words 0 far.0;
      }
  kept (again {w = l} {ws = ls} y b nb) few q a a' f e v out =
      let c = takes-some l ls q a a' e in
      kept nb few (q + c.words) a a' f (goes-old c f y b) v out

  placed : {n m : ℕ} {ls : List ℕ} → Numbered n m ls → m ≤ variables → (q : ℕ) (a a' : Bindings) → First a n → bindings g t ls q a ≡ some a' →
      (v : ℕ) → n ≤ v → v < m → Placed a' q ls v
  placed end few q a a' f e v from to = absurd (omega arith)
  placed (symbol {w = l} {ws = ls} h nb) few q a a' f e v from to =
      let c = takes-some l ls q a a' e in
      before (reduct-symbol a'.lengths l h ∙ sym (c.one h)) (placed nb few (q + c.words) a a' f (goes-symbol c h) v from to)
  placed (next {n} {m} {w = l} {ws = ls} y nb) few q a a' f e v from to =
      let c = takes-some l ls q a a' e in
      let z = numbered-le nb in
      let x = bound n q c.words a in
      let f' = first_more c f y refl (omega arith) in
      let k = kept nb few (q + c.words) x a' f' (goes-new c f y refl) n (inl (omega arith)) in
      let st : get_or a'.starts n 0 ≡ q = k.start ∙ start-same t f.within n q c.words (omega arith) in
      let ln : get_or a'.lengths n 0 ≡ c.words = k.words ∙ length-same t f.within n q c.words (omega arith) in
      elim (ℕ_discrete v n) [
        | yes i ↦ subst (Placed a' q (l ∷ ls)) (sym i) (record {
          index = 0;
          inside = omega arith;
          word = y;
          start = st ∙ omega (arith, reduct-none a'.lengths);
          spans = ln ∙ c.spans (omega arith) ∙ ap (λ y. span g (drop y t) 1) (sym st);
        })
        | no i ↦ before (reduct-variable a'.lengths l n y ∙ ln) (placed nb few (q + c.words) x a' f' (goes-new c f y refl) v (omega arith) to)
      ]
  placed (again {v = u} {w = l} {ws = ls} y b nb) few q a a' f e v from to =
      let c = takes-some l ls q a a' e in
      let k = kept nb few (q + c.words) a a' f (goes-old c f y b) u (inl b) in
      before (reduct-variable a'.lengths l u y ∙ k.words ∙ as_many c f y b) (placed nb few (q + c.words) a a' f (goes-old c f y b) v from to)

  -- ---- what that tells

  module _ {a : Bindings} {q : ℕ} {ls : List ℕ} {v : ℕ} (p : Placed a q ls v) where
    -- it ends where the words up to its own end
    placed-ends : get_or a.starts v 0 + get_or a.lengths v 0 ≡ q + reduct_length a.lengths (take (suc p.index) ls)
    placed-ends =
        let e = ap (reduct_length a.lengths) (take-suc ls p.index 0 p.inside) ∙ reduct-append a.lengths (take p.index ls) (get_or ls p.index 0 ∷ []) in
        let o = reduct-variable a.lengths (get_or ls p.index 0) v p.word in
        let s = p.start in
        omega arith

    pub placed-split : (j : ℕ) → (get_or a.starts v 0 + get_or a.lengths v 0 ≤ q + reduct_length a.lengths (take j ls)) ⊎
        (q + reduct_length a.lengths (take j ls) ≤ get_or a.starts v 0)
    placed-split j = elim (dec_lt p.index j) [
      | yes h ↦ inl (let z = reduct-take a.lengths ls (suc p.index) j h in omega (arith, placed-ends))
      | no h ↦ inr (let z = reduct-take a.lengths ls j p.index (omega arith) in omega (arith, p.start))
    ]

    pub placed-inside : get_or a.starts v 0 + get_or a.lengths v 0 ≤ q + reduct_length a.lengths ls
    placed-inside =
        let z = reduct-take a.lengths ls (suc p.index) (length ls) p.inside in
        let y = ap (reduct_length a.lengths) (take-length ls) in
        omega (arith, placed-ends)

    pub placed-member : Member (variable + v) ls
    placed-member = subst (λ w. Member w ls) p.word (member-get_or ls p.index p.inside)

  first-none : First no_bindings 0
  first-none = record { within = within_none t; known = λ v h. absurd (omega arith); others = λ v h. none-length v }

  -- the left side of a rule
  module _ {r : Rule} (law : WellFormedRule g r) {a : Bindings} (e : bindings g t r.lhs 0 no_bindings ≡ some a) where
    pub below-placed : (v : ℕ) → v < law.count → Placed a 0 r.lhs v
    below-placed v h = placed law.numbered law.variable_bound 0 no_bindings a first-none e v (omega arith) h

    -- every variable has such a stretch, or none
    pub any-placed : (v : ℕ) → Placed a 0 r.lhs v ⊎ ((get_or a.starts v 0 ≡ 0) × (get_or a.lengths v 0 ≡ 0))
    any-placed v = elim (dec_lt v law.count) [
      | yes h ↦ inl (below-placed v h)
      | no h ↦ let k = kept law.numbered law.variable_bound 0 no_bindings a first-none e v (inr (omega arith)) in inr (k.start ∙ none-start v, k.words ∙ none-length v)
    ]
