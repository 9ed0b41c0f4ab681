-- The built-in rules: what `computed` finds is the one built-in rule that matches, and it finds one if there is any.
use Prim.Native.Nat.{ℕ, suc, ◌+◌, ◌-◌, ◌≤◌, ◌<◌}
use native.Mathlib.Nat.{add-sub_cancel_left}
use native.Mathlib.Omega.{arith}
use native.Mathlib.Decide.{ℕ_discrete}
use mathlib.Core.Path.{◌≡◌, refl, sym, ap, ◌∙◌, subst}
use mathlib.Core.Logic.{◌⊎◌, inl, inr}
use mathlib.Core.Bool.{Bool, true, false, cond, ◌&&◌}
use mathlib.Core.Option.{Option, none, some}
use mathlib.Core.List.{List, [], ◌∷◌, ◌++◌}
use lib.ListN.{length, get_or, get_or-append}
use borrow.Author.Tests.{eq-eqb, ne_eqb}
use Rattle.system.specs.BuiltIns.{literal, literals, maximum, minimum, square, last_built_in, is_literal, larger, smaller, square_law}
use Rattle.system.specs.Signature.{Signature, Symbol, arity}
use Rattle.system.specs.System.{Rule, head}
use Rattle.system.specs.Rules.{BuiltIn, max, min, sqr, maximum_rule, minimum_rule, square_rule}
use Rattle.system.specs.Terms.{Forest, more, Whole}
use Rattle.system.proofs.BuiltIns.{literal-is, is-literal, number_of_lem, binary, unary, nullary, operands, arity-two, arity-one, arity-none, clash}
use Rattle.system.proofs.BuiltIns.{larger-words, smaller-words, larger-below, smaller-below}
use Rattle.system.proofs.SquareLaw.{square-below}
use Rattle.system.proofs.Signatures.{arity-unlisted}
use Rattle.system.proofs.Forests.{forest-length, forest-none}
use Rattle.matching.specs.Matching.{Computation, operation, applied, squared, computed}

-- ---- what an operator makes of the words behind it

operation-maximum : (m n : ℕ) → operation maximum m n ≡ some (record { number = maximum_rule; word = literal + larger m n })
unfolding operation
operation-maximum m n = refl

operation-minimum : (m n : ℕ) → operation minimum m n ≡ some (record { number = minimum_rule; word = literal + smaller m n })
unfolding operation
operation-minimum m n = refl

operation-plain : (f m n : ℕ) → (f ≡ maximum → ⊥) → (f ≡ minimum → ⊥) → operation f m n ≡ none
unfolding operation
operation-plain f m n a b = rw (ne_eqb f maximum a, ne_eqb f minimum b)

applied-literals : (f a b : ℕ) → is_literal a ≡ true → is_literal b ≡ true → applied f a b ≡ operation f (a - literal) (b - literal)
unfolding applied
applied-literals f a b u v = rw (u, v)

squared-literal : (a : ℕ) → is_literal a ≡ true → squared a ≡ some (record { number = square_rule; word = literal + square_law (a - literal) })
unfolding squared
squared-literal a u = rw u

-- by the first word
module _ (ws : List ℕ) where
  computed-unary : get_or ws 0 0 ≡ square → computed ws ≡ squared (get_or ws 1 0)
  unfolding computed
  computed-unary q = rw (eq-eqb (get_or ws 0 0) square q)

  computed-binary : (get_or ws 0 0 ≡ square → ⊥) → computed ws ≡ applied (get_or ws 0 0) (get_or ws 1 0) (get_or ws 2 0)
  unfolding computed
  computed-binary q = rw (ne_eqb (get_or ws 0 0) square q)

  -- no word but the first three counts, and one that is not there is 0
  pub computed-words : computed ws ≡ computed (get_or ws 0 0 ∷ get_or ws 1 0 ∷ get_or ws 2 0 ∷ [])
  unfolding computed
  computed-words = refl

-- ---- what is computed, and of which words

pub data Operates (f a b : ℕ) (x : Computation) : Type 0 where
  by-max : f ≡ maximum → is_literal a ≡ true → is_literal b ≡ true →
      x ≡ record { number = maximum_rule; word = literal + larger (a - literal) (b - literal) } → Operates f a b x
  by-min : f ≡ minimum → is_literal a ≡ true → is_literal b ≡ true →
      x ≡ record { number = minimum_rule; word = literal + smaller (a - literal) (b - literal) } → Operates f a b x
  by-square : f ≡ square → is_literal a ≡ true → x ≡ record { number = square_rule; word = literal + square_law (a - literal) } → Operates f a b x

applied-operates : (f a b : ℕ) (x : Computation) → applied f a b ≡ some x → Operates f a b x
unfolding applied
applied-operates f a b x e = go (is_literal a) refl (is_literal b) refl e
  where
    by : is_literal a ≡ true → is_literal b ≡ true → operation f (a - literal) (b - literal) ≡ some x → Operates f a b x
    by u v e = elim (ℕ_discrete f maximum) [
      | yes q ↦ by-max q u v (let z = operation-maximum (a - literal) (b - literal) in let y = ap (λ f. operation f (a - literal) (b - literal)) q in cc)
      | no p ↦
          elim (ℕ_discrete f minimum) [
            | yes q ↦ by-min q u v (let z = operation-minimum (a - literal) (b - literal) in let y = ap (λ f. operation f (a - literal) (b - literal)) q in cc)
            | no q ↦ absurd (let z : ◌≡◌ {A = ℕ} 0 1 = cc (operation-plain f (a - literal) (b - literal) p q) in omega arith)
          ]
    ]

    go : (p : Bool) → is_literal a ≡ p → (q : Bool) → is_literal b ≡ q → cond (p && q) (operation f (a - literal) (b - literal)) none ≡ some x → Operates f a b x
    go true u true v e = by u v e
    go true u false v e = absurd (let z : ◌≡◌ {A = ℕ} 0 1 = cc in omega arith)
    go false u q v e = absurd (let z : ◌≡◌ {A = ℕ} 0 1 = cc in omega arith)

squared-operates : (f a b : ℕ) (x : Computation) → f ≡ square → squared a ≡ some x → Operates f a b x
unfolding squared
squared-operates f a b x q e = go (is_literal a) refl e
  where
    go : (p : Bool) → is_literal a ≡ p → cond p (some (record { number = square_rule; word = literal + square_law (a - literal) })) none ≡ some x → Operates f a b x
    go true u e = by-square q u cc
    go false u e = absurd (let z : ◌≡◌ {A = ℕ} 0 1 = cc in omega arith)

module _ (ws : List ℕ) where
  abbrev Found : Computation → Type 0
  Found x = Operates (get_or ws 0 0) (get_or ws 1 0) (get_or ws 2 0) x

  pub operates : (x : Computation) → computed ws ≡ some x → Found x
  operates x e = elim (ℕ_discrete (get_or ws 0 0) square) [
    | yes q ↦ squared-operates _ _ _ x q (sym (computed-unary ws q) ∙ e)
    | no q ↦ applied-operates _ _ _ x (sym (computed-binary ws q) ∙ e)
  ]

  -- nothing, where no operator stands or an argument is no literal
  unless : ((x : Computation) → Found x → ⊥) → computed ws ≡ none
  unless un = go (computed ws) refl
    where
      go : (o : Option Computation) → computed ws ≡ o → computed ws ≡ none
      go none e = e
      go (some x) e = absurd (un x (operates x e))

  pub computed-first : is_literal (get_or ws 1 0) ≡ false → computed ws ≡ none
  computed-first l = unless (λ x. elim [ by-max q u v e ↦ clash u l | by-min q u v e ↦ clash u l | by-square q u e ↦ clash u l ])

  pub computed-second : (get_or ws 0 0 ≡ square → ⊥) → is_literal (get_or ws 2 0) ≡ false → computed ws ≡ none
  computed-second n l = unless (λ x. elim [ by-max q u v e ↦ clash v l | by-min q u v e ↦ clash v l | by-square q u e ↦ n q ])

  pub computed-plain : (get_or ws 0 0 ≡ maximum → ⊥) → (get_or ws 0 0 ≡ minimum → ⊥) → (get_or ws 0 0 ≡ square → ⊥) → computed ws ≡ none
  computed-plain a b c = unless (λ x. elim [ by-max q u v e ↦ a q | by-min q u v e ↦ b q | by-square q u e ↦ c q ])

  pub computed-low : get_or ws 0 0 < literal → computed ws ≡ none
  computed-low h = computed-plain (λ q. omega arith) (λ q. omega arith) (λ q. omega arith)

  -- the operators on two literals compute with the words themselves
  module _ (u : is_literal (get_or ws 1 0) ≡ true) where
    pub computed-square : get_or ws 0 0 ≡ square → computed ws ≡ some (record { number = square_rule; word = literal + square_law (get_or ws 1 0 - literal) })
    computed-square q = computed-unary ws q ∙ squared-literal (get_or ws 1 0) u

    module _ (v : is_literal (get_or ws 2 0) ≡ true) where
      computed-both : (f : ℕ) → get_or ws 0 0 ≡ f → (f ≡ square → ⊥) → computed ws ≡ operation f (get_or ws 1 0 - literal) (get_or ws 2 0 - literal)
      computed-both f q n =
          computed-binary ws (λ e. n (sym q ∙ e)) ∙ applied-literals _ _ _ u v ∙ ap (λ f. operation f (get_or ws 1 0 - literal) (get_or ws 2 0 - literal)) q

      pub computed-maximum : get_or ws 0 0 ≡ maximum → computed ws ≡ some (record { number = maximum_rule; word = larger (get_or ws 1 0) (get_or ws 2 0) })
      computed-maximum q =
          computed-both maximum q (λ e. omega arith) ∙ operation-maximum _ _
          ∙ ap (λ w. some (record { number = maximum_rule; word = w })) (sym (larger-words literal _ _ (is-literal _ u).0 (is-literal _ v).0))

      pub computed-minimum : get_or ws 0 0 ≡ minimum → computed ws ≡ some (record { number = minimum_rule; word = smaller (get_or ws 1 0) (get_or ws 2 0) })
      computed-minimum q =
          computed-both minimum q (λ e. omega arith) ∙ operation-minimum _ _
          ∙ ap (λ w. some (record { number = minimum_rule; word = w })) (sym (smaller-words literal _ _ (is-literal _ u).0 (is-literal _ v).0))

pub computed-empty : computed [] ≡ none
unfolding is_literal
computed-empty = computed-first [] refl

-- ---- a left side that stands there is found

-- a rule puts one word there
lone : {k : ℕ} {r : Rule} → BuiltIn k r → head r.rhs ∷ [] ≡ r.rhs
lone (max a b) = refl
lone (min a b) = refl
lone (sqr a) = refl

two-of : (f m n : ℕ) → m < literals → n < literals → applied f (literal + m) (literal + n) ≡ operation f m n
two-of f m n a b =
    applied-literals f _ _ (literal-is m a) (literal-is n b) ∙ (λ i. operation f (add-sub_cancel_left literal m i) (add-sub_cancel_left literal n i))

computed-lhs : {k : ℕ} {r : Rule} → BuiltIn k r → computed r.lhs ≡ some (record { number = k; word = head r.rhs })
computed-lhs (max {m} {n} a b) = computed-binary (maximum ∷ (literal + m) ∷ (literal + n) ∷ []) (λ e. omega arith) ∙ two-of maximum m n a b ∙ operation-maximum m n
computed-lhs (min {m} {n} a b) = computed-binary (minimum ∷ (literal + m) ∷ (literal + n) ∷ []) (λ e. omega arith) ∙ two-of minimum m n a b ∙ operation-minimum m n
computed-lhs (sqr {n} a) =
    computed-unary (square ∷ (literal + n) ∷ []) refl ∙ squared-literal (literal + n) (literal-is n a)
    ∙ ap (λ n. some (record { number = square_rule; word = literal + square_law n })) (add-sub_cancel_left literal n)

pub computed-left : {k : ℕ} {r : Rule} → BuiltIn k r → (x : Computation) → computed r.lhs ≡ some x → (x.number ≡ k) × (x.word ∷ [] ≡ r.rhs)
computed-left {k} {r} d x e =
    let z = computed-lhs d in
    let q : x ≡ record { number = k; word = head r.rhs } = cc in
    (ap (λ y. y.number) q, ap (λ y. y.word ∷ []) q ∙ lone d)

pub left-computed : {k : ℕ} {r : Rule} → BuiltIn k r → computed r.lhs ≡ none → ⊥
left-computed d e = let q = computed-lhs d in let z : ◌≡◌ {A = ℕ} 0 1 = cc in omega arith

-- ---- of a whole term

module _ (g : Signature) (few : length g ≤ literal) where
  -- a literal at the front of a forest is its first term
  record Front (P : ℕ → Type 0) (k : ℕ) (ws : List ℕ) : Type 0 where
    rest : List ℕ
    equal : ws ≡ get_or ws 0 0 ∷ rest
    forest : Forest g P k rest

  front : {P : ℕ → Type 0} {k : ℕ} {ws : List ℕ} → Forest g P (suc k) ws → is_literal (get_or ws 0 0) ≡ true → Front P k ws
  front {P} (more {w} {k} {ws} h f) e =
      let c = is-literal w e in
      let none = arity-unlisted g w (omega arith) ∙ arity-none w (inl c.1) in
      record { rest = ws; equal = refl; forest = subst (λ n. Forest g P n ws) (omega arith) f }

  one-literal : {P : ℕ → Type 0} {ws : List ℕ} → Forest g P 1 ws → is_literal (get_or ws 0 0) ≡ true → ws ≡ get_or ws 0 0 ∷ []
  one-literal {ws} f a = let c = front f a in c.equal ∙ ap (λ r. get_or ws 0 0 ∷ r) (forest-none c.forest)

  two-literals : {P : ℕ → Type 0} {ws : List ℕ} → Forest g P 2 ws → is_literal (get_or ws 0 0) ≡ true → is_literal (get_or ws 1 0) ≡ true →
      ws ≡ get_or ws 0 0 ∷ get_or ws 1 0 ∷ []
  two-literals {ws} f a b =
      let c = front f a in
      let q : get_or ws 1 0 ≡ get_or c.rest 0 0 = ap (λ r. get_or r 1 0) c.equal in
      c.equal ∙ ap (λ r. get_or ws 0 0 ∷ r) (one-literal c.forest (sym (ap is_literal q) ∙ b) ∙ ap (λ y. y ∷ []) (sym q))

  -- what is found is a built-in rule whose left side is the term
  pub record Redex (u : List ℕ) (x : Computation) : Type 0 where
    pub chosen : Rule
    pub built : BuiltIn x.number chosen
    pub left : u ≡ chosen.lhs
    pub right : x.word ∷ [] ≡ chosen.rhs

  pub computed-built : {u : List ℕ} → Whole g u → (x : Computation) → computed u ≡ some x → Redex u x
  computed-built (more {w} {ws} h f) x e = go (operates (w ∷ ws) x e)
    where
      a : ℕ
      a = get_or ws 0 0

      b : ℕ
      b = get_or ws 1 0

      under : {n : ℕ} → arity g w ≡ n → Forest g (Symbol g) n ws
      under q = subst (λ n. Forest g (Symbol g) n ws) (omega (arith, q)) f

      two : maximum ≤ w → w ≤ minimum → is_literal a ≡ true → is_literal b ≡ true → ws ≡ (literal + (a - literal)) ∷ (literal + (b - literal)) ∷ []
      two l h u v =
          two-literals (under (arity-unlisted g w (omega arith) ∙ arity-two w l h)) u v ∙ (λ i. (number_of_lem a u).0 i ∷ (number_of_lem b v).0 i ∷ [])

      one : w ≡ square → is_literal a ≡ true → ws ≡ (literal + (a - literal)) ∷ []
      one q u = one-literal (under (arity-unlisted g w (omega arith) ∙ arity-one w (omega arith) (omega arith))) u ∙ (λ i. (number_of_lem a u).0 i ∷ [])

      by : {k v : ℕ} {r : Rule} → BuiltIn k r → x ≡ record { number = k; word = v } → v ∷ [] ≡ r.rhs → w ∷ ws ≡ r.lhs → Redex (w ∷ ws) x
      by {r} d e q l =
          record { chosen = r; built = subst (λ y. BuiltIn y.number r) (sym e) d; left = l; right = ap (λ y. y.word ∷ []) e ∙ q }

      go : Operates w a b x → Redex (w ∷ ws) x
      go (by-max q u v e) = by (max (number_of_lem a u).1 (number_of_lem b v).1) e refl (λ i. q i ∷ two (omega arith) (omega arith) u v i)
      go (by-min q u v e) = by (min (number_of_lem a u).1 (number_of_lem b v).1) e refl (λ i. q i ∷ two (omega arith) (omega arith) u v i)
      go (by-square q u e) = by (sqr (number_of_lem a u).1) e refl (λ i. q i ∷ one q u i)

  -- what follows the term does not count
  pub computed-rest : {u : List ℕ} (b : List ℕ) → Whole g u → computed (u ++ b) ≡ computed u
  computed-rest b (more {w} {ws} h f) = elim (operands w) [
    | binary l u ↦
        let k = forest-length f in
        let two = arity-unlisted g w (omega arith) ∙ arity-two w l u in
        computed-binary (w ∷ ws ++ b) (λ e. omega arith)
        ∙ (λ i. applied w (get_or-append ws b 0 0 (omega arith) i) (get_or-append ws b 0 1 (omega arith) i))
        ∙ sym (computed-binary (w ∷ ws) (λ e. omega arith))
    | unary l h ↦
        let k = forest-length f in
        let q : w ≡ square = omega arith in
        let one = arity-unlisted g w (omega arith) ∙ arity-one w l h in
        computed-unary (w ∷ ws ++ b) q ∙ ap squared (get_or-append ws b 0 0 (omega arith)) ∙ sym (computed-unary (w ∷ ws) q)
    | nullary n ↦ nothing n (w ∷ ws ++ b) refl ∙ sym (nothing n (w ∷ ws) refl)
  ]
    where
      nothing : (w < maximum) ⊎ (last_built_in < w) → (us : List ℕ) → get_or us 0 0 ≡ w → computed us ≡ none
      nothing (inl l) us q = computed-plain us (λ e. omega arith) (λ e. omega arith) (λ e. omega arith)
      nothing (inr l) us q = computed-plain us (λ e. omega arith) (λ e. omega arith) (λ e. omega arith)

-- ---- what is computed is a literal

pub computed-literal : (ws : List ℕ) {x : Computation} → computed ws ≡ some x → (literal ≤ x.word) × (x.word < literal + literals)
computed-literal ws {x} e = go (operates ws x e)
  where
    word : {k v : ℕ} → x ≡ record { number = k; word = literal + v } → v < literals → (literal ≤ x.word) × (x.word < literal + literals)
    word q h = rw (ap (λ y. y.word) q) (omega arith, omega arith)

    go : Found ws x → (literal ≤ x.word) × (x.word < literal + literals)
    go (by-max q u v e) = word e (larger-below _ _ literals (number_of_lem _ u).1 (number_of_lem _ v).1)
    go (by-min q u v e) = word e (smaller-below _ _ literals (number_of_lem _ u).1 (number_of_lem _ v).1)
    go (by-square q u e) = word e (square-below _ (number_of_lem _ u).1)
