-- The rules of a system, listed and built-in ones, and the strategies of both kinds of symbols: what is cited of BuiltIn, RuleOf and `strategy`.
use Prim.Native.Nat.{ℕ, suc, ◌+◌, ◌≤◌, ◌<◌}
use native.Mathlib.Omega.{arith}
use mathlib.Core.Path.{◌≡◌, ◌∙◌, subst}
use mathlib.Core.Logic.{inl}
use mathlib.Core.List.{List, [], ◌∷◌}
use lib.ListN.{length, get_or, get_or-eq_default}
use Rattle.system.specs.Limits.{variable}
use Rattle.system.specs.BuiltIns.{literal, literals, maximum, minimum, square, last_built_in, built_in_arity, built_in_strategy}
use Rattle.system.specs.Signature.{Signature, Listed}
use Rattle.system.specs.System.{System, Rule, rule, head, strategy}
use Rattle.system.specs.Rules.{BuiltIn, max, min, sqr, RuleOf, listed, built_in, maximum_rule, square_rule}
use Rattle.system.specs.Terms.{Forest, empty, more, Side, Word, Member, first, later, Numbered, end, symbol, WellFormedRule, WellFormed}
use Rattle.system.proofs.BuiltIns.{range-builtin, arity-two, arity-one, arity-none, larger-below, smaller-below}
use Rattle.system.proofs.SquareLaw.{square-below}
use Rattle.system.proofs.Signatures.{symbol-builtin, arity-unlisted, few-listed, get_or-within}

-- ---- the strategies: of a listed symbol, and of any other word

pub strategy-listed : (s : System) (f : ℕ) → f < length s.strategies → strategy s f ≡ get_or s.strategies f []
unfolding strategy
strategy-listed s f h = get_or-within s.strategies (built_in_strategy f) [] f h

pub strategy-unlisted : (s : System) (f : ℕ) → length s.strategies ≤ f → strategy s f ≡ built_in_strategy f
unfolding strategy
strategy-unlisted s f h = get_or-eq_default s.strategies (built_in_strategy f) h

-- ---- the built-in rules

-- the last of them
abbrev pub last_rule : ℕ
last_rule = square_rule

pub built-number : {k : ℕ} {r : Rule} → BuiltIn k r → (maximum_rule ≤ k) × (k ≤ last_rule)
built-number (max a b) = (omega arith, omega arith)
built-number (min a b) = (omega arith, omega arith)
built-number (sqr a) = (omega arith, omega arith)

-- their left sides start with an operator
pub built-head : {k : ℕ} {r : Rule} → BuiltIn k r → 0 < built_in_arity (head r.lhs)
built-head (max a b) = rw (arity-two maximum (omega arith) (omega arith)) (omega arith)
built-head (min a b) = rw (arity-two minimum (omega arith) (omega arith)) (omega arith)
built-head (sqr a) = rw (arity-one square (omega arith) (omega arith)) (omega arith)

-- no word of them is a variable
one_below : {a w : ℕ} → a < variable → Member w (a ∷ []) → w < variable
one_below h first = h
one_below h (later m) = elim m [ ]

two-below : {a b w : ℕ} → a < variable → b < variable → Member w (a ∷ b ∷ []) → w < variable
two-below h l first = h
two-below h l (later s) = one_below l s

three-below : {a b c w : ℕ} → a < variable → b < variable → c < variable → Member w (a ∷ b ∷ c ∷ []) → w < variable
three-below h l u first = h
three-below h l u (later s) = two-below l u s

pub built-ground : {k : ℕ} {r : Rule} → BuiltIn k r → (w : ℕ) → Member w r.lhs → w < variable
built-ground (max a b) w = three-below (omega arith) (omega arith) (omega arith)
built-ground (min a b) w = three-below (omega arith) (omega arith) (omega arith)
built-ground (sqr a) w = two-below (omega arith) (omega arith)

pub built-plain : {k : ℕ} {r : Rule} → BuiltIn k r → (w : ℕ) → Member w r.rhs → w < variable
built-plain (max {m} {n} a b) w = one_below (let z = larger-below m n literals a b in omega arith)
built-plain (min {m} {n} a b) w = one_below (let z = smaller-below m n literals a b in omega arith)
built-plain (sqr {n} a) w = one_below (let z = square-below n a in omega arith)

ground-numbered : (ws : List ℕ) → ((w : ℕ) → Member w ws → w < variable) → Numbered 0 0 ws
ground-numbered [] h = end
ground-numbered (w ∷ ws) h = symbol (h w first) (ground-numbered ws (λ v m. h v (later m)))

module _ (g : Signature) (few : length g ≤ literal) where
  -- a literal before a forest
  literal-more : {k n : ℕ} {ws : List ℕ} → n < literals → Forest g (Word g) k ws → Forest g (Word g) (suc k) ((literal + n) ∷ ws)
  literal-more {k} {n} {ws} h f =
      let none = arity-unlisted g (literal + n) (omega arith) ∙ arity-none (literal + n) (inl (omega arith)) in
      more {k = k} (inl (symbol-builtin g (literal + n) (range-builtin (literal + n) (omega arith) (omega arith)))) (subst (λ c. Forest g (Word g) c ws) (omega arith) f)

  -- a literal alone
  alone : {n : ℕ} → n < literals → Forest g (Word g) 1 ((literal + n) ∷ [])
  alone h = literal-more h empty

  -- an operator before its literals, and the literal that is put there
  ground-formed : {w v n : ℕ} {ws : List ℕ} → maximum ≤ w → w ≤ last_built_in → built_in_arity w ≡ n → Forest g (Word g) n ws → length ws ≤ 2 →
      ((u : ℕ) → Member u (w ∷ ws) → u < variable) → v < literals → WellFormedRule g (record { lhs = w ∷ ws; rhs = (literal + v) ∷ [] })
  ground-formed {w} {v} {ws} l h takes f short ground c =
      let known = symbol-builtin g w (range-builtin w (omega arith) h) in
      let is = arity-unlisted g w (omega arith) in
      record {
        count = 0;
        variable_bound = omega arith;
        headed = known;
        left = more {k = 0} (inl known) (subst (λ n. Forest g (Word g) n ws) (omega arith) f);
        right = alone c;
        short_left = omega arith;
        short_right = omega arith;
        numbered = ground-numbered _ ground;
        known = λ u s. let z = one_below {a = literal + v} {w = u} (omega arith) s in omega arith;
      }

  pub built-formed : {k : ℕ} {r : Rule} → BuiltIn k r → WellFormedRule g r
  built-formed d = go d (built-ground d)
    where
      two : (w : ℕ) → maximum ≤ w → w ≤ minimum → {m n v : ℕ} → m < literals → n < literals → v < literals →
          ((u : ℕ) → Member u (w ∷ (literal + m) ∷ (literal + n) ∷ []) → u < variable) →
          WellFormedRule g (record { lhs = w ∷ (literal + m) ∷ (literal + n) ∷ []; rhs = (literal + v) ∷ [] })
      two w l h a b c ground = ground-formed l (omega arith) (arity-two w l h) (literal-more a (alone b)) (omega arith) ground c

      go : {k : ℕ} {r : Rule} → BuiltIn k r → ((u : ℕ) → Member u r.lhs → u < variable) → WellFormedRule g r
      go (max {m} {n} a b) = two maximum (omega arith) (omega arith) a b (larger-below m n literals a b)
      go (min {m} {n} a b) = two minimum (omega arith) (omega arith) a b (smaller-below m n literals a b)
      go (sqr {n} a) = λ ground. ground-formed (omega arith) (omega arith) (arity-one square (omega arith) (omega arith)) (alone a) (omega arith) ground (square-below n a)

-- ---- all rules

module _ (s : System) (wf : WellFormed s) where
  -- every rule of a system that 01 describes is well formed, listed or built in
  pub rule-formed : {k : ℕ} {r : Rule} → RuleOf s k r → WellFormedRule s.arities r
  rule-formed (listed h) = wf.well_formed_rules _ h
  rule-formed (built_in b) = built-formed s.arities (few-listed s wf) b

  -- the numbers go up to that of the last built-in rule
  pub rule-bound : {k : ℕ} {r : Rule} → RuleOf s k r → k ≤ last_rule
  rule-bound (listed h) = let z = wf.rule_bound in omega arith
  rule-bound (built_in b) = (built-number b).1

  -- a listed rule's left side starts with a listed symbol
  pub listed-head : (k : ℕ) → k < length s.rules → Listed s.arities (head (rule s k).lhs)
  listed-head k h = go (wf.well_formed_rules k h).left (wf.own_rules k h)
    where
      go : {lhs : List ℕ} → Side s.arities lhs → Listed s.arities (get_or lhs 0 variable) → Listed s.arities (head lhs)
      go (more _ _) l = l
