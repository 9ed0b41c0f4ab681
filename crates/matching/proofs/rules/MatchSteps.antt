-- One word of a left side and one rule, in the terms of the loops of the search.
use Prim.Native.Nat.{ℕ, zero, suc, ◌+◌, ◌-◌, ◌≤◌, ◌<◌}
use native.Mathlib.Omega.{arith}
use native.Mathlib.Numerals.{add-one}
use native.Mathlib.Decide.{dec_lt, ℕ_discrete}
use mathlib.Core.Path.{◌≡◌, refl, sym, ◌∙◌}
use mathlib.Core.Bool.{Bool, true, false, cond, ◌&&◌, or-true}
use mathlib.Core.Option.{none, some}
use mathlib.Core.List.{List, [], ◌∷◌}
use lib.ListN.{length, get_or, take, drop, set, drop_of_length-le}
use lib.Seq.{drop-cons}
use lib.Dec.{eqb, leb, ltb}
use mir.Val.{bool_byte}
use borrow.Author.Tests.{lt-ltb, le-ltb, eq-eqb, ne_eqb, le-leb, lt-leb}
use Rattle.std.specs.Prelude.{Some}
use Rattle.system.specs.Limits.{variable, variables}
use Rattle.system.specs.Signature.{Signature, span}
use Rattle.system.specs.System.{Rule, no_rule}
use Rattle.system.proofs.words.SpanSteps.{span-le}
use Rattle.matching.specs.declared.FirstRule.TheVariants.{First}
use Rattle.matching.specs.Matching.{same_words}
use Rattle.matching.specs.Bindings.{Bindings, no_bindings, consumed, value, is_bound, taken, with_binding, bindings, no_match, match_from}
use Rattle.matching.specs.rules.Searches.{Within}
use Rattle.matching.proofs.Stretches.{none-length, within-set}

-- ---- what a word takes

as-byte : (b : Bool) → bool_byte b ≡ cond b 1 0
as-byte true = refl
as-byte false = refl

module _ (g : Signature) (l : ℕ) (ws : List ℕ) where
  pub consumed-end : length ws ≡ 0 → consumed g l ws ≡ 0
  unfolding consumed
  consumed-end e = go ws e
    where
      go : (ws : List ℕ) → length ws ≡ 0 → consumed g l ws ≡ 0
      go [] e = refl
      go (w ∷ ws) e = absurd (omega arith)

  module _ (here : 0 < length ws) where
    pub consumed-variable : variable ≤ l → consumed g l ws ≡ span g ws 1
    unfolding consumed
    consumed-variable h = go ws here
      where
        go : (ws : List ℕ) → 0 < length ws → consumed g l ws ≡ span g ws 1
        go [] e = absurd (omega arith)
        go (w ∷ ws) e = rw (le-ltb l variable h)

    pub consumed-differ : l < variable → (l ≡ get_or ws 0 0 → ⊥) → consumed g l ws ≡ 0
    unfolding consumed
    consumed-differ h d = go ws here d
      where
        go : (ws : List ℕ) → 0 < length ws → (l ≡ get_or ws 0 0 → ⊥) → consumed g l ws ≡ 0
        go [] e d = absurd (omega arith)
        go (w ∷ ws) e d = rw (lt-ltb l variable h, ne_eqb l w d)

    pub consumed-same : l < variable → l ≡ get_or ws 0 0 → consumed g l ws ≡ 1
    unfolding consumed
    consumed-same h d = go ws here d
      where
        go : (ws : List ℕ) → 0 < length ws → l ≡ get_or ws 0 0 → consumed g l ws ≡ 1
        go [] e d = absurd (omega arith)
        go (w ∷ ws) e d = rw (lt-ltb l variable h, eq-eqb l w d)

    -- a symbol, told by a byte
    pub consumed-byte : l < variable → {w : ℕ} → w ≡ get_or ws 0 0 → bool_byte (eqb l w) ≡ consumed g l ws
    unfolding consumed
    consumed-byte h {w} is = go ws here is
      where
        go : (ws : List ℕ) → 0 < length ws → w ≡ get_or ws 0 0 → bool_byte (eqb l w) ≡ consumed g l ws
        go [] e d = absurd (omega arith)
        go (v ∷ ws) e d = rw (lt-ltb l variable h, d) (as-byte (eqb l v))

-- never more than there are
pub consumed-le : (g : Signature) (l : ℕ) (ws : List ℕ) → consumed g l ws ≤ length ws
consumed-le g l [] = rw (consumed-end g l [] refl) (omega arith)
consumed-le g l (w ∷ ws) = elim (dec_lt l variable) [
  | yes v ↦
      elim (ℕ_discrete l w) [
        | yes e ↦ rw (consumed-same g l (w ∷ ws) (omega arith) v e) (omega arith)
        | no d ↦ rw (consumed-differ g l (w ∷ ws) (omega arith) v d) (omega arith)
      ]
  | no v ↦ rw (consumed-variable g l (w ∷ ws) (omega arith) (omega arith)) (span-le g (w ∷ ws) 1)
]

-- ---- a symbol, a variable that has no stretch yet, and one that has

module _ (l : ℕ) (a : Bindings) where
  symbol-unbound : l < variable → is_bound l a ≡ false
  unfolding is_bound
  symbol-unbound h = rw (lt-leb variable l h)

  new-unbound : get_or a.lengths (l - variable) 0 ≡ 0 → is_bound l a ≡ false
  unfolding is_bound
  new-unbound e = rw e (go (leb variable l))
    where
      go : (b : Bool) → (b && false) ≡ false
      go true = refl
      go false = refl

  old-bound : variable ≤ l → 0 < get_or a.lengths (l - variable) 0 → is_bound l a ≡ true
  unfolding is_bound
  old-bound h old = rw (le-leb variable l h, lt-ltb 0 (get_or a.lengths (l - variable) 0) old)

  module _ (q n : ℕ) where
    pub with_binding-symbol : l < variable → with_binding l q n a ≡ a
    unfolding with_binding
    with_binding-symbol h = rw (lt-ltb l variable h)

    pub with_binding-old : variable ≤ l → 0 < get_or a.lengths (l - variable) 0 → with_binding l q n a ≡ a
    unfolding with_binding
    with_binding-old h old = rw (old-bound h old, or-true (ltb l variable))

    pub with_binding-new : variable ≤ l → get_or a.lengths (l - variable) 0 ≡ 0 →
        with_binding l q n a ≡ record { starts = set a.starts (l - variable) q; lengths = set a.lengths (l - variable) n }
    unfolding with_binding
    with_binding-new h new = rw (le-ltb l variable h, new-unbound new)

-- the stretches still lie in ws
pub within-binding : (ws : List ℕ) (l : ℕ) (a : Bindings) (q n : ℕ) → l < variable + variables → q + n ≤ length ws → Within ws a.starts a.lengths →
    Within ws (with_binding l q n a).starts (with_binding l q n a).lengths
within-binding ws l a q n few fits lies = elim (dec_lt l variable) [
  | yes low ↦ rw (with_binding-symbol l a q n low) lies
  | no high ↦
      elim (ℕ_discrete (get_or a.lengths (l - variable) 0) 0) [
        | yes new ↦ rw (with_binding-new l a q n (omega arith) new) (within-set ws lies (l - variable) q n (omega arith) fits)
        | no old ↦ rw (with_binding-old l a q n (omega arith) (omega arith)) lies
      ]
]

module _ (g : Signature) (ws : List ℕ) (l q : ℕ) (a : Bindings) where
  abbrev there : List ℕ
  there = take (consumed g l (drop q ws)) (drop q ws)

  unbound-taken : is_bound l a ≡ false → taken g ws l q a ≡ consumed g l (drop q ws)
  unfolding taken
  unbound-taken e = rw e

  pub taken-symbol : l < variable → taken g ws l q a ≡ consumed g l (drop q ws)
  taken-symbol h = unbound-taken (symbol-unbound l a h)

  pub taken-new : get_or a.lengths (l - variable) 0 ≡ 0 → taken g ws l q a ≡ consumed g l (drop q ws)
  taken-new e = unbound-taken (new-unbound l a e)

  -- one that has a stretch takes the same words again, or none
  module _ (h : variable ≤ l) (old : 0 < get_or a.lengths (l - variable) 0) where
    pub taken-again : same_words (value ws a (l - variable)) there ≡ true → taken g ws l q a ≡ consumed g l (drop q ws)
    unfolding taken
    taken-again e = rw (old-bound l a h old, e)

    pub taken-unlike : same_words (value ws a (l - variable)) there ≡ false → taken g ws l q a ≡ 0
    unfolding taken
    taken-unlike e = rw (old-bound l a h old, e)

  -- in any case what the word takes by itself, or nothing
  pub taken-some : (taken g ws l q a ≡ 0 → ⊥) → taken g ws l q a ≡ consumed g l (drop q ws)
  unfolding taken
  taken-some d = go (is_bound l a) (same_words (value ws a (l - variable)) there) d
    where
      go : (b c : Bool) → (cond b (cond c (consumed g l (drop q ws)) 0) (consumed g l (drop q ws)) ≡ 0 → ⊥) →
          cond b (cond c (consumed g l (drop q ws)) 0) (consumed g l (drop q ws)) ≡ consumed g l (drop q ws)
      go true true d = refl
      go true false d = absurd (d refl)
      go false c d = refl

  pub taken_none : consumed g l (drop q ws) ≡ 0 → taken g ws l q a ≡ 0
  taken_none e = elim (ℕ_discrete (taken g ws l q a) 0) [ yes z ↦ z | no d ↦ taken-some d ∙ e ]

-- before the first word no variable has a stretch
pub taken-first : (g : Signature) (ws : List ℕ) (l q : ℕ) → taken g ws l q no_bindings ≡ consumed g l (drop q ws)
taken-first g ws l q = taken-new g ws l q no_bindings (none-length (l - variable))

-- ---- a word of a left side

module _ (g : Signature) (t : List ℕ) where
  pub cons-stop : (l : ℕ) (ls : List ℕ) (q : ℕ) (a : Bindings) → taken g t l q a ≡ 0 → bindings g t (l ∷ ls) q a ≡ none
  unfolding bindings
  cons-stop l ls q a e = rw (e, bindings)

  pub cons-next : (l : ℕ) (ls : List ℕ) (q : ℕ) (a : Bindings) (n : ℕ) → taken g t l q a ≡ n → 0 < n → bindings g t (l ∷ ls) q a ≡ bindings g t ls (q + n) (with_binding l q n a)
  unfolding bindings
  cons-next l ls q a zero e h = absurd (omega arith)
  cons-next l ls q a (suc n) e h = rw (e, bindings)

  module _ (ls : List ℕ) (j q : ℕ) (a : Bindings) where
    pub words-end : length ls ≤ j → bindings g t (drop j ls) q a ≡ some a
    unfolding bindings
    words-end h = rw (drop_of_length-le ls h)

    module _ (here : j < length ls) (l : ℕ) (is : l ≡ get_or ls j 0) (n : ℕ) (takes : n ≡ taken g t l q a) where
      pub words-stop : n ≡ 0 → bindings g t (drop j ls) q a ≡ none
      words-stop z = rw (drop-cons ls j 0 here, ← is) (cons-stop l (drop (suc j) ls) q a (sym takes ∙ z))

      pub words-next : 0 < n → bindings g t (drop j ls) q a ≡ bindings g t (drop (j + 1) ls) (q + n) (with_binding l q n a)
      words-next h = rw (drop-cons ls j 0 here, ← is, add-one j) (cons-next l (drop (suc j) ls) q a n (sym takes) h)

-- ---- a rule

module _ (g : Signature) where
  pub from-nil : (k at : ℕ) (ws : List ℕ) → match_from g [] k at ws ≡ no_match
  unfolding match_from
  from-nil k at ws = refl

  pub from-here : (r : Rule) (rs : List Rule) (k at : ℕ) (ws : List ℕ) (a : Bindings) → bindings g ws r.lhs 0 no_bindings ≡ some a →
      match_from g (r ∷ rs) k at ws ≡ record { rule = Some (First k (at + 1 + length r.lhs + 1) (length r.rhs)); starts = a.starts; lengths = a.lengths }
  unfolding match_from
  from-here r rs k at ws a e = rw (e, match_from)

  pub from_next : (r : Rule) (rs : List Rule) (k at : ℕ) (ws : List ℕ) → bindings g ws r.lhs 0 no_bindings ≡ none →
      match_from g (r ∷ rs) k at ws ≡ match_from g rs (suc k) (at + 1 + length r.lhs + 1 + length r.rhs) ws
  unfolding match_from
  from_next r rs k at ws e = rw (e, match_from)

  module _ (rules : List Rule) (k at : ℕ) (ws : List ℕ) where
    pub rules-end : length rules ≤ k → match_from g (drop k rules) k at ws ≡ no_match
    unfolding match_from
    rules-end h = rw (drop_of_length-le rules h)

    module _ (more : k < length rules) where
      pub rules-next : bindings g ws (get_or rules k no_rule).lhs 0 no_bindings ≡ none → (at' : ℕ) →
          at' ≡ at + 1 + length (get_or rules k no_rule).lhs + 1 + length (get_or rules k no_rule).rhs →
          match_from g (drop k rules) k at ws ≡ match_from g (drop (k + 1) rules) (k + 1) at' ws
      rules-next e at' q = rw (drop-cons rules k no_rule more, add-one k, q) (from_next (get_or rules k no_rule) (drop (suc k) rules) k at ws e)

      pub rules-here : (a : Bindings) → bindings g ws (get_or rules k no_rule).lhs 0 no_bindings ≡ some a →
          match_from g (drop k rules) k at ws ≡
          record { rule = Some (First k (at + 1 + length (get_or rules k no_rule).lhs + 1) (length (get_or rules k no_rule).rhs)); starts = a.starts; lengths = a.lengths }
      rules-here a e = rw (drop-cons rules k no_rule more) (from-here (get_or rules k no_rule) (drop (suc k) rules) k at ws a e)
