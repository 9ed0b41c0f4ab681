-- Ways that need not be active: those of the system that follows every argument. The laws of lengths on a way (WayRows) hold of them as they stand,
-- since that system has the same arities.
use Prim.Native.Nat.{ℕ, zero, suc, ◌≤◌, ◌<◌}
use native.Mathlib.Omega.{arith}
use native.Mathlib.Decide.{dec_lt, ℕ_discrete}
use mathlib.Core.Path.{◌≡◌, refl, sym, ap, ◌∙◌, subst}
use mathlib.Core.Logic.{inl, inr}
use mathlib.Core.Bool.{Bool, true, false, cond}
use mathlib.Core.List.{List, [], ◌∷◌, ◌++◌, append_assoc, append-nil, map}
use lib.ListN.{length, get_or, length-append, length-map, get_or-map}
use Rattle.system.specs.Limits.{max_entries}
use Rattle.system.specs.Signature.{Signature, arity, argument}
use Rattle.system.specs.BuiltIns.{is_binary, is_unary, built_in_arity, built_in_strategy}
use Rattle.system.specs.System.{System, strategy}
use Rattle.system.specs.Terms.{Member, first, later, WellFormed}
use Rattle.system.proofs.Members.{member-nil, member-get_or, member-front, member_back, member-snoc}
use Rattle.rewriting.specs.Machine.{strategy_at, down, position}
use Rattle.rewriting.specs.Opened.{Opened, base, level}
use Rattle.rewriting.specs.Ways.{Way, up_to, every_argument}
use Rattle.rewriting.specs.levels.Lengths.{above}

up-to-member : (n i : ℕ) → i < n → Member (suc i) (up_to n)
unfolding up_to
up-to-member zero i h = absurd (omega arith)
up-to-member (suc n) i h = elim (ℕ_discrete i n) [
  | yes e ↦ subst (λ y. Member (suc i) (up_to n ++ suc y ∷ [])) e (member_back (up_to n) first)
  | no e ↦ member-front (suc n ∷ []) (up-to-member n i (omega arith))
]

up-to-bound : (n e : ℕ) → Member e (up_to n) → e ≤ n
unfolding up_to
up-to-bound zero e m = member-nil m
up-to-bound (suc n) e m = elim (member-snoc e (suc n) (up_to n) m) [
  | inl q ↦ omega arith
  | inr q ↦ let z = up-to-bound n e q in omega arith
]

up-to-length : (n : ℕ) → length (up_to n) ≡ n
unfolding up_to
up-to-length zero = refl
up-to-length (suc n) = length-append (up_to n) (suc n ∷ []) ∙ let z = up-to-length n in omega arith

-- the default does not matter within a list
get_or-inside : {A : Type 0} (l : List A) (k : ℕ) (d e : A) → k < length l → get_or l k d ≡ get_or l k e
get_or-inside [] k d e h = absurd (omega arith)
get_or-inside (x ∷ l) zero d e h = refl
get_or-inside (x ∷ l) (suc k) d e h = get_or-inside l k d e (omega arith)

get_or-outside : {A : Type 0} (l : List A) (k : ℕ) (d : A) → length l ≤ k → get_or l k d ≡ d
get_or-outside [] k d h = refl
get_or-outside (x ∷ l) zero d h = absurd (omega arith)
get_or-outside (x ∷ l) (suc k) d h = get_or-outside l k d (omega arith)

module _ (s : System) where
  abbrev g : Signature
  g = s.arities

  abbrev every : System
  every = every_argument s

  listed : (f : ℕ) → f < length g → strategy every f ≡ up_to (arity g f)
  unfolding strategy arity
  listed f h =
      get_or-inside (map up_to g) f (built_in_strategy f) (up_to 0) (let z = length-map g up_to in omega arith)
      ∙ get_or-map up_to g f 0 ∙ ap up_to (get_or-inside g f 0 (built_in_arity f) h)

  unlisted : (f : ℕ) → length g ≤ f → strategy every f ≡ built_in_strategy f
  unfolding strategy
  unlisted f h = get_or-outside (map up_to g) f (built_in_strategy f) (let z = length-map g up_to in omega arith)

  unlisted-arity : (f : ℕ) → length g ≤ f → arity g f ≡ built_in_arity f
  unfolding arity
  unlisted-arity f h = get_or-outside g f (built_in_arity f) h

  -- the built-in words follow all of their arguments
  built : (f i : ℕ) → i < built_in_arity f → Member (suc i) (built_in_strategy f)
  unfolding built_in_arity built_in_strategy
  built f i h = go (is_binary f) (is_unary f) i h
    where
      go : (a b : Bool) (i : ℕ) → i < cond a 2 (cond b 1 0) → Member (suc i) (cond a (1 ∷ 2 ∷ 0 ∷ []) (cond b (1 ∷ 0 ∷ []) []))
      go true b zero h = first
      go true b (suc zero) h = later first
      go true b (suc (suc i)) h = absurd (omega arith)
      go false true zero h = first
      go false true (suc i) h = absurd (omega arith)
      go false false i h = absurd (omega arith)

  -- it follows every argument
  pub every-member : (f i : ℕ) → i < arity g f → Member (suc i) (strategy every f)
  every-member f i h = elim (dec_lt f (length g)) [
    | yes l ↦ subst (Member (suc i)) (sym (listed f l)) (up-to-member (arity g f) i h)
    | no l ↦
        let m : length g ≤ f = omega arith in
        subst (Member (suc i)) (sym (unlisted f m)) (built f i (subst (λ y. i < y) (unlisted-arity f m) h))
  ]

  module _ (wf : WellFormed s) where
    -- what a word that is not listed follows is what it follows in the book
    same : (f : ℕ) → length g ≤ f → strategy every f ≡ strategy s f
    unfolding strategy
    same f h = unlisted f h ∙ sym (get_or-outside s.strategies f (built_in_strategy f) (omega (arith, wf.strategy_count)))

    pub every-formed : WellFormed (every_argument s)
    every-formed = record {
      some_symbols = wf.some_symbols;
      symbol_bound = wf.symbol_bound;
      arity_bound = wf.arity_bound;
      strategy_count = length-map g up_to;
      strategy_bound = bound;
      entry_bound = entry;
      rule_bound = omega arith;
      well_formed_rules = λ k l. absurd (omega arith);
      own_rules = λ k l. absurd (omega arith);
    }
      where
        bound : (f : ℕ) → length (strategy every f) ≤ max_entries
        bound f = elim (dec_lt f (length g)) [
          | yes l ↦ let z = ap length (listed f l) ∙ up-to-length (arity g f) in let y = wf.arity_bound f in omega arith
          | no l ↦ subst (λ y. length y ≤ max_entries) (sym (same f (omega arith))) (wf.strategy_bound f)
        ]

        entry : (f e : ℕ) → Member e (strategy every f) → e ≤ arity g f
        entry f e m = elim (dec_lt f (length g)) [
          | yes l ↦ up-to-bound (arity g f) e (subst (Member e) (listed f l) m)
          | no l ↦ wf.entry_bound f e (subst (Member e) (same f (omega arith)) m)
        ]

    module _ {t : List ℕ} where
      -- one argument further, whichever it is
      pub every-down : {ps : List ℕ} {p : ℕ} (i : ℕ) → Way (every_argument s) t ps p → i < arity g (get_or t p 0) →
          Way (every_argument s) t (ps ++ p ∷ []) (argument g t p i)
      every-down {p} i w h = Way.down i w (every-member (get_or t p 0) i h)

      -- the open levels of a machine lead further
      pub every-opened : {ps : List ℕ} {p : ℕ} {cs : List ℕ} → Way (every_argument s) t ps p → Opened s t p cs →
          Way (every_argument s) t (ps ++ above s t cs p) (position s t cs p)
      unfolding above position down
      every-opened {ps} {p} w base = subst (λ qs. Way (every_argument s) t qs p) (sym (append-nil ps)) w
      every-opened {ps} w (level {p} {c} {i} {cs} h e o) =
          let m : Member (suc i) (strategy_at s t p) = rw e at (member-get_or (strategy_at s t p) c h) in
          let l : i < arity g (get_or t p 0) = (let z = wf.entry_bound (get_or t p 0) (suc i) m in omega arith) in
          let w' : Way (every_argument s) t (ps ++ p ∷ []) (down s t p (suc c)) = rw e (every-down i w l) in
          subst (λ qs. Way (every_argument s) t qs (position s t cs (down s t p (suc c)))) (append_assoc ps (p ∷ []) (above s t cs (down s t p (suc c)))) (every-opened {ps = ps ++ p ∷ []} w' o)
