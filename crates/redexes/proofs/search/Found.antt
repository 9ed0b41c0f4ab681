-- What a search in the rows tells of the first redex, for the layers above.
use Prim.Native.Nat.{ℕ, ◌≤◌, ◌<◌}
use native.Mathlib.Omega.{arith}
use mathlib.Core.Path.{◌≡◌, refl, sym, ap, ◌∙◌}
use mathlib.Core.Option.{none, some}
use mathlib.Core.List.{List}
use Rattle.std.specs.Prelude.{Option, Some, None}
use Rattle.reader.specs.declared.Shape.{Shape}
use Rattle.system.specs.Limits.{max_rules}
use Rattle.system.specs.System.{System}
use Rattle.reader.specs.Book.{system_of, Accepted}
use Rattle.layout.proofs.Books.{well}
use Rattle.matching.specs.declared.FirstRule.{FirstRule}
use Rattle.matching.specs.declared.FirstRule.TheVariants.{First, Computed}
use Rattle.redexes.specs.declared.search.Redex.{Redex}
use Rattle.redexes.specs.declared.search.Redex.TheVariants.{Listed, BuiltIn}
use Rattle.matching.specs.Matching.{Contraction, Computation, contraction}
use Rattle.matching.specs.Bindings.{match_of}
use Rattle.redexes.specs.search.Redexes.{redex_for, redex_of, number_of}
use Rattle.matching.proofs.Computed.{Operates, by-max, by-min, by-square, operates}
use Rattle.matching.proofs.Sources.{found, match-listed, match-computed}
use Rattle.matching.proofs.Reducts.{match_none, match-some, match-word}

module _ (b : List ℕ) (sh : Shape) (acc : Accepted b sh) (ws : List ℕ) where
  abbrev s : System
  s = system_of b

  -- the numbers: those of listed rules are below 128, those of built-in ones follow
  pub listed-number : {n rhs size : ℕ} → (match_of s ws).rule ≡ Some (First n rhs size) → n < max_rules
  listed-number {n} {rhs} {size} f =
      let c = (found b sh acc ws).chosen n rhs size (ap (λ y. y.rule) (sym (match-listed b sh acc ws f)) ∙ f) in
      let k = c.number in
      let i = c.inside in
      let m = (well b sh acc).rule_bound in
      omega arith

  pub built-number : {k w : ℕ} → (match_of s ws).rule ≡ Some (Computed k w) → (max_rules ≤ k) × (k < 65536)
  built-number {k} {w} f = go (operates ws (record { number = k; word = w }) (match-computed b sh acc ws f).1)
    where
      is : {x : Computation} → record { number = k; word = w } ≡ x → k ≡ x.number
      is e = ap (λ y. y.number) e

      go : {f a b : ℕ} → Operates f a b (record { number = k; word = w }) → (max_rules ≤ k) × (k < 65536)
      go (by-max q u v e) = let z = is e in (omega arith, omega arith)
      go (by-min q u v e) = let z = is e in (omega arith, omega arith)
      go (by-square q u e) = let z = is e in (omega arith, omega arith)

  -- none matches
  pub redex-none : redex_of s ws ≡ None → contraction s ws ≡ none
  redex-none e = go (match_of s ws).rule refl e
    where
      go : (o : Option FirstRule) → (match_of s ws).rule ≡ o → redex_for o ≡ None → contraction s ws ≡ none
      go None q z = match_none b sh acc ws (match_of s ws) refl q
      go (Some (First n rhs size)) q z = absurd (cc)
      go (Some (Computed k w)) q z = absurd (cc)

  module _ {r : Redex} (e : redex_of s ws ≡ Some r) where
    -- one matches, listed or built in
    pub redex-some : (x : Contraction) × (contraction s ws ≡ some x)
    redex-some = go (match_of s ws).rule refl e
      where
        go : (o : Option FirstRule) → (match_of s ws).rule ≡ o → redex_for o ≡ Some r → (x : Contraction) × (contraction s ws ≡ some x)
        go None q z = absurd (cc)
        go (Some (First n rhs size)) q z = (_, match-some b sh acc ws (match_of s ws) refl q)
        go (Some (Computed k w)) q z = (_, match-word b sh acc ws (match_of s ws) refl q)

    -- its number
    pub redex-number : (x : Contraction) → contraction s ws ≡ some x → number_of r ≡ x.number
    redex-number x y = go (match_of s ws).rule refl e
      where
        is : {r' : Redex} → Some r' ≡ Some r → number_of r ≡ number_of r'
        is {r'} z = let q : r ≡ r' = cc in ap number_of q

        go : (o : Option FirstRule) → (match_of s ws).rule ≡ o → redex_for o ≡ Some r → number_of r ≡ x.number
        go None q z = absurd (cc)
        go (Some (First n rhs size)) q z = let m = match-some b sh acc ws (match_of s ws) refl q in let k : n ≡ x.number = cc in is z ∙ k
        go (Some (Computed n w)) q z = let m = match-word b sh acc ws (match_of s ws) refl q in let k : n ≡ x.number = cc in is z ∙ k

  -- for the one who rewrites: a rule that the book lists, or one that is built in
  pub redex-listed : {n : ℕ} → redex_of s ws ≡ Some (Listed n) → (rhs : ℕ) × (size : ℕ) × ((match_of s ws).rule ≡ Some (First n rhs size))
  redex-listed {n} e = go (match_of s ws).rule refl e
    where
      go : (o : Option FirstRule) → (match_of s ws).rule ≡ o → redex_for o ≡ Some (Listed n) → (rhs : ℕ) × (size : ℕ) × ((match_of s ws).rule ≡ Some (First n rhs size))
      go None q z = absurd (cc)
      go (Some (First k rhs size)) q z = (rhs, size, (let y : k ≡ n = cc in q ∙ ap (λ k. Some (First k rhs size)) y))
      go (Some (Computed k w)) q z = absurd (cc)

  pub redex-built : {n w : ℕ} → redex_of s ws ≡ Some (BuiltIn n w) → (match_of s ws).rule ≡ Some (Computed n w)
  redex-built {n} {w} e = go (match_of s ws).rule refl e
    where
      go : (o : Option FirstRule) → (match_of s ws).rule ≡ o → redex_for o ≡ Some (BuiltIn n w) → (match_of s ws).rule ≡ Some (Computed n w)
      go None q z = absurd (cc)
      go (Some (First k rhs size)) q z = absurd (cc)
      go (Some (Computed k v)) q z = cc
