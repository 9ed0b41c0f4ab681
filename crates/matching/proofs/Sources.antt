-- Which rule the search finds over an accepted book: one that the book lists, or else what three words compute.
use Prim.Native.Nat.{ℕ, ◌≤◌, ◌<◌}
use native.Mathlib.Omega.{arith}
use mathlib.Core.Path.{◌≡◌, refl, sym, ap, ◌∙◌}
use mathlib.Core.Option.{Option, none, some}
use mathlib.Core.List.{List}
use lib.ListN.{get_or, take, drop}
use Rattle.std.specs.Prelude.{Option as Found, None, Some}
use Rattle.reader.specs.declared.Shape.{Shape}
use Rattle.system.specs.declared.numbers.Fault.{Fault}
use Rattle.system.specs.BuiltIns.{literal}
use Rattle.system.specs.System.{System, instance}
use Rattle.system.specs.Signature.{signature_of}
use Rattle.reader.specs.Parser.{ok, fault, read}
use Rattle.reader.specs.Book.{system_of, Accepted}
use Rattle.layout.proofs.Books.{well, signature, first_rest, well_formed_rules, rule-count}
use Rattle.matching.specs.declared.Match.{Match}
use Rattle.matching.specs.declared.FirstRule.{FirstRule}
use Rattle.matching.specs.declared.FirstRule.TheVariants.{First, Computed}
use Rattle.matching.specs.Matching.{first_match, Computation, computed, computed_contraction, contraction}
use Rattle.matching.specs.Bindings.{no_bindings, no_match, match_listed, computed_rule, match_computed, or_else, match_of, match_in, value, bindings_of, contraction_of}
use Rattle.matching.specs.rules.Searches.{Within}
use Rattle.matching.proofs.Computed.{computed-low}
use Rattle.matching.proofs.Firsts.{contraction-listed, contraction-computed, first-high}
use Rattle.matching.proofs.BindingsAgree.{Answers, answers, reads_none}
use Rattle.matching.proofs.rules.Searches.{match-start}

module _ (b : List ℕ) (sh : Shape) (acc : Accepted b sh) where
  abbrev s : System
  s = system_of b

  module _ (ws : List ℕ) where
    pub found : Answers b ws (signature_of b) s.rules 0 (match_listed s ws)
    found =
        rw (← match-start acc ws)
        (answers b ws (signature_of b) s.rules 0 sh.first_rule (first_rest b sh acc).words (λ j h. well_formed_rules b sh acc j (rw (rule-count b sh acc) h)))

    -- a rule that is listed, or else what is computed
    data Comes (m : Match) : Type 0 where
      from-book : {n rhs size : ℕ} → m.rule ≡ Some (First n rhs size) → m ≡ match_listed s ws → Comes m
      from-words : match_listed s ws ≡ no_match → m ≡ match_computed ws → Comes m

    comes : Comes (match_of s ws)
    unfolding match_of
    comes = go (match_listed s ws).rule refl
      where
        keeps : {n rhs size : ℕ} (f : Found FirstRule) (st ln : List ℕ) → f ≡ Some (First n rhs size) →
            or_else (record { rule = f; starts = st; lengths = ln }) (match_computed ws) ≡ record { rule = f; starts = st; lengths = ln }
        keeps None st ln e = absurd (let z : ◌≡◌ {A = ℕ} 0 1 = cc in omega arith)
        keeps (Some (First k rhs size)) st ln e = refl
        keeps (Some (Computed k w)) st ln e = refl

        go : (f : Found FirstRule) → (match_listed s ws).rule ≡ f → Comes (or_else (match_listed s ws) (match_computed ws))
        go None e = let q = found.nothing e in from-words q (ap (λ y. or_else y (match_computed ws)) q)
        go (Some (First n rhs size)) e =
            let q = keeps (match_listed s ws).rule (match_listed s ws).starts (match_listed s ws).lengths e in
            from-book (ap (λ y. y.rule) q ∙ e) q
        go (Some (Computed k w)) e = absurd (found.listed k w e)

    -- which it is, by what was found
    pub not-computed : {n rhs size : ℕ} (o : Option Computation) → computed_rule o ≡ Some (First n rhs size) → ⊥
    not-computed none e = let z : ◌≡◌ {A = ℕ} 0 1 = cc in omega arith
    not-computed (some c) e = let z : ◌≡◌ {A = ℕ} 0 1 = cc in omega arith

    computed-is : {k w : ℕ} (o : Option Computation) → computed_rule o ≡ Some (Computed k w) → o ≡ some (record { number = k; word = w })
    computed-is none e = absurd (let z : ◌≡◌ {A = ℕ} 0 1 = cc in omega arith)
    computed-is {k} {w} (some c) e =
        let p : c.number ≡ k = cc in
        let q : c.word ≡ w = cc in
        λ i. some (record { number = p i; word = q i })

    computed-rule : (match_computed ws).rule ≡ computed_rule (computed ws)
    unfolding match_computed
    computed-rule = refl

    pub match-listed : {n rhs size : ℕ} → (match_of s ws).rule ≡ Some (First n rhs size) → match_of s ws ≡ match_listed s ws
    match-listed f = go comes f
      where
        go : {m : Match} → Comes m → {n rhs size : ℕ} → m.rule ≡ Some (First n rhs size) → m ≡ match_listed s ws
        go (from-book _ q) f = q
        go (from-words _ q) f = absurd (not-computed (computed ws) (sym computed-rule ∙ ap (λ y. y.rule) (sym q) ∙ f))

    pub match-computed : {k w : ℕ} → (match_of s ws).rule ≡ Some (Computed k w) → (match_of s ws ≡ match_computed ws) × (computed ws ≡ some (record { number = k; word = w }))
    match-computed f = go comes f
      where
        go : {m : Match} → Comes m → {k w : ℕ} → m.rule ≡ Some (Computed k w) → (m ≡ match_computed ws) × (computed ws ≡ some (record { number = k; word = w }))
        go (from-book e q) f = absurd (let z : ◌≡◌ {A = ℕ} 0 1 = cc in omega arith)
        go (from-words _ q) f = (q, computed-is (computed ws) (sym computed-rule ∙ ap (λ y. y.rule) (sym q) ∙ f))

    -- the redex in each case
    listed-first : contraction_of b ws (match_listed s ws) ≡ first_match s.arities s.rules 0 ws
    listed-first = found.contraction ∙ ap (λ g. first_match g s.rules 0 ws) (sym (signature b sh acc))

    redex-listed : (m : Match) {n rhs size : ℕ} → m.rule ≡ Some (First n rhs size) →
        contraction_of b ws m ≡ some (record { number = n; reduct = instance (value ws (bindings_of m)) (take size (drop rhs b)) })
    unfolding contraction_of
    redex-listed m e = rw (e, contraction_of)

    redex-none : contraction_of b ws no_match ≡ none
    unfolding contraction_of
    redex-none = refl

    redex-computed : contraction_of b ws (match_computed ws) ≡ computed_contraction (computed ws)
    unfolding contraction_of match_computed
    redex-computed = go (computed ws)
      where
        go : (o : Option Computation) →
            contraction_of b ws (record { rule = computed_rule o; starts = no_bindings.starts; lengths = no_bindings.lengths }) ≡ computed_contraction o
        go none = refl
        go (some c) = refl

    computed-unbound : match_computed ws ≡ record { rule = computed_rule (computed ws); starts = no_bindings.starts; lengths = no_bindings.lengths }
    unfolding match_computed
    computed-unbound = refl

    computed-nothing : computed ws ≡ none → match_computed ws ≡ no_match
    unfolding match_computed
    computed-nothing e = rw e

    -- one look at the first word tells which rules may match: below the literals only listed ones, from there on only built-in ones
    pub match_low : get_or ws 0 0 < literal → match_listed s ws ≡ match_of s ws
    match_low h = go comes
      where
        go : {m : Match} → Comes m → match_listed s ws ≡ m
        go (from-book _ q) = sym q
        go (from-words z q) = z ∙ sym (computed-nothing (computed-low ws h)) ∙ sym q

    pub match-high : literal ≤ get_or ws 0 0 → match_computed ws ≡ match_of s ws
    match-high h = go comes
      where
        go : {m : Match} → Comes m → match_computed ws ≡ m
        go (from-words _ q) = sym q
        go {m} (from-book e q) =
            let z = sym (first-high s (well b sh acc) ws h) ∙ sym listed-first ∙ ap (contraction_of b ws) (sym q) in
            absurd (let y : ◌≡◌ {A = ℕ} 0 1 = cc (redex-listed m e) in omega arith)

    pub match-words : {f : Found FirstRule} → f ≡ computed_rule (computed ws) → literal ≤ get_or ws 0 0 →
        record { rule = f; starts = no_bindings.starts; lengths = no_bindings.lengths } ≡ match_of s ws
    match-words e h =
        (λ i. record { rule = e i; starts = no_bindings.starts; lengths = no_bindings.lengths }) ∙ sym computed-unbound ∙ match-high h

    -- the search finds the first redex
    pub match-contraction : contraction_of b ws (match_of s ws) ≡ contraction s ws
    match-contraction = go comes
      where
        go : {m : Match} → Comes m → contraction_of b ws m ≡ contraction s ws
        go {m} (from-book e q) = redex-listed m e ∙ sym (contraction-listed s ws _ (sym listed-first ∙ ap (contraction_of b ws) (sym q) ∙ redex-listed m e))
        go (from-words z q) = ap (contraction_of b ws) q ∙ redex-computed ∙ sym (contraction-computed s ws (sym listed-first ∙ ap (contraction_of b ws) z ∙ redex-none))

    -- the stretches lie in the words, whichever it is
    pub all-within : Within ws (match_of s ws).starts (match_of s ws).lengths
    all-within = go comes
      where
        go : {m : Match} → Comes m → Within ws m.starts m.lengths
        go (from-book e q) = rw q found.within
        go (from-words z q) = rw (q ∙ computed-unbound) (reads_none ws).within

-- ---- of a book's words

module _ (b : List ℕ) where
  pub match-refused : {f : Fault} {i : ℕ} → read b ≡ fault f i → (ws : List ℕ) → match_in b ws ≡ no_match
  unfolding match_in
  match-refused e ws = rw (e, match_in)

  pub match-accepted : {x : System} {i : ℕ} → read b ≡ ok x i → (ws : List ℕ) → match_in b ws ≡ match_of x ws
  unfolding match_in
  match-accepted e ws = rw (e, match_in)
