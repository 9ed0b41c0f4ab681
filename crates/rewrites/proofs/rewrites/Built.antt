-- A rewrite by a built-in rule, whose right side is a word; and what a reduct that was put is in the words of a rewrite.
use Prim.Native.Nat.{ℕ, zero, suc, ◌+◌, ◌≤◌, ◌<◌}
use native.Mathlib.Omega.{arith}
use mathlib.Core.Path.{◌≡◌, refl, sym, ap, ◌∙◌, subst}
use mathlib.Core.Logic.{inl}
use mathlib.Core.List.{List, [], ◌∷◌, ◌++◌, append_assoc}
use lib.ListN.{length, get_or, take, drop, length-drop}
use Rattle.system.specs.Limits.{variable, variables, term_words}
use Rattle.system.specs.BuiltIns.{literal, literals}
use Rattle.system.specs.Signature.{arity, replace}
use Rattle.system.specs.System.{System, instance}
use Rattle.system.specs.Terms.{Member, first, later}
use Rattle.system.specs.Signature.{signature_of}
use Rattle.reader.specs.declared.Shape.{Shape}
use Rattle.reader.specs.Book.{system_of, Accepted}
use Rattle.system.proofs.BuiltIns.{arity-none}
use Rattle.system.proofs.Members.{member-nil}
use Rattle.system.proofs.words.SpanSteps.{span-some}
use Rattle.system.proofs.Signatures.{arity-unlisted, few-listed}
use Rattle.layout.proofs.Books.{signature}
use Rattle.rows.specs.declared.gap.Gap.{Gap}
use Rattle.rows.specs.Rows.{term_in}
use Rattle.std.specs.Prelude.{Some}
use Rattle.redexes.specs.declared.search.Redex.{Redex}
use Rattle.redexes.specs.declared.search.Redex.TheVariants.{BuiltIn}
use Rattle.redexes.proofs.search.Found.{redex-built}
use Rattle.matching.specs.declared.FirstRule.TheVariants.{Computed}
use Rattle.matching.specs.Matching.{Contraction}
use Rattle.matching.proofs.Matched.{instance-nil, instance-symbol}
use Rattle.matching.proofs.Reducts.{match-word, match-literal}
use Rattle.reducts.specs.declared.putting.Reduced.{Reduced}
use Rattle.reducts.specs.declared.putting.Subterm.{Subterm}
use Rattle.sides.specs.sides.Sides.{Stretches, stretches_in}
use Rattle.sides.specs.sides.Sides.{Sided}
use Rattle.reducts.specs.putting.Replaced.{filling, Puttable, spliced, Placed, Kept, Put, fits, exceeds}
use Rattle.rewrites.specs.rewrites.Rewritten.{Contracts, Reducible, rewritten, Rewrites, done, long}
use Rattle.rewrites.proofs.rewrites.Redexes.{formed, inside, measured, words, small, ends, starts-many, lengths-many, found}

module _ {book ws : List ℕ} {shape : Shape} {gap : Gap} {u : Subterm} {m : Redex} {bs : List ℕ} (acc : Accepted book shape) (asked : Reducible book ws gap u m bs) where
  abbrev s : System
  s = system_of book

  abbrev t : List ℕ
  t = term_in ws gap

  -- what was put in the place of words that start where the redex does, if the term then is the rewrite
  pub put-rewrites : (side : List ℕ) (width : ℕ) (c : Stretches) →
      let front : Subterm = record { level = u.level; at = u.at; width = width } in
      ((x : Contraction) → Contracts book ws gap u x → spliced side t front c ≡ rewritten s ws gap u x) →
      (r : Reduced) (ws' : List ℕ) → Put (signature_of book) side ws gap front c r ws' → Rewrites book ws gap u r ws'
  put-rewrites side width c is r ws' (fits l gap' q h) x e =
      let z = is x e in
      done (subst (λ y. length y ≤ term_words) z l) gap' q
      (subst (λ y. Placed y ws t (rewritten s ws gap u x) u.at u.level gap' ws') (sym (signature book shape acc))
      (subst (λ y. Placed (signature_of book) ws t y u.at u.level gap' ws') z h))
  put-rewrites side width c is r ws' (exceeds l gap' q h) x e =
      long (subst (λ y. term_words < length y) (is x e) l) gap' q (subst (λ y. Kept y ws t gap' ws') (sym (signature book shape acc)) h)

  -- the rule itself
  pub built-rule : {k w : ℕ} → m ≡ BuiltIn k w → (found acc asked).rule ≡ Some (Computed k w)
  built-rule is = redex-built book shape acc (drop u.at t) (asked.match ∙ ap Some is)

  module _ {k w : ℕ} (F : (found acc asked).rule ≡ Some (Computed k w)) where
    is-level : (literal ≤ w) × (w < literal + literals)
    is-level = match-literal book shape acc (drop u.at t) (found acc asked) refl F

    pub word-symbol : w < variable
    word-symbol = let h = is-level in omega arith

    pub word-arity : arity (signature_of book) w ≡ 0
    word-arity =
        let h = is-level in
        let n = ap length (signature book shape acc) in
        arity-unlisted (signature_of book) w (omega (arith, few-listed s (formed acc asked))) ∙ arity-none w (inl (omega arith))

    pub word_wide : 0 < u.width
    word_wide = let z = span-some s.arities (drop u.at t) (omega (arith, length-drop u.at t, inside acc asked)) in omega (arith, asked.wide)

    sided : Sided (w ∷ [])
    sided = record { small = omega arith; known = one }
      where
        one : (j : ℕ) → j < 1 → get_or (w ∷ []) j 0 < variable + variables
        one zero h = omega (arith, word-symbol)
        one (suc j) h = absurd (omega arith)

    no-variable : (v : ℕ) → Member (variable + v) (w ∷ []) → ⊥
    no-variable v h = go (variable + v) refl h
      where
        go : (e : ℕ) → e ≡ variable + v → Member e (w ∷ []) → ⊥
        go e q first = omega (arith, word-symbol)
        go e q (later h) = member-nil h

    pub word-puttable : Puttable (signature_of book) (w ∷ []) ws gap u (stretches_in bs)
    word-puttable = record {
      total = asked.total;
      measured = measured acc asked;
      within = omega (arith, ends acc asked, words acc asked);
      around = omega (arith, ends acc asked, words acc asked, small acc asked, asked.around);
      sided = sided;
      starts = starts-many acc asked;
      lengths = lengths-many acc asked;
      filled = λ v h. absurd (no-variable v h);
    }

    pub word-rewritten : (x : Contraction) → Contracts book ws gap u x → spliced (w ∷ []) t u (stretches_in bs) ≡ rewritten s ws gap u x
    unfolding replace
    word-rewritten x c =
        let σ = filling t u (stretches_in bs) in
        let e : instance σ (w ∷ []) ≡ w ∷ [] = instance-symbol σ w [] word-symbol ∙ ap (λ r. w ∷ r) (instance-nil σ) in
        let y = match-word book shape acc (drop u.at t) (found acc asked) refl F in
        let z : record { number = k; reduct = w ∷ [] } ≡ x = cc y in
        append_assoc (take u.at t) (instance σ (w ∷ [])) (drop (u.at + u.width) t)
        ∙ ap (λ y. take u.at t ++ (y ++ drop (u.at + u.width) t)) (e ∙ ap (λ y. y.reduct) z)
        ∙ ap (λ y. take u.at t ++ (x.reduct ++ drop (u.at + y) t)) asked.wide
