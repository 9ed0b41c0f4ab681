-- The rules of a bucket, in book order: `rule_from` finds the first of them from a number on, and skips no other.
use Prim.Native.Nat.{ℕ, zero, suc, ◌+◌, ◌-◌, ◌≤◌, ◌<◌}
use native.Mathlib.Omega.{arith}
use native.Mathlib.Decide.{ℕ_discrete, dec_lt}
use native.Mathlib.Numerals.{add-one}
use mathlib.Core.Path.{◌≡◌, refl, ap, ◌∙◌, subst}
use mathlib.Core.Bool.{Bool, true, false}
use mathlib.Core.List.{List, [], ◌∷◌}
use lib.ListN.{length, get_or, drop, drop_of_length-le, length-drop}
use lib.Seq.{drop-cons, get_or-drop}
use lib.Dec.{eqb}
use borrow.Author.Tests.{eq-eqb, ne_eqb, eqb-true, eqb-false}
use Rattle.system.specs.System.{System, Rule, rule, no_rule, head}
use Rattle.layout.specs.index.Index.{bucket, seek, rule_from, rule_after}

-- ---- the first of a list

module _ (p : ℕ → Bool) where
  seek-none : seek p [] ≡ 0
  unfolding seek
  seek-none = refl

  seek-here : (r : Rule) (rs : List Rule) → p (head r.lhs) ≡ true → seek p (r ∷ rs) ≡ 0
  unfolding seek
  seek-here r rs e = rw (e, seek)

  seek-next : (r : Rule) (rs : List Rule) → p (head r.lhs) ≡ false → seek p (r ∷ rs) ≡ suc (seek p rs)
  unfolding seek
  seek-next r rs e = rw (e, seek)

  -- it is one of the list, or the list's end
  pub seek-bound : (rs : List Rule) → seek p rs ≤ length rs
  seek-bound [] = omega (arith, seek-none)
  seek-bound (r ∷ rs) = go (p (head r.lhs)) refl (seek-bound rs)
    where
      go : (x : Bool) → p (head r.lhs) ≡ x → seek p rs ≤ length rs → seek p (r ∷ rs) ≤ length (r ∷ rs)
      go true e h = omega (arith, seek-here r rs e)
      go false e h = omega (arith, seek-next r rs e)

  -- none before it passes
  pub seek-before : (rs : List Rule) (i : ℕ) → i < seek p rs → p (head (get_or rs i no_rule).lhs) ≡ false
  seek-before [] i h = absurd (omega (arith, seek-none))
  seek-before (r ∷ rs) i h = go (p (head r.lhs)) refl i h (seek-before rs)
    where
      go : (x : Bool) → p (head r.lhs) ≡ x → (i : ℕ) → i < seek p (r ∷ rs) → ((i : ℕ) → i < seek p rs → p (head (get_or rs i no_rule).lhs) ≡ false) →
          p (head (get_or (r ∷ rs) i no_rule).lhs) ≡ false
      go true e i h on = absurd (omega (arith, seek-here r rs e))
      go false e zero h on = e
      go false e (suc i) h on = on i (omega (arith, seek-next r rs e))

  -- it passes itself
  pub seek_found : (rs : List Rule) → seek p rs < length rs → p (head (get_or rs (seek p rs) no_rule).lhs) ≡ true
  seek_found [] h = absurd (omega arith)
  seek_found (r ∷ rs) h = go (p (head r.lhs)) refl h (seek_found rs)
    where
      go : (x : Bool) → p (head r.lhs) ≡ x → seek p (r ∷ rs) < length (r ∷ rs) → (seek p rs < length rs → p (head (get_or rs (seek p rs) no_rule).lhs) ≡ true) →
          p (head (get_or (r ∷ rs) (seek p (r ∷ rs)) no_rule).lhs) ≡ true
      go true e h on = rw (seek-here r rs e) e
      go false e h on = rw (seek-next r rs e) (on (omega (arith, seek-next r rs e)))

-- ---- the first rule of a bucket from number k on

module _ (s : System) (k b : ℕ) where
  abbrev test : ℕ → Bool
  test w = eqb (bucket w) b

  from-seek : rule_from s k b ≡ k + seek test (drop k s.rules)
  unfolding rule_from
  from-seek = refl

  pub from-above : k ≤ rule_from s k b
  from-above = omega (arith, from-seek)

  pub from-within : k ≤ length s.rules → rule_from s k b ≤ length s.rules
  from-within h = omega (arith, from-seek, rw (length-drop k s.rules) at (seek-bound test (drop k s.rules)))

  -- at the end; at a rule of the bucket; at another rule
  pub from_end : length s.rules ≤ k → rule_from s k b ≡ k
  from_end h = from-seek ∙ rw (drop_of_length-le s.rules h, seek-none test) (omega arith)

  module _ (more : k < length s.rules) where
    pub from-here : bucket (head (rule s k).lhs) ≡ b → rule_from s k b ≡ k
    from-here e = from-seek ∙ rw (drop-cons s.rules k no_rule more, seek-here test (rule s k) (drop (suc k) s.rules) (eq-eqb _ b e)) (omega arith)

    pub from_next : (bucket (head (rule s k).lhs) ≡ b → ⊥) → rule_from s k b ≡ rule_from s (k + 1) b
    unfolding rule_from
    from_next d =
        from-seek ∙ rw (drop-cons s.rules k no_rule more, seek-next test (rule s k) (drop (suc k) s.rules) (ne_eqb _ b d), add-one k) (omega arith)

  -- no rule that is skipped is of the bucket
  pub from-skips : (i : ℕ) → k ≤ i → i < rule_from s k b → bucket (head (rule s i).lhs) ≡ b → ⊥
  from-skips i low high =
      let z : k + (i - k) ≡ i = omega arith in
      eqb-false _ b (rw (get_or-drop k s.rules (i - k) no_rule, z) at (seek-before test (drop k s.rules) (i - k) (omega (arith, from-seek))))

  -- the one that is found is
  pub from_found : rule_from s k b < length s.rules → bucket (head (rule s (rule_from s k b)).lhs) ≡ b
  from_found h =
      let n = seek test (drop k s.rules) in
      let found = seek_found test (drop k s.rules) (omega (arith, from-seek, length-drop k s.rules)) in
      rw from-seek (eqb-true _ b (rw (get_or-drop k s.rules n no_rule) at found))

-- ---- what holds of every rule that starts with another word than w holds of all that are skipped along the list of the bucket of w

module _ (s : System) (w : ℕ) (P : ℕ → Type 0) (others : (i : ℕ) → i < length s.rules → (head (rule s i).lhs ≡ w → ⊥) → P i) where
  between : (k i : ℕ) → k ≤ length s.rules → k ≤ i → i < rule_from s k (bucket w) → P i
  between k i fits low high =
      let h = from-within s k (bucket w) fits in
      others i (omega arith) (λ e. from-skips s k (bucket w) i low high (ap bucket e))

  pub skips-first : (i : ℕ) → i < rule_from s 0 (bucket w) → P i
  skips-first i h = between 0 i (omega arith) (omega arith) h

  pub skips-next : (k : ℕ) → k < length s.rules → bucket (head (rule s k).lhs) ≡ bucket w → ((i : ℕ) → i < k → P i) → P k → (i : ℕ) → i < rule_after s k → P i
  skips-next k more of before here i h = elim (dec_lt i k) [
    | yes l ↦ before i l
    | no n ↦ elim (ℕ_discrete k i) [ yes e ↦ subst P e here | no d ↦ between (k + 1) i (omega arith) (omega arith) (rw of at h) ]
  ]
