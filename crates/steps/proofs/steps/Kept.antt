-- The way to the base at the end of the third row: its words, and that it stays where the last words do.
use Prim.Native.Nat.{ℕ, zero, suc, ◌+◌, ◌-◌, ◌≤◌, ◌<◌}
use native.Mathlib.Omega.{arith}
use native.Mathlib.Decide.{ℕ_discrete}
use mathlib.Core.Path.{◌≡◌, refl, sym, ap, ◌∙◌}
use mathlib.Core.List.{List, [], ◌∷◌, ◌++◌}
use lib.ListN.{length, get_or, drop, length-append, get_or-append}
use lib.Seq.{get_or-drop, get_or_at}
use Rattle.system.specs.Limits.{term_words}
use Rattle.rows.specs.Rows.{counts_at}
use Rattle.machine.specs.advance.Area.{last_words}
use Rattle.steps.specs.steps.Raised.{way_in}

module _ (ws : List ℕ) where
  pub way-none : way_in ws 0 ≡ []
  unfolding way_in
  way-none = refl

  pub way-length : (n : ℕ) → length (way_in ws n) ≡ n
  unfolding way_in
  way-length zero = refl
  way-length (suc n) = length-append (way_in ws n) _ ∙ let z = way-length n in omega arith

  pub way-word : (n k : ℕ) → k < n → get_or (way_in ws n) k 0 ≡ get_or ws (counts_at + (term_words - suc k)) 0
  unfolding way_in
  way-word zero k h = absurd (omega arith)
  way-word (suc n) k h = elim (ℕ_discrete k n) [
    | yes e ↦
        get_or_at (way_in ws n) (get_or ws (counts_at + (term_words - suc n)) 0) [] 0 k (way-length n ∙ sym e)
        ∙ ap (λ y. get_or ws (counts_at + (term_words - suc y)) 0) (sym e)
    | no e ↦ get_or-append (way_in ws n) _ 0 k (let z = way-length n in omega arith) ∙ way-word n k (omega arith)
  ]

  -- a word of it among the last words
  pub way-last : (base n : ℕ) → base ≤ term_words → n < base → get_or ws (counts_at + (term_words - suc n)) 0 ≡ get_or (last_words base ws) (base - suc n) 0
  way-last base n l h =
      let e : term_words - suc n ≡ term_words - base + (base - suc n) = omega arith in
      ap (λ y. get_or ws (counts_at + y) 0) e ∙ sym (get_or-drop counts_at ws (term_words - base + (base - suc n)) 0)
      ∙ sym (get_or-drop (term_words - base) (drop counts_at ws) (base - suc n) 0)

pub way_same : (base : ℕ) (ws ws' : List ℕ) → last_words base ws' ≡ last_words base ws → base ≤ term_words → (n : ℕ) → n ≤ base → way_in ws' n ≡ way_in ws n
unfolding way_in
way_same base ws ws' e l zero h = refl
way_same base ws ws' e l (suc n) h =
    let word : get_or ws' (counts_at + (term_words - suc n)) 0 ≡ get_or ws (counts_at + (term_words - suc n)) 0 =
    way-last ws' base n l (omega arith) ∙ ap (λ y. get_or y (base - suc n) 0) e ∙ sym (way-last ws base n l (omega arith)) in
    let front = way_same base ws ws' e l n (omega arith) in
    λ i. front i ++ word i ∷ []
