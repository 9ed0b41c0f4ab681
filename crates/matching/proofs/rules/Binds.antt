-- One word of a left side, and the stretches of the variables: what is taken and what is bound, on each way out of `bind`.
use Prim.Native.Nat.{ℕ, ◌-◌, ◌≤◌, ◌<◌}
use native.Mathlib.Omega.{arith}
use mathlib.Core.Path.{◌≡◌, refl, sym, ◌∙◌}
use mathlib.Core.Bool.{Bool, true, false}
use mathlib.Core.List.{List}
use lib.ListN.{get_or, take, drop, set}
use Rattle.system.specs.Limits.{variable}
use Rattle.system.specs.Signature.{Signature}
use Rattle.matching.specs.Matching.{same_words}
use Rattle.matching.specs.Bindings.{Bindings, consumed, value, taken, with_binding}
use Rattle.matching.specs.rules.Searches.{stretches}
use Rattle.matching.proofs.rules.MatchSteps.{with_binding-symbol, with_binding-old, with_binding-new, taken-symbol, taken-new, taken-again, taken-unlike, taken_none}

-- the word w, of which l is the number, against the words of ws from q on; by itself it takes n
module _ (g : Signature) (ws : List ℕ) {l w : ℕ} (is : w ≡ l) (q : ℕ) (ss ls : List ℕ) {n : ℕ} (takes : n ≡ consumed g l (drop q ws)) where
  abbrev y : Bindings
  y = stretches ss ls

  -- r words are taken, and these are the stretches then
  abbrev pub Binds : ℕ → List ℕ → List ℕ → Type 0
  Binds r ss' ls' = (r ≡ taken g ws l q y) × (((r ≡ 0 → ⊥) → stretches ss' ls' ≡ with_binding l q r y) × (r ≡ 0 → (ss' ≡ ss) × (ls' ≡ ls)))

  pub nothing-binds : n ≡ 0 → Binds 0 ss ls
  nothing-binds z = (sym (taken_none g ws l q y (sym takes ∙ z)), (λ d. absurd (d refl), λ e. (refl, refl)))

  pub symbol-binds : w < variable → Binds n ss ls
  symbol-binds low =
      let low' : l < variable = omega arith in
      (takes ∙ sym (taken-symbol g ws l q y low'), (λ d. sym (with_binding-symbol l y q n low'), λ e. (refl, refl)))

  module _ (high : variable ≤ w) where
    number : w - variable ≡ l - variable
    number = omega arith

    -- a variable that has no stretch yet
    pub new-binds : (n ≡ 0 → ⊥) → get_or ls (w - variable) 0 ≡ 0 → Binds n (set ss (w - variable) q) (set ls (w - variable) n)
    new-binds much new =
        let new' : get_or ls (l - variable) 0 ≡ 0 = rw number at new in (
          takes ∙ sym (taken-new g ws l q y new'),
          (λ d. (λ i. stretches (set ss (number i) q) (set ls (number i) n)) ∙ sym (with_binding-new l y q n (omega arith) new'), λ e. absurd (much e)),
        )

    -- one that has a stretch, of the same words or of others
    module _ (old : get_or ls (w - variable) 0 ≡ 0 → ⊥) {r : Bool}
        (e : r ≡ same_words (take (get_or ls (w - variable) 0) (drop (get_or ss (w - variable) 0) ws)) (take n (drop q ws))) where
      old' : 0 < get_or ls (l - variable) 0
      old' = let o : 0 < get_or ls (w - variable) 0 = omega arith in rw number at o

      alike : same_words (value ws y (l - variable)) (take (consumed g l (drop q ws)) (drop q ws)) ≡ r
      unfolding value
      alike =
          (λ i. same_words (take (get_or ls (sym number i) 0) (drop (get_or ss (sym number i) 0) ws)) (take (sym takes i) (drop q ws))) ∙ sym e

      pub unlike-binds : r ≡ false → Binds 0 ss ls
      unlike-binds f = (sym (taken-unlike g ws l q y (omega arith) old' (alike ∙ f)), (λ d. absurd (d refl), λ z. (refl, refl)))

      pub again-binds : r ≡ true → Binds n ss ls
      again-binds f =
          (takes ∙ sym (taken-again g ws l q y (omega arith) old' (alike ∙ f)), (λ d. sym (with_binding-old l y q n (omega arith) old'), λ z. (refl, refl)))
