-- Whether an answer's number is 0, as the code asks for it.
use mathlib.Core.Bool.{Bool, true, false, true≢false}
use mathlib.Core.Path.{◌≡◌, sym, ◌∙◌}
use Rattle.std.specs.Prelude.{ℕ, eqb}
use Rattle.std.proofs.lemmas.Bool.{eqb-true, eq-eqb}

module _ {n : ℕ} {b : Bool} (is : b ≡ eqb n 0) where
  pub number-taken : b ≡ true → n ≡ 0
  number-taken e = eqb-true n 0 (sym is ∙ e)

  pub number-untaken : b ≡ false → n ≡ 0 → ⊥
  number-untaken e z = true≢false (sym (is ∙ eq-eqb n 0 z) ∙ e)
