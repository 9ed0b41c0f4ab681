-- What a check comes to, by its answer.
use Rattle.std.specs.Prelude.{◌≡◌, Result, MatchResult}
use Rattle.system.specs.declared.Answer.{Answer}

-- on 0 it passed, and with any other number it refuses the call
abbrev pub Checked : {T : Type 0} → Answer → Result T Answer → Type 0
Checked a r = MatchResult r (λ _. a.number ≡ 0) (λ e. (e ≡ a) × (e.number ≡ 0 → ⊥))
