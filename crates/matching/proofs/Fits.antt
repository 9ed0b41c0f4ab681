-- What is found for a book's words is what `TellsMatch` says of it.
use Prim.Native.Nat.{ℕ}
use mathlib.Core.Path.{◌≡◌, refl, sym, subst}
use mathlib.Core.Logic.{◌↔◌}
use mathlib.Core.Option.{some}
use mathlib.Core.List.{List, [], ◌++◌}
use Rattle.std.specs.Prelude.{None}
use Rattle.system.specs.System.{Rule}
use Rattle.system.specs.Rules.{RuleOf}
use Rattle.reader.specs.Answers.{shape_of}
use Rattle.reader.specs.Parser.{read}
use Rattle.reader.specs.Book.{system_of, Accepted}
use Rattle.matching.specs.declared.Match.{Match}
use Rattle.matching.specs.Matching.{Matches, Contraction, FirstMatch}
use Rattle.matching.specs.Bindings.{match_in, contraction_of}
use Rattle.matching.specs.Fits.{AtFront, TellsMatch}
use Rattle.matching.proofs.Sources.{match-refused, match-accepted}
use Rattle.matching.proofs.Reducts.{first_matches, found-exactly}

module _ (b ws : List ℕ) (t : AtFront b ws) where
  shaped : Accepted b (shape_of (read b))
  shaped = record { accepted = t.accepted; shaped = refl }

  nothing-told : ((match_in b ws).rule ≡ None) ↔ ((k : ℕ) (r : Rule) → RuleOf (system_of b) k r → Matches (system_of b).arities ws 0 r → ⊥)
  nothing-told =
      subst (λ y. ((match_in b y).rule ≡ None) ↔ ((k : ℕ) (r : Rule) → RuleOf (system_of b) k r → Matches (system_of b).arities y 0 r → ⊥)) (sym t.split)
      (found-exactly b (shape_of (read b)) shaped [] t.behind t.whole (match_in b (t.term ++ t.behind)) (match-accepted b t.accepted (t.term ++ t.behind)))

  first-told : (x : Contraction) → contraction_of b ws (match_in b ws) ≡ some x → FirstMatch (system_of b) ws 0 x
  first-told x =
      subst (λ y. contraction_of b y (match_in b y) ≡ some x → FirstMatch (system_of b) y 0 x) (sym t.split)
      (first_matches b (shape_of (read b)) shaped [] t.behind t.whole (match_in b (t.term ++ t.behind)) (match-accepted b t.accepted (t.term ++ t.behind)) x)

pub match-tells : {b ws : List ℕ} {m : Match} → m ≡ match_in b ws → (m ≡ match_in b ws) × TellsMatch b ws m
match-tells {b} {ws} e =
    (e, subst (TellsMatch b ws) (sym e) (record { refused = λ f i q. match-refused b q ws; nothing = nothing-told b ws; first = first-told b ws }))
