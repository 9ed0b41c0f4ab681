-- A rewrite by a listed rule, in the words of the book where its sides stand.
use Prim.Native.Nat.{ℕ, ◌-◌, ◌≤◌}
use native.Mathlib.Omega.{arith}
use mathlib.Core.Path.{◌≡◌, sym, ap, ◌∙◌, subst}
use mathlib.Core.List.{List}
use lib.ListN.{length, get_or, take, drop, length-drop, take-append-drop}
use lib.Seq.{take-length, length-take-le}
use Rattle.std.specs.Prelude.{Some}
use Rattle.system.specs.System.{System, rule}
use Rattle.system.specs.Terms.{Member}
use Rattle.system.specs.Signature.{signature_of}
use Rattle.reader.specs.declared.Shape.{Shape}
use Rattle.reader.specs.Book.{system_of, Accepted}
use Rattle.system.proofs.Members.{member-front, member_back, member-get_or}
use Rattle.rows.specs.declared.gap.Gap.{Gap}
use Rattle.redexes.specs.declared.search.Redex.{Redex}
use Rattle.matching.specs.declared.FirstRule.TheVariants.{First}
use Rattle.matching.specs.rules.Searches.{reduct_length}
use Rattle.reducts.specs.declared.putting.Reduced.{Reduced}
use Rattle.reducts.specs.declared.putting.Subterm.{Subterm}
use Rattle.sides.specs.sides.Sides.{Sided, stretches_in}
use Rattle.reducts.specs.putting.Replaced.{Puttable, Put}
use Rattle.rewrites.specs.rewrites.Rewritten.{Reducible, Rewrites}
use Rattle.rewrites.proofs.rewrites.Redexes.{found}
use Rattle.rewrites.proofs.rewrites.Listed.{right-sided, front-width, side-puttable, side-rewritten}
use Rattle.rewrites.proofs.rewrites.Built.{put-rewrites}

module _ {book ws : List ℕ} {shape : Shape} {gap : Gap} {u : Subterm} {m : Redex} {bs : List ℕ} (acc : Accepted book shape) (asked : Reducible book ws gap u m bs)
    {k rhs size : ℕ} (f : (found acc asked).rule ≡ Some (First k rhs size))
    {L R : List ℕ} (left_is : L ≡ (rule (system_of book) k).lhs) (right_is : R ≡ (rule (system_of book) k).rhs) (n : ℕ) where
  abbrev s : System
  s = system_of book

  abbrev left : List ℕ
  left = (rule s k).lhs

  abbrev right : List ℕ
  right = (rule s k).rhs

  -- the right side's end, which stays, and its front, as the code takes them
  abbrev mid : ℕ
  mid = length R - n

  abbrev end : List ℕ
  end = take (length R - mid) (drop mid R)

  module _ (few : n ≤ length R) (alike : drop (length L - n) L ≡ drop (length R - n) R) where
    abbrev i : ℕ
    i = length left - n

    abbrev j : ℕ
    j = length right - n

    alike' : drop i left ≡ drop j right
    alike' = ap (λ y. drop (length y - n) y) (sym left_is) ∙ alike ∙ ap (λ y. drop (length y - n) y) right_is

    kept-is : end ≡ drop j right
    kept-is =
        ap (λ y. take (length y - (length y - n)) (drop (length y - n) y)) right_is
        ∙ ap (λ m. take m (drop j right)) (sym (length-drop j right)) ∙ take-length (drop j right)

    side-is : take mid R ≡ take j right
    side-is = ap (λ y. take (length y - n) y) right_is

    -- what stays is a part of the right side, and so is what is written
    pub kept-sided : Sided end
    kept-sided = subst Sided (sym kept-is) (right-sided acc asked f (drop j right) (let z = length-drop j right in omega arith)
        (λ x h. subst (Member (get_or (drop j right) x 0)) (take-append-drop j right) (member_back (take j right) (member-get_or (drop j right) x h))))

    side-sided : Sided (take j right)
    side-sided = right-sided acc asked f (take j right) (let z = length-take-le j right (omega arith) in omega arith)
        (λ x h. subst (Member (get_or (take j right) x 0)) (take-append-drop j right) (member-front (drop j right) (member-get_or (take j right) x h)))

    module _ (kept : ℕ) (counted : kept ≡ reduct_length (stretches_in bs).lengths end) where
      counts : kept ≡ reduct_length (stretches_in bs).lengths (drop j right)
      counts = counted ∙ ap (reduct_length (stretches_in bs).lengths) kept-is

      pub kept-fits : kept ≤ u.width
      kept-fits = omega (arith, counts, front-width acc asked f i j alike')

      abbrev front : ℕ → Subterm
      front x = record { level = u.level; at = u.at; width = u.width - x }

      pub listed-puttable : Puttable (signature_of book) (take mid R) ws gap (front kept) (stretches_in bs)
      listed-puttable =
          subst (λ y. Puttable (signature_of book) y ws gap (front kept) (stretches_in bs)) (sym side-is)
          (subst (λ y. Puttable (signature_of book) (take j right) ws gap (front y) (stretches_in bs)) (sym counts) (side-puttable acc asked f i j alike' side-sided))

      pub listed-rewrites : (q : Reduced) (ws' : List ℕ) → Put (signature_of book) (take mid R) ws gap (front kept) (stretches_in bs) q ws' →
          Rewrites book ws gap u q ws'
      listed-rewrites q ws' h =
          let x = reduct_length (stretches_in bs).lengths (drop j right) in
          put-rewrites acc asked (take j right) (u.width - x) (stretches_in bs) (side-rewritten acc asked f i j alike') q ws'
          (subst (λ y. Put (signature_of book) (take j right) ws gap (front y) (stretches_in bs) q ws') counts
          (subst (λ y. Put (signature_of book) y ws gap (front kept) (stretches_in bs) q ws') side-is h))
