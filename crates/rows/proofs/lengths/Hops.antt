-- From subterm to subterm, by one read for each: what the loop of `lengths::hop` keeps, and its turns.
use Prim.Native.Nat.{ℕ, suc, ◌+◌, ◌-◌, ◌≤◌, ◌<◌}
use native.Mathlib.Omega.{arith}
use mathlib.Core.Path.{◌≡◌, refl, sym, ap, ◌∙◌}
use mathlib.Core.List.{List}
use lib.ListN.{get_or, drop, drop_of_length-le}
use Rattle.system.specs.Signature.{Signature, span}
use Rattle.system.proofs.Forests.{span-zero}
use Rattle.rows.specs.declared.gap.Gap.{Gap}
use Rattle.rows.specs.Rows.{Gapped, term_in, lengths_in}
use Rattle.rows.specs.gap.Gaps.{words_in}
use Rattle.system.specs.Spans.{spans}
use Rattle.rows.specs.lengths.Later.{MeasuredFrom}
use Rattle.system.proofs.Spans.{span-hop}
use Rattle.rows.proofs.lengths.Measures.{words-length, from-length}

-- the subterms that are left end where all of them do
pub record Hopping (ws : List ℕ) (gap : Gap) (from k at due : ℕ) : Type 0 where
  pub bound : at ≤ words_in gap + 65535
  pub later : from ≤ at
  pub here : (g : Signature) → MeasuredFrom g ws gap from → from + span g (drop from (term_in ws gap)) k ≡ at + span g (drop at (term_in ws gap)) due

module _ (ws : List ℕ) (gap : Gap) (from k : ℕ) where
  pub hopping-first : from ≤ words_in gap → Hopping ws gap from k from k
  hopping-first l = record { bound = omega arith; later = omega arith; here = λ g m. refl }

  module _ {at due : ℕ} (v : Hopping ws gap from k at due) where
    pub hopping-next : at < words_in gap → 0 < due → (n : ℕ) → n ≡ get_or (lengths_in ws gap) at 0 → n ≤ 65535 → Hopping ws gap from k (at + n) (due - 1)
    hopping-next l some n e small =
        let d : due ≡ suc (due - 1) = omega arith in
        record {
          bound = omega arith;
          later = let z = v.later in omega arith;
          here = λ g m.
              let t = term_in ws gap in
              let y : get_or (spans g t) at 0 ≡ n = sym (e ∙ from-length m at v.later) in
              let x : span g (drop at t) due ≡ n + span g (drop (at + n) t) (due - 1) =
              ap (span g (drop at t)) d ∙ span-hop g t at (due - 1) ∙ ap (λ z. z + span g (drop (at + z) t) (due - 1)) y in
              omega (arith, v.here g m);
        }

    -- no word is left
    pub hopping-out : Gapped ws gap → words_in gap ≤ at → (g : Signature) → MeasuredFrom g ws gap from → at ≡ from + span g (drop from (term_in ws gap)) k
    unfolding span
    hopping-out h l g m =
        let e = drop_of_length-le (term_in ws gap) {i = at} (let z = words-length h in omega arith) in
        let z : span g (drop at (term_in ws gap)) due ≡ 0 = ap (λ z. span g z due) e in
        omega (arith, v.here g m)

    -- no subterm is left
    pub hopping-last : due ≤ 0 → (g : Signature) → MeasuredFrom g ws gap from → at ≡ from + span g (drop from (term_in ws gap)) k
    hopping-last l g m =
        let e : due ≡ 0 = omega arith in
        let z : span g (drop at (term_in ws gap)) due ≡ 0 = ap (span g (drop at (term_in ws gap))) e ∙ span-zero g (drop at (term_in ws gap)) in
        omega (arith, v.here g m)
