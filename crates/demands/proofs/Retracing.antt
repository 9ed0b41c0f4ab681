-- A record that was written for a term handed back, and its replay, in the terms of the code.
use Prim.Native.Nat.{ℕ, zero, suc, ◌*◌, ◌≤◌}
use mathlib.Core.Path.{◌≡◌, refl, sym, ap, ◌∙◌}
use mathlib.Core.List.{List}
use lib.ListN.{length, take}
use Rattle.system.specs.declared.Answer.{Answer}
use Rattle.rewriting.specs.Evaluation.{recorded}
use Rattle.evaluation.specs.Expansion.{Expansion, answer_and_buffers, expansion, record_after, handed_back}
use Rattle.evaluation.proofs.Handed.{handed, handed-done, handed-numbers}
use Rattle.replay.specs.Replaying.{replaying}
use Rattle.replay.proofs.Operations.{recorded-replays}
use Rattle.demands.specs.Retracing.{retracing, IsRetraced}

module _ (book term : List ℕ) (answer : Answer) (words out work : List ℕ) where
  -- nothing was handed back
  pub retracing-none : (answer.number ≡ 0 → ⊥) → answer_and_buffers answer out work ≡ retracing book term answer words out work
  unfolding retracing
  retracing-none h = go answer.number refl
    where
      go : (n : ℕ) → answer.number ≡ n → answer_and_buffers answer out work ≡ retracing book term answer words out work
      go zero q = absurd (h q)
      go (suc m) q = rw q

  pub retracing-goes : answer.number ≡ 0 → replaying book term (take (2 * answer.steps) words) out work ≡ retracing book term answer words out work
  unfolding retracing
  retracing-goes h = rw h

-- the numbers a of an expansion with a record, the buffers and the record as it left them
module _ (book term : List ℕ) (limit : ℕ) (out work words : List ℕ) (a : Answer) (out' work' words' : List ℕ)
    (expanded : answer_and_buffers a out' work' ≡ expansion book term (recorded limit (length words)) out work)
    (told : words' ≡ record_after book term (recorded limit (length words)) out work words) where
  -- its pairs lie in the record
  pub pairs-fit : a.number ≡ 0 → 2 * a.steps ≤ length words
  pairs-fit z =
      let h = handed book term (recorded limit (length words)) out work (sym (ap (λ y. y.numbers.number) expanded) ∙ z) in
      let n = ap (λ y. y.numbers.steps) expanded ∙ ap (λ y. y.steps) (handed-numbers h) in
      rw n ((handed-done h).roomy (length words) refl)

  -- and their replay, in other buffers, ends in the same term with the same numbers
  pub is-retraced : (again spare : List ℕ) (y : Expansion) → (a.number ≡ 0 → y ≡ replaying book term (take (2 * a.steps) words') again spare) →
      IsRetraced (answer_and_buffers a out' work') again spare y
  is-retraced again spare y goes z p q =
      let k = recorded-replays book term limit out work words (sym (ap (λ y. y.numbers.number) expanded) ∙ z) again spare p q in
      let same = goes z ∙ (λ i. replaying book term (take (2 * (expanded i).numbers.steps) (told i)) again spare) in
      (ap (λ y. y.numbers) same ∙ k.0 ∙ sym (ap (λ y. y.numbers) expanded), ap handed_back same ∙ k.1 ∙ sym (ap handed_back expanded))
