-- `scanned::hand_back` meets its contract.
use Prim.Native.Nat.{ℕ, ◌+◌, ◌-◌, ◌≤◌}
use native.Mathlib.Omega.{arith}
use native.Mathlib.Nat.{sub-zero}
use mathlib.Core.Path.{◌≡◌, sym, ap, ◌∙◌}
use mathlib.Core.List.{List, ◌++◌}
use lib.ListN.{length, take, drop}
use lib.Seq.{length-take-le, take-take}
use Rattle.buffers.specs.Words.{over}
use Rattle.buffers.specs.moves.Parts.{part}
use Rattle.buffers.proofs.Over.{part_slice, over-append}
use Rattle.system.specs.Limits.{area_words, term_words}
use Rattle.rows.specs.declared.gap.Gap.{Gap}
use Rattle.rows.specs.Rows.{Lies, closed, term_in}
use Rattle.evaluation.proofs.scanned.hand_back.Goals as goal

-- the words before the gap, and behind them those after it, are the term
joined : (out work : List ℕ) (gap : Gap) → Lies gap → area_words ≤ length work →
    over (over out 0 (take gap.front work)) gap.front (part gap.back (term_words - gap.back) work) ≡ over out 0 (term_in work gap)
unfolding closed
joined out work gap l room =
    let low = l.low in
    let high = l.high in
    let front = take gap.front work in
    let behind = part gap.back (term_words - gap.back) work in
    let all : gap.back + (term_words - gap.back) ≡ term_words = omega arith in
    let n : gap.front ≡ 0 + length front = (let z = length-take-le gap.front work (omega arith) in omega arith) in
    let e₁ : front ≡ take gap.front (take term_words work) = sym (take-take gap.front term_words work (omega arith)) in
    let e₂ : behind ≡ drop gap.back (take term_words work) =
    part_slice gap.back (term_words - gap.back) work ∙ ap (λ k. drop gap.back (take k work)) all in
    ap (λ k. over (over out 0 front) k behind) n ∙ sym (over-append out 0 front behind) ∙ ap (over out 0) (λ i. e₁ i ++ e₂ i)

pub returns-clause-answer : goal.returns-clause-answer
returns-clause-answer c =
    let a = c.args in
    let words = ap (λ n. over a.out.now 0 (take n a.work.now)) (sub-zero a.gap.front) in
    let rest = part a.gap.back (term_words - a.gap.back) a.work.now in
    c.copy_in-2.ensures ∙ ap (λ ws. over ws a.gap.front rest) (c.copy_in.ensures ∙ words) ∙ joined a.out.now a.work.now a.gap c.requires.1 c.requires.0
