-- The gap, at one end of the words of u, has room for the reduct: it may be written there, the words of the redex being read in place.
use Prim.Native.Nat.{ℕ, ◌+◌, ◌≤◌}
use native.Mathlib.Omega.{arith}
use mathlib.Core.Path.{◌≡◌, subst}
use mathlib.Core.List.{List}
use lib.ListN.{length}
use Rattle.system.specs.Limits.{variable}
use Rattle.system.specs.Signature.{Signature}
use Rattle.system.specs.System.{instance}
use Rattle.system.specs.Terms.{Member}
use Rattle.rows.specs.declared.gap.Gap.{Gap}
use Rattle.rows.specs.Rows.{Gapped, term_in}
use Rattle.rows.specs.gap.Gaps.{even}
use Rattle.rows.proofs.lengths.Measures.{measured-after}
use Rattle.matching.specs.rules.Searches.{reduct_length}
use Rattle.matching.proofs.Matched.{instance-cong}
use Rattle.sides.specs.sides.Sides.{Stretches}
use Rattle.reducts.specs.declared.putting.Subterm.{Subterm}
use Rattle.sides.specs.writing.Reduct.{stretch, reduct, Writable}
use Rattle.reducts.specs.putting.Replaced.{filling, Puttable}
use Rattle.reducts.proofs.putting.Asides.{gap_size, placed_behind, placed}
use Rattle.sides.proofs.Counted.{instance-counted, count-bound}
use Rattle.reducts.proofs.putting.Sources.{filling-length, filling-small, read_behind, unwritten-behind, read-placed, unwritten}

module _ {g : Signature} {side ws : List ℕ} {gap : Gap} {u : Subterm} {c : Stretches} (p : Puttable g side ws gap u c) where
  -- the side is filled alike where its variables are
  pub same-filled : (σ : ℕ → List ℕ) → ((v : ℕ) → Member (variable + v) side → σ v ≡ filling (term_in ws gap) u c v) →
      instance σ side ≡ instance (filling (term_in ws gap) u c) side
  same-filled σ h = instance-cong σ (filling (term_in ws gap) u c) side (λ w v m e. h v (subst (λ z. Member z side) e m))

  pub reduct-counted : length (instance (filling (term_in ws gap) u c) side) ≡ reduct_length c.lengths side
  reduct-counted = instance-counted c.lengths (filling (term_in ws gap) u c) side (λ v m. filling-length p v m)

  pub reduct-bound : reduct_length c.lengths side ≤ 262144
  reduct-bound = let z = count-bound c.lengths side (λ v m. filling-small p v m) in omega (arith, p.sided.small)

  abbrev k : ℕ
  k = reduct_length c.lengths side

  module _ (few : k ≤ gap_size gap) where
    -- the words of u stand behind the gap: before it, where the reduct ends, from their first on
    module _ (stand : u.at ≡ gap.front) where
      abbrev between : Gap
      between = record { front = u.at + k; back = gap.back + u.width }

      pub opened : Gapped ws between
      opened =
          let low = p.measured.gapped.lies.low in
          let high = p.measured.gapped.lies.high in
          let w = p.within in
          record { room = p.measured.gapped.room; lies = record { low = omega arith; high = omega arith } }

      pub writable-behind : Writable g side ws between c (placed_behind gap u)
      writable-behind =
          let low = p.measured.gapped.lies.low in
          let high = p.measured.gapped.lies.high in
          record {
            measured = measured-after p.measured between opened (omega arith);
            sided = p.sided;
            starts = p.starts;
            lengths = p.lengths;
            based = omega arith;
            later = omega arith;
            room = omega arith;
            stays = λ v m. unwritten-behind p v m stand k few;
          }

      pub filled-behind : reduct side c (placed_behind gap u) ws ≡ instance (filling (term_in ws gap) u c) side
      filled-behind = same-filled (stretch ws c (placed_behind gap u)) (λ v m. read_behind p v m stand)

    -- they stand before it: before what follows them
    module _ (stand : u.at + u.width ≡ gap.front) where
      pub writable-placed : Writable g side ws (even gap.back) c (placed gap u)
      writable-placed =
          let low = p.measured.gapped.lies.low in
          let high = p.measured.gapped.lies.high in
          record {
            measured = measured-after p.measured (even gap.back) (record { room = p.measured.gapped.room; lies = record { low = omega arith; high = high } }) (omega arith);
            sided = p.sided;
            starts = p.starts;
            lengths = p.lengths;
            based = omega arith;
            later = omega arith;
            room = omega arith;
            stays = λ v m. unwritten p stand v m k few;
          }

      pub filled-placed : reduct side c (placed gap u) ws ≡ instance (filling (term_in ws gap) u c) side
      filled-placed = same-filled (stretch ws c (placed gap u)) (λ v m. read-placed p stand v m)
