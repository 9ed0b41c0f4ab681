-- The gap is brought to one end of the words of u or to the other: the same is put there, by whichever it is.
use Prim.Native.Nat.{ℕ, ◌+◌, ◌-◌, ◌≤◌, ◌<◌}
use native.Mathlib.Omega.{arith}
use mathlib.Core.Path.{◌≡◌, refl, sym, ap, ◌∙◌, subst}
use mathlib.Core.Bool.{Bool, true, false}
use mathlib.Core.List.{List}
use Rattle.system.specs.Signature.{Signature}
use Rattle.rows.specs.declared.gap.Gap.{Gap}
use Rattle.rows.specs.gap.Gaps.{even, Moved}
use Rattle.rows.specs.lengths.Written.{Written}
use Rattle.matching.specs.rules.Searches.{reduct_length}
use Rattle.sides.specs.sides.Sides.{Stretches}
use Rattle.reducts.specs.declared.putting.Subterm.{Subterm}
use Rattle.reducts.specs.declared.putting.Place.{Place}
use Rattle.sides.specs.writing.Reduct.{reduct, Writable}
use Rattle.reducts.specs.putting.Replaced.{edge, place_for, Puttable, Crowdable, Done, TooLong, Put}
use Rattle.reducts.proofs.putting.Asides.{gap_size}
use Rattle.reducts.proofs.putting.Writables.{reduct-counted, writable-behind, writable-placed, filled-placed}
use Rattle.reducts.proofs.putting.Puts.{moved-puttable, moved-size, moved-stands, moved-crowdable, spared-none, put-long, put-before, put-behind}

module _ {g : Signature} {side ws : List ℕ} {gap : Gap} {u : Subterm} {c : Stretches} (p : Puttable g side ws gap u c) where
  abbrev k : ℕ
  k = reduct_length c.lengths side

  module _ {ws' : List ℕ} {gap' : Gap} where
    pub edge-long : (before : Bool) → (before ≡ true → k ≤ gap_size gap) → Moved ws gap (edge u before) gap' ws' → gap'.back < u.at + k →
        Put g side ws gap u c (TooLong gap') ws'
    edge-long true said v h = absurd (let l = v.gapped.lies.low in let s = said refl in omega (arith, moved-size p v, v.front))
    edge-long false said v h = put-long p v h

    pub edge-crowdable : (before : Bool) → (before ≡ true → k ≤ gap_size gap) → Moved ws gap (edge u before) gap' ws' → gap_size gap' < k → k ≤ gap'.back →
        Moved ws gap (u.at + u.width) gap' ws' × Crowdable g side ws' gap' u c
    edge-crowdable true said v h room = absurd (let s = said refl in omega (arith, moved-size p v))
    edge-crowdable false said v h room = (v, moved-crowdable p v room)

    module _ (few : k ≤ gap_size gap') where
      at-writable : (before : Bool) → Moved ws gap (edge u before) gap' ws' → let x = place_for gap' u k before in Writable g side ws' x.gap c x.source
      at-writable true v = writable-behind (moved-puttable p v) few (sym v.front)
      at-writable false v = writable-placed (moved-puttable p v) few (moved-stands p v)

      at-written : (before : Bool) → Moved ws gap (edge u before) gap' ws' → u.at + k ≤ gap'.back → {ws₂ : List ℕ} {b : ℕ} →
          let x = place_for gap' u k before in Written g ws' x.gap x.gap.front ws₂ b (reduct side c x.source ws') → Put g side ws gap u c (Done x.left) ws₂
      at-written true v room w = put-before p v few w
      at-written false v room {ws₂} {b} w =
          let q = moved-puttable p v in
          let w' = subst (Written g ws' (even gap'.back) gap'.back ws₂ b) (filled-placed q few (moved-stands p v)) w in
          let e : b ≡ gap'.back - k = (let z = w'.size in omega (arith, reduct-counted q)) in
          subst (λ i. Put g side ws gap u c (Done (record { front = u.at; back = i })) ws₂) e (put-behind p v (spared-none ws' u) w' room)

      -- by the place that was told, for the length that was counted
      module _ (before : Bool) (v : Moved ws gap (edge u before) gap' ws') {n : ℕ} (counted : n ≡ k) {x : Place} (told : x ≡ place_for gap' u n before) where
        is : place_for gap' u k before ≡ x
        is = ap (λ i. place_for gap' u i before) (sym counted) ∙ sym told

        pub edge-writable : Writable g side ws' x.gap c x.source
        edge-writable = subst (λ y. Writable g side ws' y.gap c y.source) is (at-writable before v)

        pub edge-written : u.at + k ≤ gap'.back → {ws₂ : List ℕ} {b : ℕ} → Written g ws' x.gap x.gap.front ws₂ b (reduct side c x.source ws') →
            Put g side ws gap u c (Done x.left) ws₂
        edge-written room {ws₂} {b} w =
            subst (λ y. Put g side ws gap u c (Done y.left) ws₂) is
            (at-written before v room (subst (λ y. Written g ws' y.gap y.gap.front ws₂ b (reduct side c y.source ws')) (sym is) w))
