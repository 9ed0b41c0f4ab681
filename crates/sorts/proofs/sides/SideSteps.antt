-- The recursion over a side, in the code's terms: what a call hands back, and one turn of the loop. ws are the side's words, p is an index in them, i
-- one in the list.
use Prim.Native.Nat.{ℕ, zero, suc, ◌+◌, ◌-◌, ◌≤◌, ◌<◌}
use native.Mathlib.Nat.{not-suc-le-zero}
use native.Mathlib.Numerals.{add-one}
use native.Mathlib.Omega.{arith}
use native.Mathlib.Decide.{dec_lt}
use mathlib.Core.Path.{◌≡◌, refl, sym, ap, ◌∙◌, subst}
use mathlib.Core.Bool.{Bool, true, false}
use mathlib.Core.Option.{Option, none, some}
use mathlib.Core.List.{List, [], ◌∷◌, ◌++◌, append-nil}
use lib.ListN.{length, get_or, drop, drop_of_length-le}
use lib.Seq.{drop-cons}
use Rattle.system.specs.Limits.{variable, side_words}
use Rattle.system.specs.Signature.{Signature, arity}
use Rattle.sorts.specs.Sorts.{Sorts, offset, numbers_from, result_sort, argument_sorts}
use Rattle.sorts.specs.SortCheck.{note, Checked, check, chain}
use Rattle.sorts.specs.sides.Ran.{Ran, Noted, MarkOf, Marked, most_entries}
use Rattle.sorts.specs.declared.sides.Mark.{Mark}
use Rattle.sorts.specs.declared.sides.Mark.TheVariants.{Symbol, Variable, Nothing}
use Rattle.std.proofs.Common.{Some, None}
use Rattle.std.proofs.Common.{Option as Found}
use Rattle.sorts.proofs.Checking.{check-end, check-short, check-symbol, check-differ, check-variable, check-clash, check-append}
use Rattle.sorts.proofs.sides.Lists.{noted-some, noted-none}

-- ---- what a call handed back

ran-some : (o : Option Checked) (ws : List ℕ) (p : ℕ) (r : Found ℕ) (τ : List ℕ) → Ran o ws p r τ → (q : ℕ) → r ≡ Some q →
    (p ≤ q) × (q ≤ length ws) × (o ≡ some (record { words = drop q ws; sorts = τ }))
ran-some none ws p r τ h q e = cc
ran-some (some x) ws p r τ h q e = let z = rw e at h.0 in (z.0, z.1, (λ i. some (record { words = z.2 i; sorts = h.1 i })))

ran-none : (o : Option Checked) (ws : List ℕ) (p : ℕ) (r : Found ℕ) (τ : List ℕ) → Ran o ws p r τ → r ≡ None → o ≡ none
ran-none none ws p r τ h e = refl
ran-none (some x) ws p r τ h e = absurd (rw e at h.0)

-- ---- the loop: `due` terms are still to come, from p on, by the numbers from i on

-- whatever the side: where it stands
pub record Stands (at p i due : ℕ) : Type 0 where
  pub from : at ≤ p
  pub most : p ≤ side_words
  pub bound : i + due ≤ most_entries

-- of a side: the check that was asked for is the one that is left
pub record Going (g : Signature) (ks : Sorts) (ws τ₀ : List ℕ) (at k n p i due : ℕ) (τ : List ℕ) : Type 0 where
  pub inside : p ≤ length ws
  pub same : check g ks (drop at ws) (numbers_from ks k n) τ₀ ≡ check g ks (drop p ws) (numbers_from ks i due) τ

numbers_more : (ks : Sorts) (i n : ℕ) → 0 < n → numbers_from ks i n ≡ get_or ks i 0 ∷ numbers_from ks (i + 1) (n - 1)
unfolding numbers_from
numbers_more ks i zero h = absurd (not-suc-le-zero h)
numbers_more ks i (suc n) h = ap (λ x. get_or ks i 0 ∷ x) (ap (λ j. numbers_from ks j n) (sym (add-one i)) ∙ ap (numbers_from ks (i + 1)) (let z : n ≡ suc n - 1 = omega arith in z))

module _ (ks : Sorts) (marks : List Mark) (τ₀ : List ℕ) (at k n : ℕ) where
  -- what is known at the loop's head
  pub record Loop (p i due : ℕ) (τ : List ℕ) : Type 0 where
    pub stands : Stands at p i due
    pub going : (g : Signature) (ws : List ℕ) → Marked g ws marks → at ≤ length ws → Going g ks ws τ₀ at k n p i due τ

  -- what is handed back
  abbrev Handed : Found ℕ → List ℕ → Type 0
  Handed r τ = (g : Signature) (ws : List ℕ) → Marked g ws marks → at ≤ length ws → Ran (check g ks (drop at ws) (numbers_from ks k n) τ₀) ws at r τ

  module _ {p i due : ℕ} {τ : List ℕ} (so : Loop p i due τ) where
    pub loop-ends : due ≤ 0 → Handed (Some p) τ
    unfolding numbers_from
    loop-ends h g ws d l =
        let c = so.going g ws d l in
        rw (c.same ∙ ap (λ d. check g ks (drop p ws) (numbers_from ks i d) τ) (let z : due ≡ 0 = omega arith in z) ∙ check-end g ks (drop p ws) τ)
        ((so.stands.from, c.inside, refl), refl)

    module _ (more : 0 < due) where
      module _ (g : Signature) (ws : List ℕ) (d : Marked g ws marks) (l : at ≤ length ws) where
        fails : check g ks (drop p ws) (numbers_from ks i due) τ ≡ none → (τ' : List ℕ) → Ran (check g ks (drop at ws) (numbers_from ks k n) τ₀) ws at None τ'
        fails e τ' = rw ((so.going g ws d l).same ∙ e) refl

        expects : numbers_from ks i due ≡ get_or ks i 0 ∷ numbers_from ks (i + 1) (due - 1)
        expects = numbers_more ks i due more

        short : length ws ≤ p → check g ks (drop p ws) (numbers_from ks i due) τ ≡ none
        short h =
            ap (λ x. check g ks x (numbers_from ks i due) τ) (drop_of_length-le ws {i = p} h) ∙ ap (λ x. check g ks [] x τ) expects
            ∙ check-short g ks (get_or ks i 0) (numbers_from ks (i + 1) (due - 1)) τ

        module _ (m : p < length ws) where
          here : check g ks (drop p ws) (numbers_from ks i due) τ ≡ check g ks (get_or ws p 0 ∷ drop (p + 1) ws) (get_or ks i 0 ∷ numbers_from ks (i + 1) (due - 1)) τ
          here =
              ap (λ x. check g ks x (numbers_from ks i due) τ) (drop-cons ws p 0 m ∙ ap (λ j. get_or ws p 0 ∷ drop j ws) (sym (add-one p)))
              ∙ ap (λ x. check g ks (get_or ws p 0 ∷ drop (p + 1) ws) x τ) expects

      -- no word is left
      pub loop-full : length marks ≤ p → (τ' : List ℕ) → Handed None τ'
      loop-full h τ' g ws d l = fails g ws d l (short g ws d l (let z = d.short in let y = d.size in omega arith)) τ'

      module _ {f : Mark} (ef : f ≡ get_or marks p Nothing) where
        pub loop-short : f ≡ Nothing → (τ' : List ℕ) → Handed None τ'
        loop-short e τ' g ws d l = elim (dec_lt p (length ws)) [
          | yes m ↦ absurd (subst (MarkOf g (get_or ws p 0)) (sym ef ∙ e) (d.word p m))
          | no m ↦ fails g ws d l (short g ws d l (omega arith)) τ'
        ]

        -- another mark is that of a word
        within : {m : Mark} → f ≡ m → (m ≡ Nothing → ⊥) → (g : Signature) (ws : List ℕ) → Marked g ws marks → (p < length ws) × MarkOf g (get_or ws p 0) m
        within e other g ws d = elim (dec_lt p (length ws)) [
          | yes l ↦ (l, subst (MarkOf g (get_or ws p 0)) (sym ef ∙ e) (d.word p l))
          | no l ↦ absurd (other (sym e ∙ ef ∙ d.end p (omega arith)))
        ]

        module _ {e : ℕ} (ee : e ≡ get_or ks i 0) where
          -- a variable
          module _ {v x : ℕ} (is : f ≡ Variable v) (ex : x ≡ v) (b : Bool) (τ' : List ℕ) (did : Noted (note τ x e) b τ') where
            marked-variable : (g : Signature) (ws : List ℕ) → Marked g ws marks → (p < length ws) × (variable ≤ get_or ws p 0) × (x ≡ get_or ws p 0 - variable)
            marked-variable g ws d = let z = within is (λ q. cc) g ws d in (z.0, z.1.0, ex ∙ z.1.1)

            asks : (g : Signature) (ws : List ℕ) → Marked g ws marks → note τ x e ≡ note τ (get_or ws p 0 - variable) (get_or ks i 0)
            asks g ws d = let q = (marked-variable g ws d).2 in (λ j. note τ (q j) (ee j))

            pub loop-clash : b ≡ false → (τ'' : List ℕ) → Handed None τ''
            loop-clash z τ'' g ws d l =
                let m = marked-variable g ws d in
                fails g ws d l
                (here g ws d l m.0 ∙ check-clash g ks (get_or ws p 0) (get_or ks i 0) (drop (p + 1) ws) (numbers_from ks (i + 1) (due - 1)) τ m.1
                (sym (asks g ws d) ∙ noted-none (note τ x e) b τ' did z)) τ''

            pub loop-noted : p < side_words → b ≡ true → Loop (p + 1) (i + 1) (due - 1) τ'
            loop-noted inside z = record {
              stands = (let s = so.stands in record {
                from = (let y = s.from in omega arith);
                most = omega arith;
                bound = (let y = s.bound in omega arith);
              });
              going = λ g ws d l. (let m = marked-variable g ws d in record {
                inside = (let y = m.0 in omega arith);
                same = (so.going g ws d l).same ∙ here g ws d l m.0
                    ∙ check-variable g ks (get_or ws p 0) (get_or ks i 0) (drop (p + 1) ws) (numbers_from ks (i + 1) (due - 1)) τ m.1 τ'
                    (sym (asks g ws d) ∙ noted-some (note τ x e) b τ' did z);
              });
            }

          -- a symbol
          module _ {s t x : ℕ} (is : f ≡ Symbol s t) (ex : x ≡ s) {y : ℕ} (ey : y ≡ get_or ks x 0) where
            marked : (g : Signature) (ws : List ℕ) → Marked g ws marks →
                (p < length ws) × (get_or ws p 0 < variable) × (x ≡ offset g (get_or ws p 0)) × (t ≡ arity g (get_or ws p 0))
            marked g ws d = let z = within is (λ q. cc) g ws d in (z.0, z.1.0, ex ∙ z.1.1, z.1.2)

            result : (g : Signature) (ws : List ℕ) → Marked g ws marks → result_sort g ks (get_or ws p 0) ≡ y
            unfolding result_sort
            result g ws d = ap (λ j. get_or ks j 0) (sym (marked g ws d).2) ∙ sym ey

            pub loop-differs : (y ≡ e → ⊥) → (τ' : List ℕ) → Handed None τ'
            loop-differs c τ' g ws d l = let m = marked g ws d in fails g ws d l
                (here g ws d l m.0 ∙ check-differ g ks (get_or ws p 0) (get_or ks i 0) (drop (p + 1) ws) (numbers_from ks (i + 1) (due - 1)) τ m.1
                (λ z. c (sym (result g ws d) ∙ z ∙ sym ee))) τ'

            module _ (z : y ≡ e) {a : ℕ} (ea : a ≡ t) where
              arguments : (g : Signature) (ws : List ℕ) → Marked g ws marks → argument_sorts g ks (get_or ws p 0) ≡ numbers_from ks (x + 1) a
              unfolding argument_sorts
              arguments g ws d =
                  (λ j. numbers_from ks (suc (sym (marked g ws d).2 j)) (sym (ea ∙ (marked g ws d).3) j)) ∙ ap (λ j. numbers_from ks j a) (sym (add-one x))

              down : (g : Signature) (ws : List ℕ) → Marked g ws marks → at ≤ length ws →
                  check g ks (drop at ws) (numbers_from ks k n) τ₀ ≡ check g ks (drop (p + 1) ws) (numbers_from ks (x + 1) a ++ numbers_from ks (i + 1) (due - 1)) τ
              down g ws d l =
                  (so.going g ws d l).same ∙ here g ws d l (marked g ws d).0
                  ∙ check-symbol g ks (get_or ws p 0) (get_or ks i 0) (drop (p + 1) ws) (numbers_from ks (i + 1) (due - 1)) τ (marked g ws d).1 (result g ws d ∙ z ∙ ee)
                  ∙ ap (λ es. check g ks (drop (p + 1) ws) (es ++ numbers_from ks (i + 1) (due - 1)) τ) (arguments g ws d)

              -- it is the last of the terms: the loop goes on with its arguments
              pub loop-last : p < side_words → x ≤ 65535 → a ≤ 65535 → due ≡ 1 → Loop (p + 1) (x + 1) a τ
              unfolding numbers_from
              loop-last inside bx ba one = record {
                stands = (let s = so.stands in record {
                  from = (let y = s.from in omega arith);
                  most = omega arith;
                  bound = omega arith;
                });
                going = λ g ws d l. (let m = (marked g ws d).0 in record {
                  inside = omega arith;
                  same = down g ws d l
                      ∙ ap (λ m. check g ks (drop (p + 1) ws) (numbers_from ks (x + 1) a ++ numbers_from ks (i + 1) m) τ) (let c : due - 1 ≡ 0 = omega arith in c)
                      ∙ ap (λ es. check g ks (drop (p + 1) ws) es τ) (append-nil (numbers_from ks (x + 1) a));
                });
              }

              -- others wait behind it: its arguments are checked by a call
              module _ (r : Found ℕ) (τ' : List ℕ) (ran : (g : Signature) (ws : List ℕ) → Marked g ws marks → p + 1 ≤ length ws →
                  Ran (check g ks (drop (p + 1) ws) (numbers_from ks (x + 1) a) τ) ws (p + 1) r τ') where
                over : (g : Signature) (ws : List ℕ) → Marked g ws marks → at ≤ length ws → check g ks (drop at ws) (numbers_from ks k n) τ₀
                    ≡ chain (check g ks (drop (p + 1) ws) (numbers_from ks (x + 1) a) τ) (λ c. check g ks c.words (numbers_from ks (i + 1) (due - 1)) c.sorts)
                over g ws d l = down g ws d l ∙ check-append g ks (drop (p + 1) ws) (numbers_from ks (x + 1) a) (numbers_from ks (i + 1) (due - 1)) τ

                called : (g : Signature) (ws : List ℕ) → Marked g ws marks → Ran (check g ks (drop (p + 1) ws) (numbers_from ks (x + 1) a) τ) ws (p + 1) r τ'
                called g ws d = ran g ws d (let m = (marked g ws d).0 in omega arith)

                pub loop-fails : r ≡ None → (τ'' : List ℕ) → Handed None τ''
                loop-fails c τ'' g ws d l =
                    rw (over g ws d l ∙ ap (λ c. chain c (λ c. check g ks c.words (numbers_from ks (i + 1) (due - 1)) c.sorts))
                    (ran-none (check g ks (drop (p + 1) ws) (numbers_from ks (x + 1) a) τ) ws (p + 1) r τ' (called g ws d) c)) refl

                pub loop-on : {q : ℕ} → r ≡ Some q → p + 1 ≤ q → q ≤ side_words → Loop q (i + 1) (due - 1) τ'
                loop-on {q} c low high = record {
                  stands = (let s = so.stands in record {
                    from = (let y = s.from in omega arith);
                    most = high;
                    bound = (let y = s.bound in omega arith);
                  });
                  going = λ g ws d l. (let z = ran-some (check g ks (drop (p + 1) ws) (numbers_from ks (x + 1) a) τ) ws (p + 1) r τ' (called g ws d) q c in record {
                    inside = z.1;
                    same = over g ws d l ∙ ap (λ c. chain c (λ c. check g ks c.words (numbers_from ks (i + 1) (due - 1)) c.sorts)) z.2;
                  });
                }
