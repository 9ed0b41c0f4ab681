-- One pass over a term, word by word, and all of them.
use Prim.Native.Nat.{ℕ, suc, ◌+◌, ◌-◌, ◌*◌, ◌≤◌, ◌<◌}
use native.Mathlib.Nat.{not-suc-le-zero}
use native.Mathlib.Numerals.{add-one}
use native.Mathlib.Omega.{arith}
use native.Mathlib.Decide.{ℕ_discrete, dec_lt}
use mathlib.Core.Path.{◌≡◌, refl, sym, ap, ◌∙◌, subst}
use mathlib.Core.Bool.{Bool, true, false, not, ◌&&◌, ◌||◌}
use mathlib.Core.List.{List, [], ◌∷◌, ◌++◌}
use lib.ListN.{length, get_or, set, drop, length-set, length-append, drop_of_length-le, length-drop}
use lib.Seq.{get_or-set_same, drop-cons}
use lib.Dec.{eqb}
use Rattle.system.specs.Limits.{variable}
use Rattle.system.specs.Signature.{Signature, Symbol, arity}
use Rattle.system.specs.System.{head}
use Rattle.system.specs.Terms.{Forest, Whole}
use Rattle.system.specs.Terms.Forest.{empty as nil, more as cons}
use Rattle.system.proofs.BuiltIns.{refuted, clash}
use Rattle.system.proofs.Forests.{forest-length}
use Rattle.sorts.specs.Sorts.{Sorts, offset, numbers_from, result_sort, argument_sorts}
use Rattle.sorts.specs.SortCheck.{unknown, check, is_some, sorted_term}
use Rattle.sort_test.specs.windows.Windows.{window_words, within, windowed, Put, Window}
use Rattle.sorts.proofs.Sortings.{arguments-length}
use Rattle.sort_test.proofs.windows.Windows.{within_low, within-high, check-windowed, windowed-check}
use Rattle.sort_test.proofs.windows.Putting.{window-put}

-- ---- the words one after the other

-- at p the sorts es are to come
pub record Passing (g : Signature) (ks : Sorts) (t : List ℕ) (low : ℕ) (window : List ℕ) (due p : ℕ) : Type 0 where
  pub es : List ℕ
  pub inside : p ≤ length t
  pub count : due ≡ length es
  pub forest : Forest g (Symbol g) (length es) (drop p t)
  pub window-is : Window low es window
  pub same : windowed g ks low t (result_sort g ks (head t) ∷ []) ≡ windowed g ks low (drop p t) es

module _ (g : Signature) (few : length g ≤ variable) (ks : Sorts) (t : List ℕ) (low : ℕ) where
  pub passing-starts : Whole g t → (window : List ℕ) (e : ℕ) → length window ≡ window_words → e ≡ result_sort g ks (head t) → Passing g ks t low (set window 0 e) 1 0
  passing-starts h window e s q = record {
    es = result_sort g ks (head t) ∷ [];
    inside = omega arith;
    count = refl;
    forest = h;
    window-is = record {
      size = length-set window 0 e ∙ s;
      each = λ x l m b.
          let z : x ≡ 0 = omega arith in
          ap (λ i. get_or (set window 0 e) i 0) (let u : x - low ≡ 0 = omega arith in u) ∙ get_or-set_same window 0 e 0 (omega arith) ∙ q
          ∙ ap (λ i. get_or (result_sort g ks (head t) ∷ []) i 0) (let u : 0 ≡ 1 - 1 - x = omega arith in u);
    };
    same = refl;
  }

  forest-some : {k : ℕ} {ws : List ℕ} → Forest g (Symbol g) k ws → 0 < length ws → 0 < k
  forest-some nil h = absurd (not-suc-le-zero h)
  forest-some (cons d f) h = omega arith

  forest-tail : {k w : ℕ} {ws : List ℕ} → Forest g (Symbol g) k (w ∷ ws) → Forest g (Symbol g) (k - 1 + arity g w) ws
  forest-tail (cons {w} {k} {ws} d f) = subst (λ n. Forest g (Symbol g) n ws) (let z : k + arity g w ≡ suc k - 1 + arity g w = omega arith in z) f

  module _ {window : List ℕ} {due p : ℕ} (so : Passing g ks t low window due p) where
    pub passing-ends : length t ≤ p → true ≡ windowed g ks low t (result_sort g ks (head t) ∷ [])
    unfolding windowed
    passing-ends h = sym (so.same ∙ ap (λ x. windowed g ks low x so.es) (drop_of_length-le t {i = p} h))

    pub passing-most : due ≤ length t
    passing-most = let z = forest-length so.forest in let z' = so.count in let z'' = length-drop p t in omega arith

    module _ (l : p < length t) where
      front : drop p t ≡ get_or t p 0 ∷ drop (p + 1) t
      front = drop-cons t p 0 l ∙ ap (λ j. get_or t p 0 ∷ drop j t) (sym (add-one p))

      pub passing-due : 0 < due
      passing-due =
          let z = forest-some (subst (Forest g (Symbol g) (length so.es)) front so.forest) (omega arith) in
          let z' = so.count in
          omega arith

      -- the sort of the place is the top one
      split : (es : List ℕ) → 0 < length es → es ≡ get_or es 0 0 ∷ drop 1 es
      split [] h = absurd (not-suc-le-zero h)
      split (e ∷ es) h = refl

      top : so.es ≡ get_or so.es 0 0 ∷ drop 1 so.es
      top = split so.es (let z = passing-due in let z' = so.count in omega arith)

      height : length (drop 1 so.es) ≡ due - 1
      height = let z = ap length top in let z' = so.count in omega arith

      expands : windowed g ks low t (result_sort g ks (head t) ∷ []) ≡
          ((not (within low (due - 1)) || eqb (result_sort g ks (get_or t p 0)) (get_or so.es 0 0)) && windowed g ks low (drop (p + 1) t) (argument_sorts g ks (get_or t p 0) ++ drop 1 so.es))
      unfolding windowed
      expands =
          so.same ∙ ap (λ x. windowed g ks low x so.es) front ∙ ap (λ x. windowed g ks low (get_or t p 0 ∷ drop (p + 1) t) x) top
          ∙ ap (λ n. (not (within low n) || eqb (result_sort g ks (get_or t p 0)) (get_or so.es 0 0)) && windowed g ks low (drop (p + 1) t) (argument_sorts g ks (get_or t p 0) ++ drop 1 so.es)) height

      -- what the window says of it
      asks : (not (within low (due - 1)) || eqb (result_sort g ks (get_or t p 0)) (get_or window (due - 1 - low) 0))
          ≡ (not (within low (due - 1)) || eqb (result_sort g ks (get_or t p 0)) (get_or so.es 0 0))
      asks = elim (dec_lt (due - 1) low) [
        | yes c ↦ rw (within_low low (due - 1) c) refl
        | no c ↦ elim (dec_lt (due - 1) (low + window_words)) [
          | yes d ↦
              let n = so.count in
              let z = passing-due in
              let q : get_or window (due - 1 - low) 0 ≡ get_or so.es 0 0 =
              so.window-is.each (due - 1) (omega arith) d (omega arith) ∙ ap (λ i. get_or so.es i 0) (let u : length so.es - 1 - (due - 1) ≡ 0 = omega arith in u) in
              ap (λ y. not (within low (due - 1)) || eqb (result_sort g ks (get_or t p 0)) y) q
          | no d ↦ rw (within-high low (due - 1) (omega arith)) refl
        ]
      ]

      module _ {b : Bool} (is : b ≡ (not (within low (due - 1)) || eqb (result_sort g ks (get_or t p 0)) (get_or window (due - 1 - low) 0))) where
        pub passing-fails : b ≡ false → false ≡ windowed g ks low t (result_sort g ks (head t) ∷ [])
        passing-fails z = sym (expands ∙ rw (sym asks ∙ sym is ∙ z))

        pub passing-next : b ≡ true → {a : ℕ} → a ≡ arity g (get_or t p 0) → (after : List ℕ) →
            Put ks low (due - 1) (offset g (get_or t p 0) + 1) (arity g (get_or t p 0)) window after → Passing g ks t low after (due - 1 + a) (p + 1)
        unfolding argument_sorts
        passing-next z {a} ea after d = record {
          es = argument_sorts g ks (get_or t p 0) ++ drop 1 so.es;
          inside = omega arith;
          count = (let y = arguments in let y' = height in omega arith);
          forest = subst (λ n. Forest g (Symbol g) n (drop (p + 1) t)) (let y = arguments in let y' = height in let y'' = so.count in omega arith)
              (forest-tail (subst (Forest g (Symbol g) (length so.es)) front so.forest));
          window-is = arguments-put;
          same = expands ∙ rw (sym asks ∙ sym is ∙ z);
        }
          where
            arguments : length (argument_sorts g ks (get_or t p 0) ++ drop 1 so.es) ≡ arity g (get_or t p 0) + length (drop 1 so.es)
            arguments =
                let y = length-append (argument_sorts g ks (get_or t p 0)) (drop 1 so.es) in let y' = arguments-length g ks (get_or t p 0) in omega arith

            get_or-rest : (es : List ℕ) (i : ℕ) → get_or (drop 1 es) i 0 ≡ get_or es (suc i) 0
            get_or-rest [] i = refl
            get_or-rest (e ∷ es) i = refl

            lower : Window low (drop 1 so.es) window
            lower = record {
              size = so.window-is.size;
              each = λ x l m c.
                  let y = height in
                  let n = so.count in
                  so.window-is.each x l m (omega arith)
                  ∙ ap (λ i. get_or so.es i 0) (let u : length so.es - 1 - x ≡ suc (length (drop 1 so.es) - 1 - x) = omega arith in u)
                  ∙ sym (get_or-rest so.es (length (drop 1 so.es) - 1 - x));
            }

            arguments-put : Window low (argument_sorts g ks (get_or t p 0) ++ drop 1 so.es) after
            arguments-put =
                subst (λ k. Window low (numbers_from ks k (arity g (get_or t p 0)) ++ drop 1 so.es) after) (add-one (offset g (get_or t p 0)))
                (window-put ks low (offset g (get_or t p 0) + 1) (arity g (get_or t p 0)) (drop 1 so.es) window after lower
                (subst (λ n. Put ks low n (offset g (get_or t p 0) + 1) (arity g (get_or t p 0)) window after) (sym height) d))

-- ---- the passes

pub record Passes (g : Signature) (ks : Sorts) (t : List ℕ) (low : ℕ) : Type 0 where
  pub number : ℕ
  pub is : low ≡ number * window_words
  pub passed : (m : ℕ) → m < number → windowed g ks (m * window_words) t (result_sort g ks (head t) ∷ []) ≡ true

module _ (g : Signature) (few : length g ≤ variable) (ks : Sorts) (t : List ℕ) (h : Whole g t) where
  module _ {low : ℕ} (so : Passes g ks t low) where
    pub passes-next : windowed g ks low t (result_sort g ks (head t) ∷ []) ≡ true → Passes g ks t (low + 256)
    passes-next e = record {
      number = so.number + 1;
      is = (let z = so.is in omega arith);
      passed = λ m l. elim (ℕ_discrete m so.number) [
        | yes z ↦ ap (λ n. windowed g ks n t (result_sort g ks (head t) ∷ [])) (ap (λ n. n * window_words) z ∙ sym so.is) ∙ e
        | no z ↦ so.passed m (omega arith)
      ];
    }

    pub passes-fail : windowed g ks low t (result_sort g ks (head t) ∷ []) ≡ false → false ≡ sorted_term g ks t
    unfolding sorted_term
    passes-fail e =
        sym (refuted (is_some (check g ks t (result_sort g ks (head t) ∷ []) unknown))
        (λ z. clash (check-windowed g few ks low h (result_sort g ks (head t) ∷ []) unknown refl z) e))

    pub passes-end : length t ≤ low → true ≡ sorted_term g ks t
    unfolding sorted_term
    passes-end l =
        sym (windowed-check g few ks (length t) h (result_sort g ks (head t) ∷ []) unknown refl (omega arith)
        (λ m b. so.passed m (let z = so.is in omega arith)))

pub sort-at : (g : Signature) (ks : Sorts) (t : List ℕ) {o x : ℕ} → o ≡ offset g (get_or t 0 0) → x ≡ get_or ks o 0 → x ≡ result_sort g ks (head t)
unfolding result_sort
sort-at g ks t eo ex = ex ∙ ap (λ i. get_or ks i 0) eo
