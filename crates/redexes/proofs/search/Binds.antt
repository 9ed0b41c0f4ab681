-- One word of a left side in the rows, and the words that hold the bindings: in their first half where the stretches start, in the other how many
-- words these have.
use Prim.Native.Nat.{ℕ, ◌+◌, ◌-◌, ◌≤◌, ◌<◌}
use native.Mathlib.Omega.{arith}
use mathlib.Core.Path.{◌≡◌, sym, ap, ◌∙◌}
use mathlib.Core.Bool.{Bool, true, false}
use mathlib.Core.List.{List}
use lib.ListN.{length, get_or, take, drop, set, length-drop}
use lib.Seq.{drop-drop, get_or-take, get_or-drop, take-set-le, take-set-lt, drop-set-add, drop-set-lt, length-take-le}
use Rattle.system.specs.Limits.{variable, variables}
use Rattle.system.specs.Signature.{Signature}
use Rattle.matching.specs.Matching.{same_words}
use Rattle.matching.specs.Bindings.{consumed, value, taken, with_binding}
use Rattle.matching.specs.rules.Searches.{Within}
use Rattle.std.specs.Prelude.{Some, None}
use Rattle.redexes.specs.search.Redexes.{bound_in, some_words}
use Rattle.redexes.proofs.search.SomeWords.{some_words-some, some-from_words, none-from_words}
use Rattle.matching.proofs.SameWords.{same-lengths}
use Rattle.matching.proofs.Stretches.{value-length}
use Rattle.matching.proofs.rules.MatchSteps.{consumed-le, with_binding-symbol, with_binding-old, with_binding-new, taken-symbol, taken-new, taken-again, taken-unlike, taken_none}

-- ---- a variable, and its two words: the word w of a left side, as a number

module _ (bs : List ℕ) {l w : ℕ} (is : w ≡ l) (high : variable ≤ w) (few : w - variable < variables) where
  number : l - variable ≡ w - variable
  number = omega arith

  start_word : get_or (bound_in bs).starts (l - variable) 0 ≡ get_or bs (w - variable) 0
  start_word = ap (λ v. get_or (bound_in bs).starts v 0) number ∙ get_or-take variables bs (w - variable) 0 few

  length-word : get_or (bound_in bs).lengths (l - variable) 0 ≡ get_or bs (variables + (w - variable)) 0
  length-word = ap (λ v. get_or (bound_in bs).lengths v 0) number ∙ get_or-drop variables bs (w - variable) 0

  -- the stretch that it has lies in the term t, of which the subterm starts at p
  pub stretch-inside : (t : List ℕ) {p : ℕ} → p ≤ length t → Within (drop p t) (bound_in bs).starts (bound_in bs).lengths →
      p + get_or bs (w - variable) 0 + get_or bs (variables + (w - variable)) 0 ≤ length t
  stretch-inside t {p} h lies = let i = lies.inside (l - variable) in let n = length-drop p t in omega (arith, start_word, length-word)

  -- its stretch is noted where it has none
  module _ (start n : ℕ) where
    abbrev noted : List ℕ
    noted = set (set bs (w - variable) start) (variables + (w - variable)) n

    noted-starts : take variables noted ≡ set (bound_in bs).starts (w - variable) start
    noted-starts = take-set-le variables (set bs (w - variable) start) (variables + (w - variable)) n (omega arith) ∙ take-set-lt variables bs (w - variable) start few

    noted-lengths : drop variables noted ≡ set (bound_in bs).lengths (w - variable) n
    noted-lengths = drop-set-add variables (set bs (w - variable) start) (w - variable) n ∙ ap (λ r. set r (w - variable) n) (drop-set-lt variables bs (w - variable) start few)

    pub new-bound : get_or bs (variables + (w - variable)) 0 ≡ 0 → bound_in noted ≡ with_binding l start n (bound_in bs)
    new-bound e =
        (λ i. record { starts = noted-starts i; lengths = noted-lengths i })
        ∙ (λ i. record { starts = set (bound_in bs).starts (sym number i) start; lengths = set (bound_in bs).lengths (sym number i) n })
        ∙ sym (with_binding-new l (bound_in bs) start n (omega arith) (length-word ∙ e))

    pub old-bound : (get_or bs (variables + (w - variable)) 0 ≡ 0 → ⊥) → bound_in bs ≡ with_binding l start n (bound_in bs)
    old-bound d = sym (with_binding-old l (bound_in bs) start n (omega arith) (omega (arith, length-word)))

pub symbol-bound : (bs : List ℕ) {l w : ℕ} → w ≡ l → w < variable → (start n : ℕ) → bound_in bs ≡ with_binding l start n (bound_in bs)
symbol-bound bs {l} is low start n = sym (with_binding-symbol l (bound_in bs) start n (omega arith))

-- ---- the word against the words of the term t from q on, of the subterm that starts at p

module _ (g : Signature) (t : List ℕ) (l : ℕ) {p q : ℕ} (onward : p ≤ q) (bs : List ℕ) where
  abbrev ws : List ℕ
  ws = drop p t

  here : drop (q - p) ws ≡ drop q t
  here = let z : p + (q - p) ≡ q = omega arith in drop-drop (q - p) p t ∙ ap (λ i. drop i t) z

  pub nothing-takes : None ≡ some_words (consumed g l (drop q t)) → None ≡ some_words (taken g ws l (q - p) (bound_in bs))
  nothing-takes e = ap some_words (sym (taken_none g ws l (q - p) (bound_in bs) (ap (consumed g l) here ∙ none-from_words e)))

module _ (g : Signature) (t : List ℕ) (l : ℕ) {p q : ℕ} (onward : p ≤ q) (bs : List ℕ) {n : ℕ} (reads : Some n ≡ some_words (consumed g l (drop q t))) where
  abbrev ws' : List ℕ
  ws' = drop p t

  took : n ≡ consumed g l (drop (q - p) (drop p t))
  took = (some-from_words reads).0 ∙ ap (consumed g l) (sym (here g t l onward bs))

  pub takes-some : n ≡ 0 → ⊥
  takes-some = (some-from_words reads).1

  pub takes-inside : q + n ≤ length t
  takes-inside =
      let e = (some-from_words reads).0 in
      let some = takes-some in
      let m = consumed-le g l (drop q t) in
      let d = length-drop q t in
      omega arith

  takes : {k : ℕ} → k ≡ n → Some n ≡ some_words k
  takes e = some_words-some (sym e) takes-some

  pub symbol-takes : {w : ℕ} → w ≡ l → w < variable → Some n ≡ some_words (taken g ws' l (q - p) (bound_in bs))
  symbol-takes is low = takes (taken-symbol g ws' l (q - p) (bound_in bs) (omega arith) ∙ sym took)

  module _ {w : ℕ} (is : w ≡ l) (high : variable ≤ w) (few : w - variable < variables) where
    pub new-takes : get_or bs (variables + (w - variable)) 0 ≡ 0 → Some n ≡ some_words (taken g ws' l (q - p) (bound_in bs))
    new-takes e = takes (taken-new g ws' l (q - p) (bound_in bs) (length-word bs is high few ∙ e) ∙ sym took)

    -- a variable that has a stretch, of m words
    module _ {m : ℕ} (long : m ≡ get_or bs (variables + (w - variable)) 0) (old : m ≡ 0 → ⊥) where
      has : 0 < get_or (bound_in bs).lengths (l - variable) 0
      has = omega (arith, length-word bs is high few)

      -- of another length
      pub length-differs : Within ws' (bound_in bs).starts (bound_in bs).lengths → (m ≡ n → ⊥) → None ≡ some_words (taken g ws' l (q - p) (bound_in bs))
      length-differs lies d =
          let x = value-length ws' (bound_in bs) lies (l - variable) in
          let y = length-take-le (consumed g l (drop (q - p) ws')) (drop (q - p) ws') (consumed-le g l (drop (q - p) ws')) in
          let z = took in
          ap some_words (sym (taken-unlike g ws' l (q - p) (bound_in bs) (omega arith) has (same-lengths _ _ (λ e. d (omega (arith, length-word bs is high few))))))

      -- of the same length: its words, from `start` on, are compared
      module _ (same : m ≡ n) {start : ℕ} (from : start ≡ get_or bs (w - variable) 0) {r : Bool} (e : r ≡ same_words (take n (drop (p + start) t)) (take n (drop q t))) where
        its-words : value ws' (bound_in bs) (l - variable) ≡ take n (drop (p + start) t)
        unfolding value
        its-words =
            rw (start_word bs is high few, length-word bs is high few, ← long, ← from, drop-drop start p t) (ap (λ k. take k (drop (p + start) t)) same)

        alike : same_words (value ws' (bound_in bs) (l - variable)) (take (consumed g l (drop (q - p) ws')) (drop (q - p) ws')) ≡ r
        alike =
            ap (λ x. same_words x (take (consumed g l (drop (q - p) ws')) (drop (q - p) ws'))) its-words
            ∙ ap (λ k. same_words (take n (drop (p + start) t)) (take k (drop (q - p) ws'))) (sym took)
            ∙ ap (λ y. same_words (take n (drop (p + start) t)) (take n y)) (here g t l onward bs) ∙ sym e

        pub words-differ : r ≡ false → None ≡ some_words (taken g ws' l (q - p) (bound_in bs))
        words-differ f = ap some_words (sym (taken-unlike g ws' l (q - p) (bound_in bs) (omega arith) has (alike ∙ f)))

        pub again-takes : r ≡ true → Some n ≡ some_words (taken g ws' l (q - p) (bound_in bs))
        again-takes f = takes (taken-again g ws' l (q - p) (bound_in bs) (omega arith) has (alike ∙ f) ∙ sym took)
