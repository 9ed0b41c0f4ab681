-- One word of a side: matching it against a term, and filling it.
use Prim.Native.Nat.{ℕ, suc, ◌+◌, ◌-◌, ◌≤◌, ◌<◌}
use mathlib.Core.Path.{◌≡◌, refl, sym, ap, ◌∙◌}
use mathlib.Core.Option.{none}
use mathlib.Core.List.{List, [], ◌∷◌, ◌++◌, append_assoc}
use lib.ListN.{length, get_or, take, drop, drop_of_length-le}
use lib.Seq.{drop-cons, drop-drop}
use Rattle.system.specs.Limits.{variable}
use Rattle.system.specs.Signature.{Signature, span, subterm}
use Rattle.system.specs.System.{instance}
use Rattle.matching.specs.Matching.{bind}
use Rattle.matching.proofs.Matched.{bind-symbol, bind-differ, bind-new, bind-same, bind-other}

module _ (g : Signature) where
  -- matching: word j of a side against word q of a term
  module _ (ls t : List ℕ) (j q : ℕ) (σ : List (List ℕ)) (more : j < length ls) where
    abbrev l : ℕ
    l = get_or ls j 0

    split : drop j ls ≡ l ∷ drop (suc j) ls
    split = drop-cons ls j 0 more

    pub match-end : length t ≤ q → bind g (drop j ls) (drop q t) σ ≡ none
    unfolding bind
    match-end h = rw (split, drop_of_length-le t h)

    module _ (within : q < length t) where
      pub match-symbol : l < variable → l ≡ get_or t q 0 → bind g (drop j ls) (drop q t) σ ≡ bind g (drop (suc j) ls) (drop (suc q) t) σ
      match-symbol h e = rw (split, drop-cons t q 0 within, ← e) (bind-symbol g l (drop (suc j) ls) (drop (suc q) t) σ h)

      pub match-differ : l < variable → (l ≡ get_or t q 0 → ⊥) → bind g (drop j ls) (drop q t) σ ≡ none
      match-differ h d = rw (split, drop-cons t q 0 within) (bind-differ g l (get_or t q 0) (drop (suc j) ls) (drop (suc q) t) σ h d)

      -- a variable that is new, one that is bound to the same words, and one that is bound to others
      abbrev here : List ℕ
      here = get_or t q 0 ∷ drop (suc q) t

      at_here : bind g (drop j ls) (drop q t) σ ≡ bind g (l ∷ drop (suc j) ls) here σ
      at_here = ap (λ y. bind g y (drop q t) σ) split ∙ ap (λ y. bind g (l ∷ drop (suc j) ls) y σ) (drop-cons t q 0 within)

      pub match-variable : variable ≤ l → length σ ≤ l - variable →
          bind g (drop j ls) (drop q t) σ ≡ bind g (drop (suc j) ls) (drop (q + span g (drop q t) 1) t) (σ ++ subterm g t q ∷ [])
      unfolding subterm
      match-variable h new =
          let e = drop-cons t q 0 within in
          at_here
          ∙ bind-new g l (get_or t q 0) (drop (suc j) ls) (drop (suc q) t) σ h new
          ∙ ap (λ y. bind g (drop (suc j) ls) (drop (span g y 1) y) (σ ++ take (span g y 1) y ∷ [])) (sym e)
          ∙ ap (λ y. bind g (drop (suc j) ls) y (σ ++ take (span g (drop q t) 1) (drop q t) ∷ [])) (drop-drop (span g (drop q t) 1) q t)

      module _ (h : variable ≤ l) (old : l - variable < length σ) where
        pub match-again : get_or σ (l - variable) [] ≡ take (span g (drop q t) 1) (drop q t) →
            bind g (drop j ls) (drop q t) σ ≡ bind g (drop (suc j) ls) (drop (q + span g (drop q t) 1) t) σ
        match-again s =
            let e = drop-cons t q 0 within in
            at_here
            ∙ bind-same g l (get_or t q 0) (drop (suc j) ls) (drop (suc q) t) σ h old (s ∙ ap (λ y. take (span g y 1) y) e)
            ∙ ap (λ y. bind g (drop (suc j) ls) (drop (span g y 1) y) σ) (sym e)
            ∙ ap (λ y. bind g (drop (suc j) ls) y σ) (drop-drop (span g (drop q t) 1) q t)

        pub match-unlike : (get_or σ (l - variable) [] ≡ take (span g (drop q t) 1) (drop q t) → ⊥) → bind g (drop j ls) (drop q t) σ ≡ none
        match-unlike d =
            at_here ∙ bind-other g l (get_or t q 0) (drop (suc j) ls) (drop (suc q) t) σ h old (λ s. d (s ∙ ap (λ y. take (span g y 1) y) (sym (drop-cons t q 0 within))))

-- filling: the words that stand for the first j words of a side
pub instance-append : (σ : ℕ → List ℕ) (a b : List ℕ) → instance σ (a ++ b) ≡ instance σ a ++ instance σ b
unfolding instance
instance-append σ [] b = refl
instance-append σ (w ∷ a) b = simp (instance-append σ a b, append_assoc)
