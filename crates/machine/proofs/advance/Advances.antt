-- The transition laws of `advance`: each transition without a rewrite leads to a state from which the machine comes to the same place.
use Prim.Native.Nat.{ℕ, zero, suc, ◌-◌, ◌≤◌, ◌<◌}
use native.Mathlib.Omega.{arith}
use mathlib.Core.Path.{◌≡◌, refl, sym, ap, ◌∙◌}
use mathlib.Core.Option.{some}
use mathlib.Core.List.{List, [], ◌∷◌, ◌++◌, append-nil}
use lib.ListN.{length, get_or, drop, drop_of_length-le}
use lib.Seq.{append_snoc}
use Rattle.system.specs.Signature.{argument}
use Rattle.system.specs.System.{System}
use Rattle.matching.specs.Matching.{Contraction, contraction}
use Rattle.rewriting.specs.Machine.{strategy_at, down, position, Next, final, deep, ready, around, scan, enter, advance}
use Rattle.rewriting.proofs.Laws.{next-entry, entry_at}
use Rattle.machine.proofs.advance.Levels.{onto, outward, given_below}
use Rattle.rewriting.proofs.Reached.{scan-fire}
use Rattle.machine.proofs.advance.Skipping.{Skips, scan-over}

module _ (s : System) (t : List ℕ) where
  -- the clauses of advance
  abbrev rest : ℕ → List ℕ → ℕ → ℕ → Next
  rest l es c p = scan s (enter s l t) t es c p

  advance-top : (l c p : ℕ) → advance s (suc l) (c ∷ []) t p ≡ rest l (drop c (strategy_at s t p)) c p
  unfolding advance
  advance-top l c p = refl

  advance-under : (l c : ℕ) (cs : List ℕ) (p : ℕ) →
      advance s (suc l) (c ∷ cs) t p ≡ around c (advance s l cs t (down s t p c)) (rest l (drop c (strategy_at s t p)) c p)
  unfolding advance
  advance-under l c cs p = refl

  pub advance-end : (l p : ℕ) → advance s l [] t p ≡ final
  unfolding advance
  advance-end l p = refl

  advance-start : (l p : ℕ) → advance s l (0 ∷ []) t p ≡ enter s l t p
  unfolding advance enter
  advance-start zero p = refl
  advance-start (suc l) p = refl

  -- the laws at the innermost level
  module _ (l c p : ℕ) where
    top-pop : length (strategy_at s t p) ≤ c → advance s (suc l) (c ∷ []) t p ≡ final
    unfolding scan
    top-pop h = advance-top l c p ∙ rw (drop_of_length-le (strategy_at s t p) h)

    module _ (es : List ℕ) where
      top-pass : (e : ℕ) → drop c (strategy_at s t p) ≡ e ∷ es → Skips s t l p e → advance s (suc l) (c ∷ []) t p ≡ advance s (suc l) (suc c ∷ []) t p
      top-pass e q f =
          advance-top l c p ∙ ap (λ e. rest l e c p) q ∙ scan-over s t l p e es c f
          ∙ ap (λ e. rest l e (suc c) p) (sym (next-entry _ c e es q).1) ∙ sym (advance-top l (suc c) p)

      top-open : (i : ℕ) → drop c (strategy_at s t p) ≡ suc i ∷ es → advance s (suc l) (c ∷ []) t p ≡ advance s (suc l) (suc c ∷ 0 ∷ []) t p
      unfolding down scan
      top-open i q =
          let n = next-entry _ c (suc i) es q in
          advance-top l c p ∙ ap (λ e. rest l e c p) q
          ∙ sym (rw (n.0, n.1, advance-start l (argument s.arities t p i)) at (advance-under l (suc c) (0 ∷ []) p))

      top-fire : (x : Contraction) → drop c (strategy_at s t p) ≡ 0 ∷ es → contraction s (drop p t) ≡ some x → advance s (suc l) (c ∷ []) t p ≡ ready [] (suc c) x
      top-fire x q f = advance-top l c p ∙ ap (λ e. rest l e c p) q ∙ scan-fire s (enter s l t) t es c p x f

  -- one level more than there are
  top-deep : (c d p : ℕ) → advance s 1 (c ∷ d ∷ []) t p ≡ deep
  unfolding advance
  top-deep c d p = refl

  -- what the levels around an innermost one make of where it comes to
  abbrev on : ℕ → ℕ → ℕ → Next → Next
  on l c p n = around c n (rest l (drop c (strategy_at s t p)) c p)

  outward-ready : (m : ℕ) (cs : List ℕ) (p d : ℕ) (x : Contraction) → outward s t on m cs p (ready [] d x) ≡ ready cs d x
  unfolding outward
  outward-ready m [] p d x = refl
  outward-ready m (c ∷ cs) p d x = ap (on (onto cs m) c p) (outward-ready m cs (down s t p c) d x)

  outward-deep : (m : ℕ) (cs : List ℕ) (p : ℕ) → outward s t on m cs p deep ≡ deep
  unfolding outward
  outward-deep m [] p = refl
  outward-deep m (c ∷ cs) p = ap (on (onto cs m) c p) (outward-deep m cs (down s t p c))

  -- the transition laws, at the level below the levels cs, where c entries are begun
  module _ (l p : ℕ) (cs : List ℕ) (c : ℕ) (room : length cs < l) where
    abbrev here : ℕ
    here = position s t cs p

    abbrev entries : List ℕ
    entries = strategy_at s t here

    abbrev m : ℕ
    m = l - suc (length cs)

    inward : (xs : List ℕ) → advance s l (cs ++ xs) t p ≡ outward s t on (suc m) cs p (advance s (suc m) xs t here)
    inward = given_below s t on (λ l cs p. advance s l cs t p) advance-under l p cs room

    same : (xs ys : List ℕ) → advance s (suc m) xs t here ≡ advance s (suc m) ys t here → advance s l (cs ++ xs) t p ≡ advance s l (cs ++ ys) t p
    same xs ys e = inward xs ∙ ap (outward s t on (suc m) cs p) e ∙ sym (inward ys)

    -- a level that is finished
    pub advance-pop : length entries ≤ c → advance s l (cs ++ c ∷ []) t p ≡ advance s l cs t p
    advance-pop h = same (c ∷ []) [] (top-pop m c here h ∙ sym (advance-end (suc m) here)) ∙ ap (λ z. advance s l z t p) (append-nil cs)

    module _ (more : c < length entries) where
      abbrev es : List ℕ
      es = drop (suc c) entries

      -- an entry that leads to no rewrite
      pub advance-pass : Skips s t (l - suc (length cs)) here (get_or entries c 0) → advance s l (cs ++ c ∷ []) t p ≡ advance s l (cs ++ suc c ∷ []) t p
      advance-pass f = same (c ∷ []) (suc c ∷ []) (top-pass m c here es (get_or entries c 0) (entry_at entries c (get_or entries c 0) more refl) f)

      -- an entry 0 where a rule matches
      pub advance-fire : (x : Contraction) → get_or entries c 0 ≡ 0 → contraction s (drop here t) ≡ some x → advance s l (cs ++ c ∷ []) t p ≡ ready cs (suc c) x
      advance-fire x e f =
          inward (c ∷ []) ∙ ap (outward s t on (suc m) cs p) (top-fire m c here es x (entry_at entries c 0 more e) f) ∙ outward-ready (suc m) cs p (suc c) x

      module _ (i : ℕ) (e : get_or entries c 0 ≡ suc i) where
        opening : advance s (suc m) (c ∷ []) t here ≡ advance s (suc m) (suc c ∷ 0 ∷ []) t here
        opening = top-open m c here es i (entry_at entries c (suc i) more e)

        -- an entry that opens an argument
        pub advance-open : advance s l (cs ++ c ∷ []) t p ≡ advance s l (cs ++ suc c ∷ [] ++ 0 ∷ []) t p
        advance-open = same (c ∷ []) (suc c ∷ 0 ∷ []) opening ∙ ap (λ z. advance s l z t p) (sym (append_snoc cs (suc c) (0 ∷ [])))

        -- an argument that would be opened too deep
        pub advance-too-deep : suc (length cs) ≡ l → advance s l (cs ++ c ∷ []) t p ≡ deep
        advance-too-deep h =
            let none : m ≡ 0 = omega arith in
            let top : advance s (suc m) (suc c ∷ 0 ∷ []) t here ≡ deep = rw none (top-deep (suc c) 0 here) in
            inward (c ∷ []) ∙ ap (outward s t on (suc m) cs p) (opening ∙ top) ∙ outward-deep (suc m) cs p
