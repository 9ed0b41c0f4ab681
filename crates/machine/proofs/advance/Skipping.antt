-- Entries that lead to no rewrite. In a run of transitions the term stays as it is, so an entry that led to none leads to none when it comes
-- again; the machine passes over it.
use Prim.Native.Nat.{ℕ, zero, suc, ◌-◌, ◌≤◌, ◌<◌}
use native.Mathlib.Omega.{arith}
use native.Mathlib.Decide.{dec_lt}
use mathlib.Core.Path.{◌≡◌, refl, sym, ap, ◌∙◌, subst}
use mathlib.Core.Logic.{inl, inr}
use mathlib.Core.Bool.{true}
use mathlib.Core.Option.{none}
use mathlib.Core.List.{List, [], ◌∷◌, ◌++◌}
use lib.ListN.{length, get_or, take, drop, length-append, get_or-append}
use lib.Seq.{take-append-le, take-append_seam, get_or-append_seam}
use borrow.Author.Tests.{lt-ltb, le-ltb}
use Rattle.system.specs.Signature.{argument}
use Rattle.system.specs.System.{System}
use Rattle.system.specs.Terms.{Member, first, later, among}
use Rattle.matching.specs.Matching.{contraction}
use Rattle.rewriting.specs.Machine.{strategy_at, down, position, final, around, scan, enter}
use Rattle.rewriting.specs.Opened.{Opened, level}
use Rattle.layout.specs.entries.Entries.{between}
use Rattle.machine.specs.advance.Transition.{since_at}
use Rattle.rewriting.proofs.Laws.{position-snoc}
use Rattle.rewriting.proofs.Reached.{scan-pass}
use Rattle.layout.proofs.entries.Repeats.{among-member, between_none, between_more, between-all}

module _ (s : System) (t : List ℕ) where
  -- at p, with l levels left below
  abbrev pub Skips : ℕ → ℕ → ℕ → Type 0
  Skips l p zero = contraction s (drop p t) ≡ none
  Skips l p (suc i) = enter s l t (argument s.arities t p i) ≡ final

  abbrev pub AllSkip : ℕ → ℕ → List ℕ → Type 0
  AllSkip l p es = (e : ℕ) → Member e es → Skips l p e

  pub scan-over : (l p e : ℕ) (es : List ℕ) (c : ℕ) → Skips l p e → scan s (enter s l t) t (e ∷ es) c p ≡ scan s (enter s l t) t es (suc c) p
  unfolding scan
  scan-over l p zero es c h = scan-pass s (enter s l t) t es c p h
  scan-over l p (suc i) es c h = ap (λ n. around (suc c) n (scan s (enter s l t) t es (suc c) p)) h

  scan-all : (l p : ℕ) (es : List ℕ) (c : ℕ) → AllSkip l p es → scan s (enter s l t) t es c p ≡ final
  unfolding scan
  scan-all l p [] c h = refl
  scan-all l p (e ∷ es) c h = scan-over l p e es c (h e first) ∙ scan-all l p es (suc c) (λ d k. h d (later k))

  enter-all : (l p : ℕ) → AllSkip l p (strategy_at s t p) → enter s (suc l) t p ≡ final
  unfolding enter
  enter-all l p h = scan-all l p (strategy_at s t p) 0 h

  -- from the base on
  module _ (base : ℕ) where
    -- the entries from f up to c of the level with the levels `outer` around it
    abbrev pub Known : List ℕ → ℕ → ℕ → Type 0
    Known outer f c = AllSkip (63 - length outer) (position s t outer base) (between (strategy_at s t (position s t outer base)) f c)

    -- what is known in a run of transitions: of each level from `floor` on, that those of its entries that were ended in this run of transitions pass
    pub record Skipped (outer : List ℕ) (c floor since : ℕ) : Type 0 where
      pub floored : floor ≤ length outer
      pub around : (k : ℕ) → floor ≤ k → k < length outer → Known (take k outer) (since_at floor since k) (get_or outer k 0 - 1)
      pub here : Known outer (since_at floor since (length outer)) c

    -- nothing yet, at the level where it starts or which is left to
    pub skipped-start : (outer : List ℕ) (c floor : ℕ) → floor ≡ length outer → Skipped outer c floor c
    skipped-start outer c floor q = record {
      floored = omega arith;
      around = λ k f h. absurd (omega arith);
      here = λ e st. between_none _ c c e (omega arith) (rw (le-ltb floor (length outer) (omega arith), since_at) at st);
    }

    module _ (outer : List ℕ) (c floor since : ℕ) (v : Skipped outer c floor since) where
      abbrev here : ℕ
      here = position s t outer base

      abbrev entries : List ℕ
      entries = strategy_at s t here

      -- an entry that stood before
      pub skipped-again : among (get_or entries c 0) (between entries (since_at floor since (length outer)) c) ≡ true → Skips (63 - length outer) here (get_or entries c 0)
      skipped-again q = v.here (get_or entries c 0) (among-member (get_or entries c 0) _ q)

      -- one entry more
      pub skipped-more : c < length entries → Skips (63 - length outer) here (get_or entries c 0) → Skipped outer (suc c) floor since
      skipped-more more h = record {
        floored = v.floored;
        around = v.around;
        here = λ e st. elim (between_more entries (since_at floor since (length outer)) c e more st) [
          | inl q ↦ subst (Skips (63 - length outer) here) (sym q) h
          | inr k ↦ v.here e k
        ];
      }

      -- an argument is opened
      pub skipped-open : Skipped (outer ++ suc c ∷ []) 0 floor since
      skipped-open = record {
        floored = rw (length-append outer (suc c ∷ [])) (let z = v.floored in omega arith);
        around = go;
        here = λ e st. between_none (strategy_at s t (position s t (outer ++ suc c ∷ []) base)) (since_at floor since (length (outer ++ suc c ∷ []))) 0 e (omega arith) st;
      }
        where
          go : (k : ℕ) → floor ≤ k → k < length (outer ++ suc c ∷ []) → Known (take k (outer ++ suc c ∷ [])) (since_at floor since k) (get_or (outer ++ suc c ∷ []) k 0 - 1)
          go k f h = elim (dec_lt k (length outer)) [
            | yes l ↦ rw (take-append-le k outer (suc c ∷ []) (omega arith), get_or-append outer (suc c ∷ []) 0 k l) (v.around k f l)
            | no l ↦
                let q : k ≡ length outer = (let z = length-append outer (suc c ∷ []) in omega arith) in
                let z : suc c - 1 ≡ c = omega arith in
                rw (q, take-append_seam outer (suc c ∷ []), get_or-append_seam outer (suc c) [] 0, z) v.here
          ]

    -- the entry that opened the innermost one of some levels
    opened-last : (cs : List ℕ) (c : ℕ) {p : ℕ} → Opened s t p (cs ++ c ∷ []) →
        (b i : ℕ) × (c ≡ suc b) × (b < length (strategy_at s t (position s t cs p))) × (get_or (strategy_at s t (position s t cs p)) b 0 ≡ suc i)
    unfolding position
    opened-last [] c (level {p} {c = b} {i} h e o) = (b, i, refl, h, e)
    opened-last (d ∷ cs) c (level h e o) = opened-last cs c o

    -- a level is left that was opened in this run of transitions: the entry that opened it passes
    module _ (ds : List ℕ) (d c floor since : ℕ) (v : Skipped (ds ++ d ∷ []) c floor since) (o : Opened s t base (ds ++ d ∷ [])) where
      depth : length (ds ++ d ∷ []) ≡ suc (length ds)
      depth = let z = length-append ds (d ∷ []) in omega arith

      abbrev above : ℕ
      above = position s t ds base

      abbrev over : List ℕ
      over = strategy_at s t above

      module _ (room : length ds < 63) (f : floor ≤ length ds) (h : length (strategy_at s t (position s t (ds ++ d ∷ []) base)) ≤ c) where
        -- all of its entries pass
        expansion_of : enter s (63 - length ds) t (down s t above d) ≡ final
        expansion_of =
            let x = v.here in
            let y = rw (lt-ltb floor (length (ds ++ d ∷ [])) (omega (arith, depth)), since_at, between-all (strategy_at s t (position s t (ds ++ d ∷ []) base)) c h) at x in
            let z : suc (63 - length (ds ++ d ∷ [])) ≡ 63 - length ds = omega (arith, depth) in
            rw (position-snoc s t ds d base, z) at (enter-all (63 - length (ds ++ d ∷ [])) (position s t (ds ++ d ∷ []) base) y)

        pub skipped-left : Skipped ds d floor since
        unfolding down
        skipped-left = record { floored = f; around = outside; here = inside (opened-last ds d o) }
          where
            outside : (k : ℕ) → floor ≤ k → k < length ds → Known (take k ds) (since_at floor since k) (get_or ds k 0 - 1)
            outside k g l = rw (take-append-le k ds (d ∷ []) (omega arith), get_or-append ds (d ∷ []) 0 k l) at (v.around k g (omega (arith, depth)))

            inside : (b i : ℕ) × (d ≡ suc b) × (b < length over) × (get_or over b 0 ≡ suc i) → Known ds (since_at floor since (length ds)) d
            inside (b, i, q, more, e) g st =
                let x : Known ds (since_at floor since (length ds)) (d - 1) =
                rw (take-append_seam ds (d ∷ []), get_or-append_seam ds d [] 0) at (v.around (length ds) f (omega (arith, depth))) in
                let w : Skips (63 - length ds) above (get_or over b 0) = rw e (rw (q, e) at expansion_of) in
                elim (between_more over (since_at floor since (length ds)) b g more (rw q at st)) [
                  | inl r ↦ subst (Skips (63 - length ds) above) (sym r) w
                  | inr k ↦ x g (subst (λ y. Member g (between over (since_at floor since (length ds)) y)) (let z : b ≡ d - 1 = omega arith in z) k)
                ]
