-- One transition of the machine in an area of words, by what the next entry asks for.
use Prim.Native.Nat.{ℕ, suc, ◌+◌, ◌≤◌, ◌<◌}
use native.Mathlib.Omega.{arith}
use native.Mathlib.Numerals.{add-one}
use native.Mathlib.Decide.{ℕ_discrete}
use mathlib.Core.Path.{◌≡◌, refl, sym, ap, ◌∙◌, subst}
use mathlib.Core.Bool.{false}
use mathlib.Core.List.{List, [], ◌∷◌, ◌++◌}
use lib.ListN.{length, get_or, take, drop, set, length-append, length-set}
use lib.Seq.{take_all, take-suc, take-take, take-append-le, get_or-set_same, get_or-set_other, length-take-le}
use Rattle.reader.specs.declared.Shape.{Shape}
use Rattle.system.specs.Signature.{span, argument}
use Rattle.system.specs.System.{System, strategy}
use Rattle.system.specs.Terms.{WellFormed}
use Rattle.reader.specs.Book.{system_of, Accepted}
use Rattle.layout.proofs.Books.{well}
use Rattle.layout.specs.declared.entries.Entry.{Entry}
use Rattle.layout.specs.declared.entries.Entry.TheVariants as entry
use Rattle.machine.specs.declared.advance.Event.TheVariants.{End, Repeated, Rules, Argument, TooDeep}
use Rattle.machine.specs.declared.advance.Event.{Event}
use Rattle.machine.specs.declared.advance.Innermost.{Innermost}
use Rattle.rows.specs.Measured.{Measured}
use Rattle.rewriting.specs.Machine.{strategy_at, down, position}
use Rattle.rows.specs.declared.gap.Gap.{Gap}
use Rattle.rows.specs.Rows.{counts_at, term_in}
use Rattle.machine.specs.advance.Area.{outer_in, count_in, last_words, Stands, Valid, Positioned, Tracks}
use Rattle.layout.specs.entries.Entries.{entry_of}
use Rattle.machine.specs.advance.Transition as to
use Rattle.machine.specs.advance.Transition.{Transition, event_of, counts_after, counts_in, positions_after, next, Performed}
use Rattle.rewriting.proofs.Laws.{position-snoc}
use Rattle.rewriting.proofs.OpenLevels.{opened-room}
use Rattle.machine.proofs.advance.States.{valid-within, valid-pop, valid-pass, valid-open}
use Rattle.layout.proofs.entries.Asks.{stood, Asks, asks, asked-end, asked-again, asked-rules, asked-argument}
use Rattle.machine.proofs.advance.Areas.{last_set, stands_set, stands-outer, stands-state, count_set, holds}
use Rattle.machine.proofs.advance.Bounds.{spot, bounds}
use Rattle.machine.proofs.advance.Transitions.{leads-end, leads-repeated, leads-rules, leads-argument, leads-deep}

-- a transition, told by where it leads
performed : (s : System) (at : Innermost) (base : ℕ) (ws positions : List ℕ) (o : Transition) → next s at base ws ≡ o → (ws' positions' : List ℕ) →
    Stands s.arities ws' at.gap (term_in ws at.gap) (counts_after (counts_in at ws) o) → positions' ≡ positions_after s (term_in ws at.gap) base positions o →
    ((level : ℕ) → length (counts_after (counts_in at ws) o) ≡ suc level → Tracks s ws' positions' at.gap base level) → last_words base ws' ≡ last_words base ws →
    Performed s at base ws positions (event_of o) ws' positions'
performed s at base ws positions o q ws' positions' stands noted holds kept = record {
  event = ap event_of (sym q);
  stands = subst (λ y. Stands s.arities ws' at.gap (term_in ws at.gap) (counts_after (counts_in at ws) y)) (sym q) stands;
  noted = noted ∙ ap (positions_after s (term_in ws at.gap) base positions) (sym q);
  holds = λ level l. holds level (ap (λ y. length (counts_after (counts_in at ws) y)) (sym q) ∙ l);
  kept = kept;
}

-- the state that an area holds, and the entry that the book's words gave: e, where k are begun
pub record Taking : Type 0 where
  pub book : List ℕ
  pub shape : Shape
  pub accepted : Accepted book shape
  pub at : Innermost
  pub ws : List ℕ
  pub positions : List ℕ
  pub base : ℕ
  pub held : Tracks (system_of book) ws positions at.gap base at.level
  pub k : ℕ
  pub is : k ≡ count_in ws at.level
  pub word : ℕ
  pub reads : word ≡ get_or (term_in ws at.gap) (get_or positions at.level 0) 0
  pub e : Entry
  pub answers : e ≡ entry_of (strategy (system_of book) word) at.since k

module _ {book : List ℕ} {shape : Shape} (acc : Accepted book shape) (at : Innermost) {ws positions : List ℕ} {base : ℕ}
    (held : Tracks (system_of book) ws positions at.gap base at.level) {k : ℕ} (is : k ≡ count_in ws at.level)
    {p word : ℕ} (start : p ≡ get_or positions at.level 0) (reads : word ≡ get_or (term_in ws at.gap) p 0)
    {e : Entry} (answers : e ≡ entry_of (strategy (system_of book) word) at.since k) where
  abbrev pub taking-of : Taking
  taking-of = record {
    book = book;
    shape = shape;
    accepted = acc;
    at = at;
    ws = ws;
    positions = positions;
    base = base;
    held = held;
    k = k;
    is = is;
    word = word;
    reads = reads ∙ ap (λ y. get_or (term_in ws at.gap) y 0) start;
    e = e;
    answers = answers;
  }

module _ (τ : Taking) where
  abbrev b : List ℕ
  b = τ.book

  abbrev at : Innermost
  at = τ.at

  abbrev ws : List ℕ
  ws = τ.ws

  abbrev positions : List ℕ
  positions = τ.positions

  abbrev base : ℕ
  base = τ.base

  abbrev gap : Gap
  gap = at.gap

  abbrev level : ℕ
  level = at.level

  abbrev s : System
  s = system_of b

  abbrev t : List ℕ
  t = term_in ws gap

  abbrev outer : List ℕ
  outer = outer_in ws level

  abbrev c : ℕ
  c = count_in ws level

  abbrev p : ℕ
  p = get_or positions level 0

  abbrev entries : List ℕ
  entries = strategy_at s t (position s t outer base)

  abbrev f : ℕ
  f = at.since

  v : Tracks s ws positions gap base level
  v = τ.held

  valid : Valid s t base outer c
  valid = v.represents.valid

  wf : WellFormed s
  wf = well b τ.shape τ.accepted

  standing : Stands s.arities ws gap t (outer ++ c ∷ [])
  standing = stands-state v.represents

  levels : length outer ≡ level
  levels = v.represents.levels

  room : level < 64
  room = let z = valid.room in omega (arith, levels)

  -- the innermost level starts where its slot says
  here-is : p ≡ position s t outer base
  here-is = spot b τ.shape τ.accepted ws positions gap base level v

  asked : Asks entries f c τ.e
  asked = subst (Asks entries f c)
      (ap (λ y. entry_of entries f y) (sym τ.is)
      ∙ ap (λ y. entry_of (strategy s y) f τ.k) (ap (λ y. get_or t y 0) (sym here-is) ∙ sym τ.reads)
      ∙ sym τ.answers)
      (asks entries f c)

  -- no entry is left
  pub performed-end : τ.e ≡ entry.End → Performed s at base ws positions End ws positions
  performed-end q =
      performed s at base ws positions (to.end outer) (leads-end s t base outer f c (asked-end entries f c (subst (Asks entries f c) q asked)))
      ws positions left refl popped refl
    where
      left : Stands s.arities ws gap t outer
      left = stands-outer outer c standing levels

      popped : (m : ℕ) → length outer ≡ suc m → Tracks s ws positions gap base m
      popped m z =
          let ds = take m outer in
          let d = get_or outer m 0 in
          let y : outer ≡ ds ++ d ∷ [] = sym (take_all (suc m) outer (omega arith)) ∙ take-suc outer m 0 (omega arith) in
          let l : length ds ≡ m = length-take-le m outer (omega arith) in
          holds ds d (subst (Stands s.arities ws gap t) y left) l (valid-pop s wf t base outer c valid ds d y) positions v.slots
          (λ j g. v.positioned j (omega arith) ∙ ap (λ y. position s t y base) (sym (take-take j m outer (omega arith))))

  -- one more entry is begun
  abbrev ws₁ : List ℕ
  ws₁ = set ws (counts_at + level) (c + 1)

  begun : Stands s.arities ws₁ gap t (outer ++ suc c ∷ [])
  begun = subst (λ y. Stands s.arities ws₁ gap t (outer ++ y ∷ [])) (add-one c) (count_set outer c standing levels (c + 1) (omega (arith, room)))

  -- none of the last words is written
  kept-one : last_words base ws₁ ≡ last_words base ws
  kept-one = last_set base ws level (c + 1) (bounds b τ.shape τ.accepted ws positions gap base level v).apart

  begun-holds : c < length entries → (m : ℕ) → length (outer ++ suc c ∷ []) ≡ suc m → Tracks s ws₁ positions gap base m
  begun-holds more m z =
      let l : length outer ≡ m = (let y = length-append outer (suc c ∷ []) in omega arith) in
      holds outer (suc c) begun l (valid-pass s wf t base outer c valid more) positions v.slots v.positioned

  -- the entry stood before
  pub performed-repeated : τ.e ≡ entry.Repeated → Performed s at base ws positions Repeated ws₁ positions
  performed-repeated q =
      let a = asked-again entries f c (subst (Asks entries f c) q asked) in
      performed s at base ws positions (to.repeated outer (suc c)) (leads-repeated s t base outer f c a.0 a.1)
      ws₁ positions begun refl (begun-holds a.0) kept-one

  -- the rules are to be tried
  pub performed-rules : τ.e ≡ entry.Rules → Performed s at base ws positions Rules ws₁ positions
  performed-rules q =
      let a = asked-rules entries f c (subst (Asks entries f c) q asked) in
      performed s at base ws positions (to.rules outer (suc c)) (leads-rules s t base outer f c a.0 a.1 a.2)
      ws₁ positions begun refl (begun-holds a.0) kept-one

  module _ (i : ℕ) (q : τ.e ≡ entry.Argument i) where
    asks-inner : (c < length entries) × (stood entries f c ≡ false) × (get_or entries c 0 ≡ suc i)
    asks-inner = asked-argument entries f c i (subst (Asks entries f c) q asked)

    -- an argument would be opened from level 64
    pub performed-deep : 63 ≤ level → Performed s at base ws positions TooDeep ws positions
    performed-deep h =
        let a = asks-inner in
        performed s at base ws positions to.too_deep (leads-deep s t base outer f c a.0 a.1 i a.2 (omega (arith, levels)))
        ws positions standing refl same refl
      where
        same : (m : ℕ) → length (outer ++ c ∷ []) ≡ suc m → Tracks s ws positions gap base m
        same m z =
            let l : level ≡ m = (let y = length-append outer (c ∷ []) in omega (arith, levels)) in
            subst (Tracks s ws positions gap base) l v

    module _ (h : level < 63) (q' : ℕ) (hops : q' ≡ p + 1 + span s.arities (drop (p + 1) t) i) where
      more : c < length entries
      more = asks-inner.0

      entry-is : get_or entries c 0 ≡ suc i
      entry-is = asks-inner.2

      -- the levels around the argument, and where it starts
      abbrev inner : List ℕ
      inner = outer ++ suc c ∷ []

      depth : length inner ≡ level + 1
      depth = rw length-append (omega (arith, levels))

      start : q' ≡ position s t inner base
      unfolding down argument
      start = rw (hops, add-one p, here-is) (sym (position-snoc s t outer (suc c) base ∙ rw entry-is))

      -- it lies in the term, so it fits a word
      pub argument-fits : q' ≤ 65535
      argument-fits =
          let inside = valid-within s wf t base inner 0 (valid-open s wf t base outer c valid more i entry-is (omega (arith, levels))) in
          let small = valid.bounded in omega (arith, start)

      abbrev ws₂ : List ℕ
      ws₂ = set ws₁ (counts_at + level + 1) 0

      abbrev positions₂ : List ℕ
      positions₂ = set positions (level + 1) q'

      -- the argument is opened
      pub performed-argument : Performed s at base ws positions Argument ws₂ positions₂
      performed-argument =
          performed s at base ws positions (to.argument inner) (leads-argument s t base outer f c more asks-inner.1 i entry-is (omega (arith, levels)))
          ws₂ positions₂ pushed (λ j. set positions (sym depth j) (start j)) opened kept-two
        where
          kept-two : last_words base ws₂ ≡ last_words base ws
          kept-two =
              let inside = valid-within s wf t base inner 0 (valid-open s wf t base outer c valid more i entry-is (omega (arith, levels))) in
              let around = opened-room s t (valid-open s wf t base outer c valid more i entry-is (omega (arith, levels))).opened in
              let e : counts_at + (level + 1) ≡ counts_at + level + 1 = omega arith in
              subst (λ y. last_words base (set ws₁ y 0) ≡ last_words base ws₁) e (last_set base ws₁ (level + 1) 0 (let small = valid.bounded in omega (arith, depth))) ∙ kept-one

          pushed : Stands s.arities ws₂ gap t (inner ++ 0 ∷ [])
          pushed =
              let e : counts_at + (level + 1) ≡ counts_at + level + 1 = omega arith in
              subst (λ y. Stands s.arities (set ws₁ y 0) gap t (inner ++ 0 ∷ [])) e (stands_set inner (level + 1) 0 depth (omega (arith, h)) begun)

          positioned : Positioned s t base inner positions₂
          positioned j g = elim (ℕ_discrete j (level + 1)) [
            | yes z ↦
                rw (z, get_or-set_same positions (level + 1) q' 0 (omega (arith, v.slots)))
                (start ∙ ap (λ y. position s t y base) (sym (take_all (level + 1) inner (omega (arith, depth)))))
            | no z ↦
                get_or-set_other positions (level + 1) j q' 0 z ∙ v.positioned j (omega (arith, depth, levels))
                ∙ ap (λ y. position s t y base) (sym (take-append-le j outer (suc c ∷ []) (omega (arith, depth, levels))))
          ]

          opened : (m : ℕ) → length (inner ++ 0 ∷ []) ≡ suc m → Tracks s ws₂ positions₂ gap base m
          opened m z =
              let l : length inner ≡ m = (let y = length-append inner (0 ∷ []) in omega arith) in
              holds inner 0 pushed l (valid-open s wf t base outer c valid more i entry-is (omega (arith, levels))) positions₂
              (length-set positions (level + 1) q' ∙ v.slots) positioned

-- after each of them the lengths are true
pub performed-measured : {s : System} {at : Innermost} {base : ℕ} {ws positions : List ℕ} {r : Event} {ws' positions' : List ℕ} →
    Performed s at base ws positions r ws' positions' → Performed s at base ws positions r ws' positions' × Measured s.arities ws' at.gap
performed-measured h = (h, h.stands.measured)
