-- Each way on from a round of the loop of `machine::advance`, by the event.
use Prim.Native.Nat.{ℕ, suc, ◌+◌, ◌-◌, ◌≤◌, ◌<◌}
use native.Mathlib.Omega.{arith}
use mathlib.Core.Path.{◌≡◌, refl, sym, ap, ◌∙◌, subst, subst₂}
use mathlib.Core.Bool.{true}
use mathlib.Core.List.{List, [], ◌∷◌, ◌++◌}
use lib.ListN.{length, get_or, take, drop, length-append}
use lib.Seq.{take_all, take-suc, length-take-le, append_snoc}
use Rattle.system.specs.System.{System}
use Rattle.std.specs.Prelude.{None}
use Rattle.reader.specs.Book.{system_of}
use Rattle.redexes.specs.search.Redexes.{redex_of}
use Rattle.machine.specs.declared.advance.Event.{Event}
use Rattle.machine.specs.declared.advance.Event.TheVariants.{End, Repeated, Rules, Argument}
use Rattle.rewriting.specs.Machine.{strategy_at, position, advance}
use Rattle.rewriting.specs.Opened.{Opened}
use Rattle.rows.specs.declared.gap.Gap.{Gap}
use Rattle.rows.specs.Rows.{term_in}
use Rattle.rows.specs.Measured.{Measured}
use Rattle.system.specs.Signature.{signature_of}
use Rattle.layout.proofs.Books.{signature}
use Rattle.machine.specs.advance.Area.{outer_in, count_in, Stands, Valid, Tracks}
use Rattle.machine.specs.advance.Transition as to
use Rattle.machine.specs.advance.Transition.{since_at, Transition, counts_after}
use Rattle.rewriting.proofs.Laws.{entry_at}
use Rattle.layout.proofs.entries.Asks.{stood}
use Rattle.machine.proofs.advance.Skipping.{Skips, Skipped, skipped-start, skipped-again, skipped-more, skipped-open, skipped-left}
use Rattle.machine.proofs.advance.Measure.{remaining, less-end, less-entry, less-argument}
use Rattle.machine.proofs.advance.Advances.{advance-pop, advance-pass, advance-open}
use Rattle.machine.proofs.advance.Areas.{held-outer, held-count, tracks-frame}
use Rattle.machine.proofs.advance.Bounds.{Bounds, bounds}
use Rattle.machine.proofs.advance.Transitions.{Entered, entered_by}
use Rattle.machine.proofs.advance.Trying.{tried-none}
use Rattle.machine.proofs.advance.Rounds.{remaining_in, Round, Goes}

module _ (τ : Round) where
  abbrev s : System
  s = system_of τ.book

  abbrev base : ℕ
  base = τ.base

  abbrev gap : Gap
  gap = τ.state.gap

  abbrev ws' : List ℕ
  ws' = τ.ws'

  abbrev positions' : List ℕ
  positions' = τ.positions'

  abbrev level : ℕ
  level = τ.level

  abbrev floor : ℕ
  floor = τ.floor

  abbrev since : ℕ
  since = τ.since

  abbrev t : List ℕ
  t = term_in τ.ws gap

  abbrev outer : List ℕ
  outer = outer_in τ.ws level

  abbrev c : ℕ
  c = count_in τ.ws level

  abbrev counts : List ℕ
  counts = outer ++ c ∷ []

  abbrev here : ℕ
  here = position s t outer base

  abbrev entries : List ℕ
  entries = strategy_at s t here

  abbrev f : ℕ
  f = since_at floor since level

  valid : Valid s t base outer c
  valid = τ.kept.held.represents.valid

  levels : length outer ≡ level
  levels = τ.kept.held.represents.levels

  -- what the event tells
  pub told : (e : Event) → τ.event ≡ e → Entered s t base outer f c e
  told e q = entered_by s t base outer f c e (sym τ.performed.event ∙ q)

  -- and what stands in the area where the transition is known
  module _ (o : Transition) (q : to.transition s t base outer f c ≡ o) where
    pub stands : Stands s.arities ws' gap t (counts_after counts o)
    stands = subst (λ y. Stands s.arities ws' gap t (counts_after counts y)) q τ.performed.stands

    pub holds-there : (level' : ℕ) → length (counts_after counts o) ≡ suc level' → Tracks s ws' positions' gap base level'
    holds-there level' l = τ.performed.holds level' (ap (λ y. length (counts_after counts y)) q ∙ l)

  -- ---- to another state

  module _ (outer' : List ℕ) (c' level' : ℕ) (is : Stands s.arities ws' gap t (outer' ++ c' ∷ []))
      (h : Tracks s ws' positions' gap base level') (levels' : length outer' ≡ level') where
    term' : term_in ws' gap ≡ t
    term' = is.term

    outer-is : outer_in ws' level' ≡ outer'
    outer-is = held-outer outer' c' is levels'

    count-is : count_in ws' level' ≡ c'
    count-is = held-count outer' c' is levels'

    moved : (floor' since' : ℕ) → Skipped s t base outer' c' floor' since' → advance s 64 counts t base ≡ advance s 64 (outer' ++ c' ∷ []) t base →
        remaining s t 64 (outer' ++ c' ∷ []) base < remaining s t 64 counts base → Goes τ level' floor' since'
    unfolding remaining_in
    moved floor' since' w e l =
        let counts' : outer_in ws' level' ++ count_in ws' level' ∷ [] ≡ outer' ++ c' ∷ [] = (λ j. outer-is j ++ count-is j ∷ []) in
        record {
          on = record {
            held = tracks-frame h τ.framed;
            term = term' ∙ τ.kept.term;
            same = (λ j. advance s 64 (counts' j) (term' j) base) ∙ sym e ∙ τ.kept.same;
            skipped = rw (term', outer-is, count-is) w;
            kept = τ.performed.kept ∙ τ.kept.kept;
          };
          less = subst₂ (λ y z. remaining s y 64 z base < remaining s t 64 counts base) (sym term') (sym counts') l;
        }

  -- ---- the entry leads to no rewrite

  module _ (more : c < length entries) (is : Stands s.arities ws' gap t (outer ++ suc c ∷ [])) (h : Tracks s ws' positions' gap base level) where
    over-it : Skips s t (63 - length outer) here (get_or entries c 0) → Goes τ level floor since
    over-it w =
        let z : 63 - length outer ≡ 64 - suc (length outer) = omega arith in
        moved outer (suc c) level is h levels floor since (skipped-more s t base outer c floor since τ.kept.skipped more w)
        (advance-pass s t 64 base outer c valid.room more (subst (λ l. Skips s t l here (get_or entries c 0)) z w))
        (less-entry s t 64 base outer c valid.room (get_or entries c 0) (drop (suc c) entries) (entry_at entries c (get_or entries c 0) more refl))

  begun-one : length (outer ++ suc c ∷ []) ≡ suc level
  begun-one = rw (length-append outer (suc c ∷ [])) (omega (arith, levels))

  -- it is repeated
  pub goes-repeated : τ.event ≡ Repeated → Goes τ level floor since
  goes-repeated e =
      let x = told Repeated e in
      let o = to.repeated outer (suc c) in
      let w : stood entries (since_at floor since (length outer)) c ≡ true = subst (λ y. stood entries (since_at floor since y) c ≡ true) (sym levels) x.1 in
      over-it x.0 (stands o x.2) (holds-there o x.2 level begun-one) (skipped-again s t base outer c floor since τ.kept.skipped w)

  -- ---- the strategy is at its end: the level is left

  module _ (e : τ.event ≡ End) (h : 0 < level) where
    -- the levels around the next one, and its count
    abbrev below : ℕ
    below = level - 1

    abbrev ds : List ℕ
    ds = take below outer

    abbrev d : ℕ
    d = get_or outer below 0

    snoc : outer ≡ ds ++ d ∷ []
    snoc = let z : level ≡ suc below = omega arith in sym (take_all (suc below) outer (omega (arith, levels))) ∙ take-suc outer below 0 (omega (arith, levels))

    depth : length ds ≡ below
    depth = length-take-le below outer (omega (arith, levels))

    left_is : Stands s.arities ws' gap t (ds ++ d ∷ [])
    left_is = subst (Stands s.arities ws' gap t) snoc (stands (to.end outer) (told End e).1)

    left-to : (floor' since' : ℕ) → Skipped s t base ds d floor' since' → Goes τ below floor' since'
    left-to floor' since' w =
        let x = told End e in
        moved ds d below left_is (holds-there (to.end outer) x.1 below (omega (arith, levels))) depth floor' since' w
        (advance-pop s t 64 base outer c valid.room x.0 ∙ ap (λ y. advance s 64 y t base) snoc)
        (subst (λ y. remaining s t 64 y base < remaining s t 64 counts base) snoc (less-end s t 64 base outer c valid.room x.0))

    -- one that was opened in this run of transitions
    pub goes_left : floor ≤ level - 1 → Goes τ (level - 1) floor since
    goes_left l =
        let past : length (strategy_at s t (position s t (ds ++ d ∷ []) base)) ≤ c = subst (λ y. length (strategy_at s t (position s t y base)) ≤ c) snoc (told End e).0 in
        left-to floor since
        (skipped-left s t base ds d c floor since (subst (λ y. Skipped s t base y c floor since) snoc τ.kept.skipped) (subst (Opened s t base) snoc valid.opened)
        (let z = valid.room in omega (arith, depth, levels)) (omega (arith, depth)) past)

    -- one that was open before
    pub goes_down : (since' : ℕ) → since' ≡ count_in ws' (level - 1) → Goes τ (level - 1) (level - 1) since'
    goes_down since' e' =
        let q : since' ≡ d = e' ∙ held-count ds d left_is depth in
        left-to below since' (subst (λ y. Skipped s t base ds d below y) (sym q) (skipped-start s t base ds d below (sym depth)))

  -- ---- an argument is opened

  pub goes-argument : τ.event ≡ Argument → Goes τ (level + 1) floor since
  goes-argument e =
      let x = told Argument e in
      let inner = outer ++ suc c ∷ [] in
      let o = to.argument inner in
      let d : length inner ≡ level + 1 = begun-one ∙ omega arith in
      let d' : length (inner ++ 0 ∷ []) ≡ suc (level + 1) = rw (length-append inner (0 ∷ [])) (omega arith) in
      let next-entry = entry_at entries c (suc x.0) x.1 x.2 in
      moved inner 0 (level + 1) (stands o x.3) (holds-there o x.3 (level + 1) d') d floor since (skipped-open s t base outer c floor since τ.kept.skipped)
      (advance-open s t 64 base outer c valid.room x.1 x.0 x.2)
      (rw (append_snoc outer (suc c) (0 ∷ [])) (less-argument s t 64 base outer c valid.room (drop (suc c) entries) x.0 next-entry))

  -- ---- the rules are to be tried

  module _ (e : τ.event ≡ Rules) where
    pub tries-is : Stands s.arities ws' gap t (outer ++ suc c ∷ [])
    tries-is = stands (to.rules outer (suc c)) (told Rules e).2

    pub tries-held : Tracks s ws' positions' gap base level
    tries-held = holds-there (to.rules outer (suc c)) (told Rules e).2 level begun-one

    pub rules-bounds : Bounds ws' positions' gap base level
    rules-bounds = bounds τ.book τ.shape τ.accepted ws' positions' gap base level tries-held

    pub rules-measured : Measured (signature_of τ.book) ws' gap
    rules-measured = subst (λ y. Measured y ws' gap) (signature τ.book τ.shape τ.accepted) tries-held.represents.measured

    abbrev p : ℕ
    p = get_or positions' level 0

    -- the subterm there is the one here
    pub same-subterm : drop (position s (term_in ws' gap) (outer_in ws' level) base) (term_in ws' gap) ≡ drop here t
    same-subterm =
        let et = term' outer (suc c) level tries-is tries-held levels in
        let eo = outer-is outer (suc c) level tries-is tries-held levels in
        λ j. drop (position s (et j) (eo j) base) (et j)

    -- none matches
    pub goes-rules : redex_of s (drop p (term_in ws' gap)) ≡ None → Goes τ level floor since
    goes-rules is =
        let x = told Rules e in
        let no = tried-none τ.book τ.shape τ.accepted ws' positions' gap base level tries-held is in
        over-it x.0 tries-is tries-held (subst (Skips s t (63 - length outer) here) (sym x.1) (rw same-subterm at no))
