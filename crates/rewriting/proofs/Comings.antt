-- Where the machine comes to from a state, in the subterm at a position: the levels that it opened, and that it comes there again from the same levels
-- with the last 0 not begun. So a run that waits before a step may be gone on with by another run; and a run changes nothing outside its subterm.
use Prim.Native.Nat.{ℕ, zero, suc, ◌+◌, ◌-◌, ◌<◌}
use native.Mathlib.Omega.{arith}
use mathlib.Core.Path.{◌≡◌, refl, sym, ap, ◌∙◌, subst, subst₂}
use mathlib.Core.Option.{Option, none, some}
use mathlib.Core.List.{List, [], ◌∷◌, ◌++◌, append_assoc, append-nil, flatten}
use lib.ListN.{length, get_or, take, drop, length-drop}
use lib.Seq.{drop-append_seam}
use Rattle.system.specs.Limits.{levels}
use Rattle.system.specs.Signature.{Signature, Symbol, span, arity, argument, replace}
use Rattle.system.specs.System.{System}
use Rattle.system.specs.Terms.{Member, Whole, WellFormed}
use Rattle.system.specs.Spans.{spans}
use Rattle.system.proofs.Members.{member-get_or}
use Rattle.system.proofs.Forests.{focus-here, as-node, span-forest}
use Rattle.system.proofs.Places.{patch, at-replace, at-argument, at_head}
use Rattle.matching.specs.Matching.{Contraction, contraction, FirstMatch}
use Rattle.matching.proofs.Firsts.{contraction-rest, fired}
use Rattle.rewriting.specs.Evaluation.{Limits, Config, stepped}
use Rattle.rewriting.specs.Machine.{strategy_at, down, position, Next, final, deep, ready, around, scan, enter, advance}
use Rattle.rewriting.specs.Opened.{Opened, base, level}
use Rattle.rewriting.specs.Ways.{raise, Way, every_argument}
use Rattle.rewriting.specs.Runs.{Came, ended, sunk, barred, waits, config_of, come, run, onward, unbegun, again, Enclosed}
use Rattle.rewriting.proofs.Actives.{At, at_parted}
use Rattle.rewriting.proofs.Done.{whole-within}
use Rattle.rewriting.proofs.Laws.{next-entry}
use Rattle.rewriting.proofs.OpenLevels.{opened-at, opened-replace}
use Rattle.rewriting.proofs.Reached.{scan-pass, scan-fire}
use Rattle.rewriting.proofs.WayRows.{way-spans-rewrite}
use Rattle.rewriting.proofs.Everywhere.{every-formed}
use Rattle.rewriting.proofs.Runs.{tests-cases, come-final, come-deep, come-waits, come-steps, run_is, run_more}

module _ (s : System) (t : List ℕ) where
  -- a state: each level but the innermost one is open at an argument
  pub data Open : ℕ → List ℕ → Type 0 where
    inmost : {p c : ℕ} → Open p (c ∷ [])
    further : {p c i : ℕ} {cs : List ℕ} → c < length (strategy_at s t p) → get_or (strategy_at s t p) c 0 ≡ suc i → Open (down s t p (suc c)) cs → Open p (suc c ∷ cs)

  pub open-state : {p : ℕ} {outer : List ℕ} → Opened s t p outer → (c : ℕ) → Open p (outer ++ c ∷ [])
  open-state base c = inmost
  open-state (level h e o) c = further h e (open-state o c)

  -- what is known where the machine came to
  abbrev pub Stood : ℕ → ℕ → Next → Type 0
  Stood l p final = Unit {0}
  Stood l p deep = Unit {0}
  Stood l p (ready outer d x) =
      Opened s t p outer × (contraction s (drop (position s t outer p) t) ≡ some x) × (advance s l (unbegun outer d) t p ≡ ready outer d x)

  stood-around : (l c p i : ℕ) (n on : Next) → c < length (strategy_at s t p) → get_or (strategy_at s t p) c 0 ≡ suc i → Stood l (down s t p (suc c)) n →
      Stood (suc l) p on → Stood (suc l) p (around (suc c) n on)
  unfolding position advance
  stood-around l c p i final on h e k m = m
  stood-around l c p i deep on h e k m = tt
  stood-around l c p i (ready cs d x) on h e k m =
      (level h e k.0, k.1, ap (λ y. around (suc c) y (scan s (enter s l t) t (drop (suc c) (strategy_at s t p)) (suc c) p)) k.2)

  stood-scan : (l : ℕ) → ((q : ℕ) → Stood l q (enter s l t q)) → (p : ℕ) (es : List ℕ) (c : ℕ) → drop c (strategy_at s t p) ≡ es →
      Stood (suc l) p (scan s (λ q. enter s l t q) t es c p)
  unfolding scan down position advance
  stood-scan l h p [] c q = tt
  stood-scan l h p (zero ∷ es) c q = go (contraction s (drop p t)) refl (stood-scan l h p es (suc c) (next-entry _ c 0 es q).1)
    where
      inner : ℕ → Next
      inner = λ q. enter s l t q

      go : (o : Option Contraction) → contraction s (drop p t) ≡ o → Stood (suc l) p (scan s inner t es (suc c) p) → Stood (suc l) p (scan s inner t (0 ∷ es) c p)
      go none f ih = subst (Stood (suc l) p) (sym (scan-pass s inner t es c p f)) ih
      go (some x) f ih =
          let z : suc c - 1 ≡ c = omega arith in
          subst (Stood (suc l) p) (sym (scan-fire s inner t es c p x f))
          (base, f, ap (λ y. advance s (suc l) (y ∷ []) t p) z ∙ ap (λ y. scan s inner t y c p) q ∙ scan-fire s inner t es c p x f)
  stood-scan l h p (suc i ∷ es) c q =
      let n = next-entry _ c (suc i) es q in
      let on = scan s (λ q. enter s l t q) t es (suc c) p in
      let m : c < length (strategy_at s t p) = (let z = ap length q in let y = length-drop c (strategy_at s t p) in omega arith) in
      stood-around l c p i (enter s l t (argument s.arities t p i)) on m n.0 (rw n.0 (h (argument s.arities t p i))) (stood-scan l h p es (suc c) n.1)

  stood-enter : (l q : ℕ) → Stood l q (enter s l t q)
  unfolding enter
  stood-enter zero q = tt
  stood-enter (suc l) q = stood-scan l (stood-enter l) q (strategy_at s t q) 0 refl

  pub stood : (l : ℕ) (cs : List ℕ) (p : ℕ) → Open p cs → Stood l p (advance s l cs t p)
  unfolding advance
  stood zero [] p o = elim o [ ]
  stood (suc l) [] p o = elim o [ ]
  stood zero (c ∷ cs) p o = tt
  stood (suc l) (c ∷ []) p inmost = stood-scan l (stood-enter l) p (drop c (strategy_at s t p)) c refl
  stood (suc l) (suc c ∷ cs) p (further {i} h e o) =
      stood-around l c p i (advance s l cs t (down s t p (suc c))) (scan s (enter s l t) t (drop (suc c) (strategy_at s t p)) (suc c) p) h e
      (stood l cs (down s t p (suc c)) o) (stood-scan l (stood-enter l) p (drop (suc c) (strategy_at s t p)) (suc c) refl)

-- ---- from where a run waits, another one goes on

pub waits-again : (s : System) (limits : Limits) (p n : ℕ) (outer : List ℕ) (c : ℕ) (x : Contraction) (r : Config) → Stood s r.term levels p (ready outer c x) →
    run s limits p n (unbegun outer c) r ≡ onward s limits p n (waits outer c x r)
waits-again s limits p n outer c x r k = run_is s limits p n (unbegun outer c) r ∙ ap (λ z. come s limits p n z r) k.2

-- ---- a run changes nothing outside the subterm at its position

module _ (s : System) (wf : WellFormed s) where
  abbrev g : Signature
  g = s.arities

  -- a whole term put in the place of the subterm below open levels
  pub opened-between : (t : List ℕ) {p : ℕ} {cs : List ℕ} → Opened s t p cs → (a u b : List ℕ) → t ≡ a ++ (u ++ b) → p ≡ length a → Whole g u →
      (v : List ℕ) → Whole g v → Enclosed g a b (replace g t (position s t cs p) v)
  unfolding position down
  opened-between t base a u b e q h v hv = record {
    part = v;
    whole = hv;
    equal = (λ j. replace g (e j) (q j) v) ∙ at-replace g (Symbol g) a b v h;
  }
  opened-between t (level {p} {c} {i} {cs} l d o) a u b e q h v hv =
      let k = as-node g h in
      let w = k.symbol in
      let us = k.parts in
      let st : Member (suc i) (strategy_at s t p) = rw d at (member-get_or (strategy_at s t p) c l) in
      let first : get_or t p 0 ≡ w = (λ j. get_or (e j) (q j) 0) ∙ at_head g (Symbol g) a b h ∙ ap (λ y. get_or y 0 0) k.equal in
      let m : i < length us = (let z = wf.entry_bound (get_or t p 0) (suc i) st in let y = k.node.count in let x = ap (arity g) first in omega arith) in
      let a₁ = a ++ w ∷ flatten (take i us) in
      let b₁ = flatten (drop (suc i) us) ++ b in
      let e' : t ≡ a ++ ((w ∷ flatten us) ++ b) = e ∙ ap (λ y. a ++ (y ++ b)) k.equal in
      let e₁ : t ≡ a₁ ++ (get_or us i [] ++ b₁) = e' ∙ focus-here a b w us i m in
      let q₁ : argument g t p i ≡ length a₁ = (λ j. argument g (e' j) (q j) i) ∙ at-argument g (Symbol g) a b w us i m k.node.wholes in
      let y = opened-between t o a₁ (get_or us i []) b₁ e₁ (rw d q₁) (k.node.wholes i m) v hv in
      let a₂ = w ∷ flatten (take i us) in
      let b₂ = flatten (drop (suc i) us) ++ [] in
      let f : w ∷ flatten us ≡ a₂ ++ (get_or us i [] ++ b₂) = rw (append-nil (w ∷ flatten us)) at (focus-here [] [] w us i m) in
      record {
        part = a₂ ++ (y.part ++ b₂);
        whole = patch g (Symbol g) a₂ b₂ (subst (Whole g) (k.equal ∙ f) h) (k.node.wholes i m) y.whole;
        equal = y.equal ∙ nest a a₂ y.part (flatten (drop (suc i) us)) b;
      }
    where
      nest : (a c u d b : List ℕ) → (a ++ c) ++ (u ++ (d ++ b)) ≡ a ++ ((c ++ (u ++ (d ++ []))) ++ b)
      nest a c u d b = simp (append-nil, append_assoc)

  -- the first rule that matches at a whole subterm
  pub first-at : {t : List ℕ} {p : ℕ} → At s (λ _. Unit {0}) t p → (x : Contraction) → contraction s (drop p t) ≡ some x → FirstMatch s t p x
  first-at {t} {p} y x f =
      let e : contraction s (drop p t) ≡ contraction s y.here = ap (contraction s) (at_parted s y) ∙ contraction-rest s wf y.whole y.behind in
      subst₂ (λ t p. FirstMatch s t p x) (sym y.equal) (sym y.position) (fired s wf y.whole y.before y.behind x (sym e ∙ f))

  pub at-within : {t : List ℕ} {p : ℕ} → At s (λ _. Unit {0}) t p → p < length t
  at-within y =
      let m = subst (λ z. length y.before < length z) (sym y.equal) (whole-within s y.before y.behind y.whole) in
      omega (arith, y.position)

  module _ (limits : Limits) (a b : List ℕ) where
    abbrev p : ℕ
    p = length a

    -- where a run waits before a step, what is known there
    abbrev pub Waiting : Came → Type 0
    Waiting (ended r) = Unit {0}
    Waiting (sunk r) = Unit {0}
    Waiting (barred l outer c x r) = Unit {0}
    Waiting (waits outer c x r) = Stood s r.term levels p (ready outer c x)

    abbrev There : Came → Type 0
    There o = Enclosed g a b (config_of o).term × Waiting o

    -- a step below open levels
    module _ (outer : List ℕ) (c : ℕ) (x : Contraction) (r : Config) (h : Enclosed g a b r.term) (k : Stood s r.term levels p (ready outer c x)) where
      abbrev t : List ℕ
      t = r.term

      abbrev q : ℕ
      q = position s t outer p

      here : At s (λ _. Unit {0}) t p
      here = record { before = a; here = h.part; behind = b; equal = h.equal; position = refl; whole = h.whole; has = tt }

      there : At s (λ _. Unit {0}) t q
      there = opened-at s t wf here k.0

      pub step-between : Enclosed g a b (stepped s q r x).term
      step-between = opened-between t k.0 a h.part b h.equal refl h.whole x.reduct (first-at there x k.1).left

      pub step-stood : Stood s (stepped s q r x).term levels p (advance s levels (outer ++ 0 ∷ []) (stepped s q r x).term p)
      step-stood =
          stood s (stepped s q r x).term levels (outer ++ 0 ∷ []) p
          (open-state s (stepped s q r x).term (opened-replace s t x.reduct q k.0 (omega arith) (at-within there)).0 0)

    come-between : (k : ℕ) (n : Next) (r : Config) → Enclosed g a b r.term → Stood s r.term levels p n → There (come s limits p k n r)
    come-between zero n r h m = go n m
      where
        go : (n : Next) → Stood s r.term levels p n → There (come s limits p 0 n r)
        go final m = subst There (sym (come-final s limits p 0 r)) (h, tt)
        go deep m = subst There (sym (come-deep s limits p 0 r)) (h, tt)
        go (ready outer c x) m =
            let q = position s r.term outer p in
            let on = waits outer c x r in
            subst There (sym (come-waits s limits p outer c x r)) (tests-cases s limits outer c x r There q on (λ l b. (h, tt)) (λ f. (h, m)))
    come-between (suc k) n r h m = go n m (λ n r. come-between k n r)
      where
        go : (n : Next) → Stood s r.term levels p n →
            ((n : Next) (r : Config) → Enclosed g a b r.term → Stood s r.term levels p n → There (come s limits p k n r)) → There (come s limits p (suc k) n r)
        go final m ih = subst There (sym (come-final s limits p (suc k) r)) (h, tt)
        go deep m ih = subst There (sym (come-deep s limits p (suc k) r)) (h, tt)
        go (ready outer c x) m ih =
            let q = position s r.term outer p in
            let r₁ = stepped s q r x in
            let on = run s limits p k (outer ++ 0 ∷ []) r₁ in
            let then : There on = subst There (sym (run_is s limits p k (outer ++ 0 ∷ []) r₁))
            (ih (advance s levels (outer ++ 0 ∷ []) r₁.term p) r₁ (step-between outer c x r h m) (step-stood outer c x r h m)) in
            subst There (sym (come-steps s limits p outer c x r k)) (tests-cases s limits outer c x r There q on (λ l b. (h, tt)) (λ f. then))

    run-there : (k : ℕ) (outer : List ℕ) (c : ℕ) (r : Config) → Enclosed g a b r.term → Opened s r.term p outer → There (run s limits p k (outer ++ c ∷ []) r)
    run-there k outer c r h o =
        subst There (sym (run_is s limits p k (outer ++ c ∷ []) r))
        (come-between k (advance s levels (outer ++ c ∷ []) r.term p) r h (stood s r.term levels (outer ++ c ∷ []) p (open-state s r.term o c)))

    -- the law: whatever k, from the start of the subterm or from any state in it
    pub run-between : (k : ℕ) (outer : List ℕ) (c : ℕ) (r : Config) → Enclosed g a b r.term → Opened s r.term p outer →
        Enclosed g a b (config_of (run s limits p k (outer ++ c ∷ []) r)).term
    run-between k outer c r h o = (run-there k outer c r h o).0

    -- "but the lengths on the way to it": beside the words before and behind the subterm stand the lengths that stood there, but for the symbols on the
    -- way ps to it, whose lengths are those less the words that the subterm had and more those that it has
    pub run-lengths : (k : ℕ) (outer : List ℕ) (c : ℕ) (r : Config) (h : Enclosed g a b r.term) → Whole g r.term →
        {ps : List ℕ} → Way (every_argument s) r.term ps p → (y : Enclosed g a b (config_of (run s limits p k (outer ++ c ∷ []) r)).term) →
        spans g (config_of (run s limits p k (outer ++ c ∷ []) r)).term
        ≡ raise ps (length h.part) (length y.part) (take p (spans g r.term)) ++ (spans g y.part ++ drop (p + length h.part) (spans g r.term))
    run-lengths k outer c r h w {ps} way y =
        let v = y.part in
        let t = r.term in
        let width : span g (drop p t) 1 ≡ length h.part =
        ap (λ z. span g (drop p z) 1) h.equal ∙ ap (λ z. span g z 1) (drop-append_seam a (h.part ++ b)) ∙ span-forest g (Symbol g) b h.whole in
        let same : replace g t p v ≡ (config_of (run s limits p k (outer ++ c ∷ []) r)).term =
        ap (λ z. replace g z p v) h.equal ∙ at-replace g (Symbol g) a b v h.whole ∙ sym y.equal in
        ap (spans g) (sym same) ∙ way-spans-rewrite (every_argument s) (every-formed s wf) w way v y.whole
        ∙ ap (λ n. raise ps n (length v) (take p (spans g t)) ++ (spans g v ++ drop (p + n) (spans g t))) width

    -- and m + n steps are m steps, and then n steps from the state that the first run left, its last 0 not begun
    onward-again : (n : ℕ) (o : Came) → Waiting o → onward s limits p n o ≡ again s limits p n o
    unfolding again
    onward-again n (ended r) k = refl
    onward-again n (sunk r) k = refl
    onward-again n (barred l outer c x r) k = refl
    onward-again n (waits outer c x r) k = sym (waits-again s limits p n outer c x r k)

    pub run-again : (m n : ℕ) (outer : List ℕ) (c : ℕ) (r : Config) → Enclosed g a b r.term → Opened s r.term p outer →
        run s limits p (m + n) (outer ++ c ∷ []) r ≡ again s limits p n (run s limits p m (outer ++ c ∷ []) r)
    run-again m n outer c r h o =
        run_more s limits p m n (outer ++ c ∷ []) r ∙ onward-again n (run s limits p m (outer ++ c ∷ []) r) (run-there m outer c r h o).1
