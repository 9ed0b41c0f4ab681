-- The lengths after a rewrite: those before the position stay, but for the symbols on the way to it, which grow by the difference; the reduct has
-- its own; those behind it stay.
use Prim.Native.Nat.{ℕ, suc, ◌+◌, ◌-◌, ◌<◌}
use native.Mathlib.Nat.{zero-add}
use native.Mathlib.Omega.{arith}
use mathlib.Core.Path.{◌≡◌, refl, sym, ap, ◌∙◌, subst}
use mathlib.Core.List.{List, [], ◌∷◌, ◌++◌, append_assoc, append-nil, flatten}
use lib.ListN.{length, get_or, set, take, drop, length-append}
use lib.Seq.{set-get_or, set_at, get_or_at, take_at, drop_at, length-take-le}
use Rattle.system.specs.Signature.{Signature, Symbol, span, argument, replace}
use Rattle.system.specs.System.{System}
use Rattle.system.specs.Terms.{Whole, Member, WellFormed}
use Rattle.system.proofs.Forests.{Node, node-whole, node-set, flatten-set, forest-take, span-forest}
use Rattle.system.proofs.Members.{member-get_or}
use Rattle.system.proofs.Places.{at-replace}
use Rattle.rewriting.specs.Rewriting.{root}
use Rattle.rewriting.specs.Machine.{others, strategy_at, down, position}
use Rattle.rewriting.specs.Opened.{Opened, base, level}
use Rattle.rewriting.specs.Ways.{raise}
use Rattle.rewriting.specs.levels.Lengths.{above}
use Rattle.system.specs.Spans.{spans}
use Rattle.system.proofs.Spans.{spans-length, spans-append}
use Rattle.rewriting.proofs.Raises.{raise-none, raise-more, raise-length}
use Rattle.rewriting.proofs.Aboves.{above-none, above_more}
use Rattle.rewriting.proofs.Below.{below_of}
use Rattle.rewriting.proofs.Contractions.{active-within}
use Rattle.rewriting.proofs.OpenLevels.{opened-active}

module _ (s : System) (wf : WellFormed s) where
  abbrev g : Signature
  g = s.arities

  -- the row with v in the place of `here`, where the row before is `front`, that of `here`, and `tail`. `rows` stands for what is before it
  record Change (t a cs before here behind front tail v : List ℕ) : Type 0 where
    raised : List ℕ
    whole : Whole g (before ++ (v ++ behind))
    row : spans g (before ++ (v ++ behind)) ≡ raised ++ (spans g v ++ tail)
    equal : (rows : List ℕ) → length rows ≡ length a → rows ++ raised ≡ raise (above s t cs (length a)) (length here) (length v) (rows ++ front)

  -- the subterm at the position below the levels cs, within u, which stands behind a; and what a change there does to the row of u
  record Edit (t a u cs : List ℕ) : Type 0 where
    before : List ℕ
    here : List ℕ
    behind : List ℕ
    equal : u ≡ before ++ (here ++ behind)
    whole : Whole g here
    at : position s t cs (length a) ≡ length a + length before
    front : List ℕ
    tail : List ℕ
    fronts : length front ≡ length before
    row : spans g u ≡ front ++ (spans g here ++ tail)
    change : (v : List ℕ) → Whole g v → Change t a cs before here behind front tail v

  -- ---- one level

  -- the row of a symbol over its parts, of which the one with i others before it is y
  node-spans : (w : ℕ) (us : List (List ℕ)) (i : ℕ) (y : List ℕ) → Node g w us → i < length us → Whole g y →
      let f = flatten (take i us) in let r = flatten (drop (suc i) us) in
      spans g (w ∷ flatten (set us i y)) ≡ suc (length f + (length y + length r)) ∷ (spans g f ++ (spans g y ++ spans g r))
  unfolding spans
  node-spans w us i y d m h =
      let f = flatten (take i us) in
      let r = flatten (drop (suc i) us) in
      let k = node-whole g w (set us i y) (node-set g w us i y d h) in
      let e : flatten (set us i y) ≡ f ++ (y ++ r) = flatten-set us i y m in
      let n : span g (w ∷ flatten (set us i y)) 1 ≡ suc (length f + (length y + length r)) =
      ap (λ z. span g z 1) (sym (append-nil (w ∷ flatten (set us i y)))) ∙ span-forest g (Symbol g) [] k
      ∙ ap suc (ap length e ∙ length-append f (y ++ r) ∙ ap (λ z. length f + z) (length-append y r)) in
      let q : spans g (flatten (set us i y)) ≡ spans g f ++ (spans g y ++ spans g r) =
      ap (spans g) e ∙ spans-append g (y ++ r) (forest-take g (Symbol g) us i (omega arith) d.wholes) ∙ ap (λ z. spans g f ++ z) (spans-append g r h) in
      (λ j. n j ∷ q j)

  -- the words of a part in its surroundings
  assemble : (w : ℕ) (us : List (List ℕ)) (i : ℕ) (x v z : List ℕ) → i < length us →
      (w ∷ (flatten (take i us) ++ x)) ++ (v ++ (z ++ flatten (drop (suc i) us))) ≡ w ∷ flatten (set us i (x ++ (v ++ z)))
  assemble w us i x v z m = simp (flatten-set us i (x ++ (v ++ z)) m, append_assoc)

  seam : (x y z tail r : List ℕ) → x ++ ((y ++ (z ++ tail)) ++ r) ≡ (x ++ y) ++ (z ++ (tail ++ r))
  seam x y z tail r = simp append_assoc

  module _ (t a : List ℕ) (w : ℕ) (us : List (List ℕ)) (i c : ℕ) (cs : List ℕ) (d : Node g w us) (m : i < length us)
      (q : down s t (length a) c ≡ length (a ++ w ∷ flatten (take i us))) (k : Edit t (a ++ w ∷ flatten (take i us)) (get_or us i []) cs) where
    abbrev f : List ℕ
    f = flatten (take i us)

    abbrev r : List ℕ
    r = flatten (drop (suc i) us)

    -- the number beside the symbol, where the part is y
    abbrev number : List ℕ → ℕ
    number y = suc (length f + (length y + length r))

    abbrev old : List ℕ
    old = get_or us i []

    abbrev new : List ℕ → List ℕ
    new v = k.before ++ (v ++ k.behind)

    grown : (v : List ℕ) → number old - length k.here + length v ≡ number (new v)
    grown v =
        omega (
          arith,
          ap length k.equal,
          length-append k.before (k.here ++ k.behind),
          length-append k.here k.behind,
          length-append k.before (v ++ k.behind),
          length-append v k.behind,
        )

    level-raised : (v : List ℕ) (x : Change t (a ++ w ∷ f) cs k.before k.here k.behind k.front k.tail v) (rows : List ℕ) → length rows ≡ length a →
        rows ++ (number (new v) ∷ (spans g f ++ x.raised))
        ≡ raise (above s t (c ∷ cs) (length a)) (length k.here) (length v) (rows ++ (number old ∷ (spans g f ++ k.front)))
    level-raised v x rows e =
        let de = length k.here in
        let qs = above s t cs (length (a ++ w ∷ f)) in
        let rest = spans g f ++ k.front in
        let rows' = rows ++ number (new v) ∷ spans g f in
        let lr : length rows' ≡ length (a ++ w ∷ f) =
        omega (arith, length-append rows (number (new v) ∷ spans g f), spans-length g f, length-append a (w ∷ f)) in
        let n : get_or (rows ++ number old ∷ rest) (length a) 0 - de + length v ≡ number (new v) =
        ap (λ z. z - de + length v) (get_or_at rows (number old) rest 0 (length a) e) ∙ grown v in
        sym (append_assoc rows (number (new v) ∷ spans g f) x.raised) ∙ x.equal rows' lr
        ∙ ap (raise qs de (length v)) (append_assoc rows (number (new v) ∷ spans g f) k.front)
        ∙ sym (ap (λ z. raise z de (length v) (rows ++ number old ∷ rest)) (above_more s t c cs (length a) ∙ ap (λ z. length a ∷ above s t cs z) q)
        ∙ raise-more de (length v) (length a) qs (rows ++ number old ∷ rest)
        ∙ ap (raise qs de (length v)) (ap (set (rows ++ number old ∷ rest) (length a)) n ∙ set_at rows (number old) rest (number (new v)) (length a) e))

    level-change : (v : List ℕ) → Change t (a ++ w ∷ f) cs k.before k.here k.behind k.front k.tail v →
        Change t a (c ∷ cs) (w ∷ (f ++ k.before)) k.here (k.behind ++ r) (number old ∷ (spans g f ++ k.front)) (k.tail ++ spans g r) v
    level-change v x =
        let words = assemble w us i k.before v k.behind m in
        record {
          raised = number (new v) ∷ (spans g f ++ x.raised);
          whole = subst (Whole g) (sym words) (node-whole g w (set us i (new v)) (node-set g w us i (new v) d x.whole));
          row = ap (spans g) words ∙ node-spans w us i (new v) d m x.whole ∙ ap (λ z. number (new v) ∷ (spans g f ++ (z ++ spans g r))) x.row
              ∙ ap (λ z. number (new v) ∷ z) (seam (spans g f) x.raised (spans g v) k.tail (spans g r));
          equal = level-raised v x;
        }

    edit-level : Edit t a (w ∷ flatten us) (c ∷ cs)
    unfolding position
    edit-level = record {
      before = w ∷ (f ++ k.before);
      here = k.here;
      behind = k.behind ++ r;
      equal = ap (λ z. w ∷ flatten z) (sym (set-get_or us i []) ∙ ap (set us i) k.equal) ∙ sym (assemble w us i k.before k.here k.behind m);
      whole = k.whole;
      at = ap (position s t cs) q ∙ k.at ∙ omega (arith, length-append a (w ∷ f), length-append f k.before);
      front = number old ∷ (spans g f ++ k.front);
      tail = k.tail ++ spans g r;
      fronts = omega (arith, length-append (spans g f) k.front, spans-length g f, k.fronts, length-append f k.before);
      row = ap (λ z. spans g (w ∷ flatten z)) (sym (set-get_or us i [])) ∙ node-spans w us i old d m (d.wholes i m)
          ∙ ap (λ z. number old ∷ (spans g f ++ (z ++ spans g r))) k.row
          ∙ ap (λ z. number old ∷ z) (seam (spans g f) k.front (spans g k.here) k.tail (spans g r));
      change = λ v h. level-change v (k.change v h);
    }

  edit-base : (t a u : List ℕ) → Whole g u → Edit t a u []
  unfolding position
  edit-base t a u h = record {
    before = [];
    here = u;
    behind = [];
    equal = sym (append-nil u);
    whole = h;
    at = omega arith;
    front = [];
    tail = [];
    fronts = refl;
    row = sym (append-nil (spans g u));
    change = λ v hv. record {
      raised = [];
      whole = subst (Whole g) (sym (append-nil v)) hv;
      row = ap (spans g) (append-nil v) ∙ sym (append-nil (spans g v));
      equal = λ rows e. sym (ap (λ z. raise z (length u) (length v) (rows ++ [])) (above-none s t (length a)) ∙ raise-none (length u) (length v) (rows ++ []));
    };
  }

  edit : (t : List ℕ) {p : ℕ} {cs : List ℕ} → Opened s t p cs → (a u b : List ℕ) → t ≡ a ++ (u ++ b) → p ≡ length a → Whole g u → Edit t a u cs
  unfolding down
  edit t base a u b e q h = edit-base t a u h
  edit t (level {p} {c} {i} {cs} l n o) a u b e q h =
      let x = below_of s wf t a u b i e h (subst (λ z. Member (suc i) (strategy_at s t z)) q (rw n at (member-get_or (strategy_at s t p) c l))) in
      let w = x.symbol in
      let us = x.parts in
      let y : down s t p (suc c) ≡ length (a ++ w ∷ flatten (take i us)) = ap (λ z. argument g t p (others z)) n ∙ ap (λ z. argument g t z i) q ∙ x.at in
      let k = edit t o (a ++ w ∷ flatten (take i us)) (get_or us i []) (flatten (drop (suc i) us) ++ b) x.words y (x.node.wholes i x.within) in
      subst (λ z. Edit t a z (suc c ∷ cs)) (sym x.equal) (edit-level t a w us i (suc c) cs x.node x.within (ap (λ z. down s t z (suc c)) (sym q) ∙ y) k)

  -- ---- the row after a rewrite at the position below the open levels cs

  pub spans-rewrite : (t cs v : List ℕ) → Whole g t → Opened s t 0 cs → Whole g v →
      let p = position s t cs 0 in let n = span g (drop p t) 1 in
      spans g (replace g t p v) ≡ raise (above s t cs 0) n (length v) (take p (spans g t)) ++ (spans g v ++ drop (p + n) (spans g t))
  spans-rewrite t cs v h o hv =
      let k = edit t o [] t [] (sym (append-nil t)) refl h in
      let x = k.change v hv in
      let p = position s t cs 0 in
      let de = length k.here in
      let qs = above s t cs 0 in
      let at : length k.before ≡ p = sym (k.at ∙ zero-add (length k.before)) in
      let words : drop p t ≡ k.here ++ k.behind = ap (drop p) k.equal ∙ drop_at k.before (k.here ++ k.behind) p at in
      let n : span g (drop p t) 1 ≡ de = ap (λ z. span g z 1) words ∙ span-forest g (Symbol g) k.behind k.whole in
      let changed : replace g t p v ≡ k.before ++ (v ++ k.behind) =
      (λ j. replace g (k.equal j) (sym at j) v) ∙ at-replace g (Symbol g) k.before k.behind v k.whole in
      let front : k.front ≡ take p (spans g t) = sym (ap (take p) k.row ∙ take_at k.front (spans g k.here ++ k.tail) p (k.fronts ∙ at)) in
      let tail : k.tail ≡ drop (p + de) (spans g t) =
      sym (ap (drop (p + de)) (k.row ∙ sym (append_assoc k.front (spans g k.here) k.tail))
      ∙ drop_at (k.front ++ spans g k.here) k.tail (p + de) (omega (arith, length-append k.front (spans g k.here), k.fronts, spans-length g k.here))) in
      ap (spans g) changed ∙ x.row ∙ (λ j. x.equal [] refl j ++ (spans g v ++ tail j))
      ∙ (λ j. raise qs (sym n j) (length v) (front j) ++ (spans g v ++ drop (p + sym n j) (spans g t)))

  -- before the position
  module _ (t cs v : List ℕ) (h : Whole g t) (o : Opened s t 0 cs) (hv : Whole g v) where
    abbrev p : ℕ
    p = position s t cs 0

    abbrev n : ℕ
    n = span g (drop p t) 1

    raised-length : length (raise (above s t cs 0) n (length v) (take p (spans g t))) ≡ p
    raised-length =
        let l = active-within s wf h (opened-active s t root o) in
        raise-length n (length v) (above s t cs 0) (take p (spans g t)) ∙ length-take-le p (spans g t) (omega (arith, spans-length g t))

    pub spans-front : take p (spans g (replace g t p v)) ≡ raise (above s t cs 0) n (length v) (take p (spans g t))
    spans-front = ap (take p) (spans-rewrite t cs v h o hv) ∙ take_at (raise (above s t cs 0) n (length v) (take p (spans g t))) _ p raised-length
