-- Down to a position, as long as each argument on the way stands in the strategy: a turn of the loop of `walk::descend`, and its ends.
use Prim.Native.Nat.{ℕ, suc, ◌+◌, ◌≤◌, ◌<◌}
use native.Mathlib.Omega.{arith}
use mathlib.Core.Path.{◌≡◌, sym, ap, ◌∙◌, subst}
use mathlib.Core.Bool.{Bool, true, false}
use mathlib.Core.List.{List}
use lib.ListN.{get_or, set}
use Rattle.reader.specs.declared.book.Book.{Book}
use Rattle.reader.specs.Book.{system_of}
use Rattle.system.specs.Limits.{max_arity}
use Rattle.system.specs.System.{System, strategy}
use Rattle.system.specs.Terms.{Member, WellFormed, among}
use Rattle.layout.proofs.Books.{well}
use Rattle.layout.proofs.entries.Repeats.{among-member, member-among}
use Rattle.rows.specs.Rows.{counts_at, term_in}
use Rattle.walks.specs.declared.walk.Argument.{Argument}
use Rattle.walks.specs.declared.walk.Finger.{Finger}
use Rattle.walks.specs.walk.Descent.{Above, Held}
use Rattle.walks.specs.walk.Way.{Over, At, Missed}
use Rattle.walks.proofs.Arguments.{argument-behind}
use Rattle.walks.proofs.Descent.{above-here, above-out, above_down}
use Rattle.walks.proofs.walk.Pointing.{Bounds, points-bounds, points-down}

module _ (book : Book) {t ws : List ℕ} {f : Finger} {q : ℕ} (v : Over (system_of book.words.now) t ws f q) where
  pub descent-bounds : Bounds ws f
  descent-bounds = points-bounds (system_of book.words.now) (well book.words.now book.shape book.accepted) v.points

  -- the same of the term as the area holds it
  pub over-in : Over (system_of book.words.now) (term_in ws f.gap) ws f q
  over-in = subst (λ y. Over (system_of book.words.now) y ws f q) (sym v.points.term) v

  -- the walk has come to q
  pub descended : q ≤ f.at → At (system_of book.words.now) t ws q f
  descended h =
      let e : f.at ≡ q = (let z = v.above.low in omega arith) in
      let x = above-here (system_of book.words.now) (well book.words.now book.shape book.accepted) v.points.whole q (subst (λ p. Above (system_of book.words.now) t p q) e v.above) in
      record { points = v.points; here = e; active = x }

-- a turn of the loop, where it has not: the argument that holds q, and whether it stands in the strategy
pub record Turn : Type 0 where
  pub book : Book
  pub t : List ℕ
  pub ws : List ℕ
  pub f : Finger
  pub q : ℕ
  pub over : Over (system_of book.words.now) t ws f q
  pub lower : f.at < q
  pub a : Argument
  pub held : Held (system_of book.words.now) (term_in ws f.gap) f.at q a
  pub word : ℕ
  pub reads : word ≡ get_or (term_in ws f.gap) f.at 0
  pub stands : Bool
  pub asked : stands ≡ among (a.number + 1) (strategy (system_of book.words.now) word)

module _ (τ : Turn) where
  abbrev s : System
  s = system_of τ.book.words.now

  abbrev t : List ℕ
  t = τ.t

  abbrev p : ℕ
  p = τ.f.at

  abbrev q : ℕ
  q = τ.q

  abbrev a : Argument
  a = τ.a

  wf : WellFormed s
  wf = well τ.book.words.now τ.book.shape τ.book.accepted

  pub turn-bounds : Bounds τ.ws τ.f
  turn-bounds = descent-bounds τ.book τ.over

  here : Held s t p q a
  here = subst (λ y. Held s y p q a) τ.over.points.term τ.held

  -- the argument starts behind its symbol, and not behind q
  pub argument-ends : (p < a.start) × (a.start ≤ q)
  argument-ends =
      let e = here.start in
      (omega (arith, argument-behind s.arities t p a.number), let z = here.from.low in omega arith)

  entry : among (suc a.number) (strategy s (get_or t p 0)) ≡ τ.stands
  entry =
      let z : suc a.number ≡ a.number + 1 = omega arith in
      let w : get_or t p 0 ≡ τ.word = ap (λ y. get_or y p 0) (sym τ.over.points.term) ∙ sym τ.reads in
      (λ i. among (z i) (strategy s (w i))) ∙ sym τ.asked

  -- it does not: the position is not active, and the walk ends before it
  pub descent-stops : τ.stands ≡ false → Missed s t τ.ws q τ.f
  descent-stops n =
      record {
        points = τ.over.points;
        elsewhere = λ e. let l = τ.lower in omega arith;
        inactive = above-out s wf τ.over.points.whole here.from here.high out;
      }
    where
      out : Member (suc a.number) (strategy s (get_or t p 0)) → ⊥
      out m = let x : true ≡ false = sym (member-among m) ∙ entry ∙ n in let z : ◌≡◌ {A = ℕ} 0 1 = cc in omega arith

  -- it does: on from there
  pub descends : τ.stands ≡ true → Over s t (set τ.ws (counts_at + τ.f.level) p) (record { gap = τ.f.gap; level = τ.f.level + 1; at = a.start }) q
  descends y =
      let m : Member (suc a.number) (strategy s (get_or t p 0)) = among-member (suc a.number) _ (entry ∙ y) in
      record {
        points = points-down s wf τ.over.points a.number a.start m here.start;
        above = subst (λ p. Above s t p q) (sym here.start) (above_down s here.from here.high m);
      }

-- so that one more fits a number
pub few-arguments : (book : Book) {t : List ℕ} {p q : ℕ} {a : Argument} → Held (system_of book.words.now) t p q a → a.number < max_arity
few-arguments book {t} {p} h =
    let z = h.from.known in
    omega (arith, (well book.words.now book.shape book.accepted).arity_bound (get_or t p 0))
