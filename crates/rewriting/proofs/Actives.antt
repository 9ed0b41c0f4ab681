-- Active positions of a whole term: a whole subterm stands at each, as it does at every index.
use Prim.Native.Nat.{ℕ, zero, suc, ◌≤◌, ◌<◌}
use native.Mathlib.Nat.{le_of_suc-le-suc, not-suc-le-zero}
use native.Mathlib.Omega.{arith}
use mathlib.Core.Path.{◌≡◌, refl, sym, ap, ◌∙◌, subst}
use mathlib.Core.List.{List, [], ◌∷◌, ◌++◌, append-nil, flatten}
use lib.ListN.{length, get_or, take, drop, get_or-append}
use lib.Seq.{drop_at}
use Rattle.system.specs.Signature.{Signature, Symbol, argument, subterm}
use Rattle.system.specs.System.{System, strategy, head}
use Rattle.system.specs.Terms.{Forest, empty, more, Whole, Member, WellFormed}
use Rattle.rewriting.specs.Rewriting.{Active, root, below}
use Rattle.system.proofs.Forests.{split, Wholes, focus-here, Node, as-node}
use Rattle.system.proofs.Places.{argument-front, at_head, at-argument, at-subterm, root-argument}

-- the argument of u with i others before it
abbrev pub argument_of : Signature → List ℕ → ℕ → List ℕ
argument_of g u i = subterm g u (argument g u 0 i)

pub argument_of-at : (g : Signature) (w : ℕ) (us : List (List ℕ)) (i : ℕ) → i < length us → Wholes g (Symbol g) us → argument_of g (w ∷ flatten us) i ≡ get_or us i []
argument_of-at g w us i m h =
    let a = w ∷ flatten (take i us) in
    let b = flatten (drop (suc i) us) ++ [] in
    let q : w ∷ flatten us ≡ a ++ (get_or us i [] ++ b) = rw (append-nil (w ∷ flatten us)) at (focus-here [] [] w us i m) in
    rw (root-argument g (Symbol g) w us i m h, q) (at-subterm g (Symbol g) a b (h i m))

module _ (s : System) where
  abbrev g : Signature
  g = s.arities

  -- a change leaves the active positions before it, and the one at which it is made
  pub active-front : (a : List ℕ) (x : ℕ) (d d' : List ℕ) {q : ℕ} → Active s (a ++ x ∷ d) q → q ≤ length a → Active s (a ++ d') q
  unfolding argument
  active-front a x d d' root h = root
  active-front a x d d' (below {p} i act st) h =
      let l : p < length a = omega arith in
      rw (← (argument-front g a x d d' p i h)) (below i (active-front a x d d' act (omega arith)) (rw (get_or-append a d' 0 p l, ← (get_or-append a (x ∷ d) 0 p l)) st))

  -- the whole subterm at p, of which Q holds
  pub record At (Q : List ℕ → Type 0) (t : List ℕ) (p : ℕ) : Type 0 where
    pub before : List ℕ
    pub here : List ℕ
    pub behind : List ℕ
    pub equal : t ≡ before ++ (here ++ behind)
    pub position : p ≡ length before
    pub whole : Whole g here
    pub has : Q here

  -- the words from p on
  pub at_parted : {Q : List ℕ → Type 0} {t : List ℕ} {p : ℕ} (x : At Q t p) → drop p t ≡ x.here ++ x.behind
  at_parted {p} x = ap (drop p) x.equal ∙ drop_at x.before (x.here ++ x.behind) p (sym x.position)

  -- Q goes down to each argument that stands in the strategy
  abbrev pub Inherited : (List ℕ → Type 0) → Type 0
  Inherited Q = (u : List ℕ) (i : ℕ) → Whole g u → Q u → Member (suc i) (strategy s (head u)) → Q (argument_of g u i)

  module _ (wf : WellFormed s) (Q : List ℕ → Type 0) (down : Inherited Q) where
    lower : (a b : List ℕ) (w : ℕ) (us : List (List ℕ)) (i : ℕ) → Node g w us → Whole g (w ∷ flatten us) → Q (w ∷ flatten us) → Member (suc i) (strategy s w) →
        At Q (a ++ ((w ∷ flatten us) ++ b)) (argument g (a ++ ((w ∷ flatten us) ++ b)) (length a) i)
    lower a b w us i d h c st =
        let m : i < length us = (let z = wf.entry_bound w (suc i) st in let z' = d.count in omega arith) in
        record {
          before = a ++ w ∷ flatten (take i us);
          here = get_or us i [];
          behind = flatten (drop (suc i) us) ++ b;
          equal = focus-here a b w us i m;
          position = at-argument g (Symbol g) a b w us i m d.wholes;
          whole = d.wholes i m;
          has = subst Q (argument_of-at g w us i m d.wholes) (down (w ∷ flatten us) i h c st);
        }

    lower-at : (t : List ℕ) (p i : ℕ) (a u b : List ℕ) → t ≡ a ++ (u ++ b) → p ≡ length a → Whole g u → Q u → Member (suc i) (strategy s (get_or t p 0)) →
        At Q t (argument g t p i)
    lower-at t p i a u b e q h c st =
        let k = as-node g h in
        rw (e, q, k.equal) (lower a b k.symbol k.parts i k.node (rw k.equal at h) (subst Q k.equal c)
        (rw (e, q, at_head g (Symbol g) a b h, k.equal) at st))

    pub active-at : {t : List ℕ} {p : ℕ} → Whole g t → Q t → Active s t p → At Q t p
    active-at {t} h c root = record { before = []; here = t; behind = []; equal = sym (append-nil t); position = refl; whole = h; has = c }
    active-at {t} h c (below {p} i act st) = let x = active-at h c act in lower-at t p i x.before x.here x.behind x.equal x.position x.whole x.has st

  -- the whole subterm at an active position
  pub active-whole : WellFormed s → {t : List ℕ} {p : ℕ} → Whole g t → Active s t p → At (λ _. Unit {0}) t p
  active-whole wf h act = active-at wf (λ _. Unit {0}) (λ u i h c st. tt) h tt act

  -- and at each index of a whole term, active or not
  forest-at : {k : ℕ} {ws : List ℕ} (p : ℕ) → Forest g (Symbol g) k ws → p < length ws → At (λ _. Unit {0}) ws p
  forest-at p empty l = absurd (not-suc-le-zero l)
  forest-at zero (more {w} {k} {ws} h f) l =
      let c = split g (Symbol g) (more {k = k} h f) 1 k (omega arith) in
      record { before = []; here = c.front; behind = c.back; equal = c.equal; position = refl; whole = c.fronts; has = tt }
  forest-at (suc p) (more {w} {ws} h f) l =
      let c = forest-at p f (le_of_suc-le-suc l) in
      record {
        before = w ∷ c.before;
        here = c.here;
        behind = c.behind;
        equal = ap (λ r. w ∷ r) c.equal;
        position = ap suc c.position;
        whole = c.whole;
        has = tt;
      }

  pub whole-at : {t : List ℕ} (p : ℕ) → Whole g t → p < length t → At (λ _. Unit {0}) t p
  whole-at p h l = forest-at p h l

  -- and so at each argument that stands in the strategy
  pub at-below : WellFormed s → {t : List ℕ} {p : ℕ} (i : ℕ) → At (λ _. Unit {0}) t p → Member (suc i) (strategy s (get_or t p 0)) → At (λ _. Unit {0}) t (argument g t p i)
  at-below wf {t} {p} i x st =
      lower-at wf (λ _. Unit {0}) (λ u i h c st. tt) t p i x.before x.here x.behind x.equal x.position x.whole tt st
