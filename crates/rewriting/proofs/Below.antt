-- One argument down in a term: the symbol at a position over its parts, and the part that an entry of its strategy tells of.
use Prim.Native.Nat.{ℕ, suc, ◌≤◌, ◌<◌}
use native.Mathlib.Omega.{arith}
use mathlib.Core.Path.{◌≡◌, sym, ap, ◌∙◌, subst}
use mathlib.Core.List.{List, [], ◌∷◌, ◌++◌, append-nil, flatten}
use lib.ListN.{length, get_or, take, drop, length-append}
use lib.Seq.{drop_at}
use Rattle.system.specs.Signature.{Signature, Symbol, arity, span, argument}
use Rattle.system.specs.System.{System, strategy}
use Rattle.system.specs.Terms.{Whole, Member, WellFormed}
use Rattle.system.proofs.Forests.{Node, as-node, focus-here, span-forest}
use Rattle.system.proofs.Places.{at-word, at-argument}
use Rattle.rewriting.specs.Rewriting.{Active}
use Rattle.rewriting.proofs.Actives.{active-whole}

-- the whole term u, in t behind a and before b, is a symbol over parts; the one with i others before it
pub record Below (g : Signature) (t a u b : List ℕ) (i : ℕ) : Type 0 where
  pub symbol : ℕ
  pub parts : List (List ℕ)
  pub equal : u ≡ symbol ∷ flatten parts
  pub node : Node g symbol parts
  pub within : i < length parts
  pub at : argument g t (length a) i ≡ length (a ++ symbol ∷ flatten (take i parts))
  pub words : t ≡ (a ++ symbol ∷ flatten (take i parts)) ++ (get_or parts i [] ++ (flatten (drop (suc i) parts) ++ b))

module _ (s : System) (wf : WellFormed s) where
  abbrev g : Signature
  g = s.arities

  pub below_of : (t a u b : List ℕ) (i : ℕ) → t ≡ a ++ (u ++ b) → Whole g u → Member (suc i) (strategy s (get_or t (length a) 0)) → Below g t a u b i
  below_of t a u b i e h st =
      let k = as-node g h in
      let w = k.symbol in
      let us = k.parts in
      let e' : t ≡ a ++ ((w ∷ flatten us) ++ b) = e ∙ ap (λ z. a ++ (z ++ b)) k.equal in
      let x : get_or t (length a) 0 ≡ w = ap (λ z. get_or z (length a) 0) e' ∙ at-word g a b w (flatten us) in
      let m : i < length us = omega (arith, wf.entry_bound (get_or t (length a) 0) (suc i) st, k.node.count, ap (arity g) x) in
      record {
        symbol = w;
        parts = us;
        equal = k.equal;
        node = k.node;
        within = m;
        at = ap (λ z. argument g z (length a) i) e' ∙ at-argument g (Symbol g) a b w us i m k.node.wholes;
        words = e' ∙ focus-here a b w us i m;
      }

  -- the words of the part are fewer than those of the term
  pub below-shorter : {t a u b : List ℕ} {i : ℕ} (x : Below g t a u b i) → length (get_or x.parts i []) < length u
  below-shorter {i} x =
      let f = flatten (take i x.parts) in
      let y = get_or x.parts i [] in
      let r = flatten (drop (suc i) x.parts) in
      let e : x.symbol ∷ flatten x.parts ≡ (x.symbol ∷ f) ++ (y ++ (r ++ [])) =
      sym (append-nil (x.symbol ∷ flatten x.parts)) ∙ focus-here [] [] x.symbol x.parts i x.within in
      omega (arith, ap length (x.equal ∙ e), length-append (x.symbol ∷ f) (y ++ (r ++ [])), length-append y (r ++ []))

  -- an argument that stands in the strategy takes no more words than the symbol that holds it
  pub argument-shorter : {t : List ℕ} {p : ℕ} → Whole g t → Active s t p → (i : ℕ) → Member (suc i) (strategy s (get_or t p 0)) →
      span g (drop (argument g t p i) t) 1 ≤ span g (drop p t) 1
  argument-shorter {t} {p} h act i st =
      let x = active-whole s wf h act in
      let y = below_of t x.before x.here x.behind i x.equal x.whole (subst (λ z. Member (suc i) (strategy s (get_or t z 0))) x.position st) in
      let a : span g (drop p t) 1 ≡ length x.here = here-span t x.before x.here x.behind p x.equal (sym x.position) x.whole in
      let b : span g (drop (argument g t p i) t) 1 ≡ length (get_or y.parts i []) =
      here-span t (x.before ++ y.symbol ∷ flatten (take i y.parts)) (get_or y.parts i []) (flatten (drop (suc i) y.parts) ++ x.behind) (argument g t p i) y.words
      (sym (ap (λ z. argument g t z i) x.position ∙ y.at)) (y.node.wholes i y.within) in
      omega (arith, below-shorter y)
    where
      here-span : (t a u b : List ℕ) (p : ℕ) → t ≡ a ++ (u ++ b) → length a ≡ p → Whole g u → span g (drop p t) 1 ≡ length u
      here-span t a u b p e q h = ap (λ z. span g z 1) (ap (drop p) e ∙ drop_at a (u ++ b) p q) ∙ span-forest g (Symbol g) b h
