-- Forests (some whole terms one after the other): their spans, how they split and join, and a whole term as a symbol over its parts.
use Prim.Native.Nat.{ℕ, zero, suc, ◌+◌, ◌≤◌, ◌<◌}
use native.Mathlib.Nat.{zero-add, suc-add, add_right_comm, le_of_suc-le-suc, not-suc-le-zero}
use native.Mathlib.Omega.{arith}
use native.Mathlib.Decide.{ℕ_discrete}
use mathlib.Core.Path.{◌≡◌, refl, ap, ◌∙◌, subst}
use mathlib.Core.List.{List, [], ◌∷◌, ◌++◌, append_assoc, flatten}
use lib.ListN.{length, get_or, take, drop, set, length-set}
use lib.Seq.{set_split, get_or-set_same, get_or-set_other, set-get_or, length-take-le, get_or-take}
use Rattle.system.specs.Signature.{Signature, Symbol, span, arity}
use Rattle.system.specs.Terms.{Forest, empty, more, Whole}

-- k terms have at least k words, and none has none
pub forest-length : {g : Signature} {P : ℕ → Type 0} {k : ℕ} {ws : List ℕ} → Forest g P k ws → k ≤ length ws
forest-length empty = omega arith
forest-length (more h f) = let z = forest-length f in omega arith

pub forest-none : {g : Signature} {P : ℕ → Type 0} {ws : List ℕ} → Forest g P 0 ws → ws ≡ []
forest-none empty = refl

module _ (g : Signature) where
  pub span-zero : (ws : List ℕ) → span g ws 0 ≡ 0
  unfolding span
  span-zero [] = refl
  span-zero (w ∷ ws) = refl

  module _ (P : ℕ → Type 0) where
    -- the words of k whole terms, whatever follows them
    pub span-forest : {k : ℕ} {ws : List ℕ} (b : List ℕ) → Forest g P k ws → span g (ws ++ b) k ≡ length ws
    unfolding span
    span-forest b empty = span-zero b
    span-forest b (more h f) = ap suc (span-forest b f)

    pub join : {j k : ℕ} {a b : List ℕ} → Forest g P j a → Forest g P k b → Forest g P (j + k) (a ++ b)
    join {k} empty f' = rw (zero-add k) f'
    join {k} (more {w} {k = i} h f) f' = rw (suc-add i k) (more h (rw (add_right_comm i (arity g w) k) at (join f f')))

    pub record Split (j k : ℕ) (ws : List ℕ) : Type 0 where
      pub front : List ℕ
      pub back : List ℕ
      pub equal : ws ≡ front ++ back
      pub fronts : Forest g P j front
      pub backs : Forest g P k back

    pub split : {n : ℕ} {ws : List ℕ} → Forest g P n ws → (j k : ℕ) → n ≡ j + k → Split j k ws
    split empty zero k e = record { front = []; back = []; equal = refl; fronts = empty; backs = subst (λ n. Forest g P n []) (e ∙ zero-add k) empty }
    split empty (suc j) k e = absurd (omega arith)
    split (more {w} {k = i} {ws} h f) zero k e =
        record { front = []; back = w ∷ ws; equal = refl; fronts = empty; backs = rw (e ∙ zero-add k) at (more {k = i} h f) }
    split (more {w} {k = i} {ws} h f) (suc j) k e =
        let c = split f (j + arity g w) k (omega arith) in
        record { front = w ∷ c.front; back = c.back; equal = ap (λ r. w ∷ r) c.equal; fronts = more h c.fronts; backs = c.backs }

    -- each of the parts is whole
    abbrev pub Wholes : List (List ℕ) → Type 0
    Wholes us = (i : ℕ) → i < length us → Forest g P 1 (get_or us i [])

    pub record Parts (k : ℕ) (ws : List ℕ) : Type 0 where
      pub parts : List (List ℕ)
      pub equal : ws ≡ flatten parts
      pub count : length parts ≡ k
      pub wholes : Wholes parts

    pub wholes-cons : (u : List ℕ) (us : List (List ℕ)) → Forest g P 1 u → Wholes us → Wholes (u ∷ us)
    wholes-cons u us f h zero l = f
    wholes-cons u us f h (suc i) l = h i (le_of_suc-le-suc l)

    pub parts-of : (k : ℕ) {ws : List ℕ} → Forest g P k ws → Parts k ws
    unfolding flatten
    parts-of zero empty = record { parts = []; equal = refl; count = refl; wholes = λ i l. absurd (not-suc-le-zero l) }
    parts-of (suc k) f =
        let c = split f 1 k (omega arith) in
        let d = parts-of k c.backs in
        record {
          parts = c.front ∷ d.parts;
          equal = c.equal ∙ ap (λ r. c.front ++ r) d.equal;
          count = ap suc d.count;
          wholes = wholes-cons c.front d.parts c.fronts d.wholes;
        }

    pub forest-of : (us : List (List ℕ)) → Wholes us → Forest g P (length us) (flatten us)
    unfolding flatten
    forest-of [] h = empty
    forest-of (u ∷ us) h = rw (suc-eq-add (length us)) (join (h 0 (omega arith)) (forest-of us (λ i l. h (suc i) (omega arith))))
      where
        suc-eq-add : (n : ℕ) → suc n ≡ 1 + n
        suc-eq-add n = omega arith

    pub wholes-set : (us : List (List ℕ)) (i : ℕ) (v : List ℕ) → Wholes us → Forest g P 1 v → Wholes (set us i v)
    wholes-set us i v h f j l = go (ℕ_discrete j i)
      where
        l' : j < length us
        l' = rw (length-set us i v) at l

        go : Dec (j ≡ i) → Forest g P 1 (get_or (set us i v) j [])
        go (yes e) = rw (e, get_or-set_same us i v [] (rw e at l')) f
        go (no e) = rw (get_or-set_other us i j v [] e) (h j l')

    pub wholes-take : (us : List (List ℕ)) (n : ℕ) → n ≤ length us → Wholes us → Wholes (take n us)
    wholes-take us n m h i l =
        let l' : i < n = rw (length-take-le n us m) at l in
        rw (get_or-take n us i [] l') (h i (omega arith))

    -- the first n parts
    pub forest-take : (us : List (List ℕ)) (n : ℕ) → n ≤ length us → Wholes us → Forest g P n (flatten (take n us))
    forest-take us n m h = rw (length-take-le n us m) at (forest-of (take n us) (wholes-take us n m h))

    pub wholes-get_or : (us : List (List ℕ)) (u : List ℕ) → Wholes us → Forest g P 1 u → (v : ℕ) → Forest g P 1 (get_or us v u)
    wholes-get_or [] u h f v = f
    wholes-get_or (x ∷ us) u h f zero = h 0 (omega arith)
    wholes-get_or (x ∷ us) u h f (suc v) = wholes-get_or us u (λ i l. h (suc i) (omega arith)) f v

-- a symbol over whole parts, as many as it takes
pub record Node (g : Signature) (w : ℕ) (us : List (List ℕ)) : Type 0 where
  pub known : Symbol g w
  pub count : length us ≡ arity g w
  pub wholes : Wholes g (Symbol g) us

module _ (g : Signature) where
  pub node-whole : (w : ℕ) (us : List (List ℕ)) → Node g w us → Whole g (w ∷ flatten us)
  node-whole w us d = more {k = 0} d.known (subst (λ n. Forest g (Symbol g) n (flatten us)) (let c = d.count in omega arith) (forest-of g (Symbol g) us d.wholes))

  pub node-set : (w : ℕ) (us : List (List ℕ)) (i : ℕ) (v : List ℕ) → Node g w us → Whole g v → Node g w (set us i v)
  node-set w us i v d h = record { known = d.known; count = length-set us i v ∙ d.count; wholes = wholes-set g (Symbol g) us i v d.wholes h }

  pub record AsNode (u : List ℕ) : Type 0 where
    pub symbol : ℕ
    pub parts : List (List ℕ)
    pub equal : u ≡ symbol ∷ flatten parts
    pub node : Node g symbol parts

  -- a whole term is a symbol over its parts
  pub as-node : {u : List ℕ} → Whole g u → AsNode u
  as-node (more {w} {k} h f) =
      let c = parts-of g (Symbol g) (k + arity g w) f in
      record { symbol = w; parts = c.parts; equal = ap (λ r. w ∷ r) c.equal; node = record { known = h; count = c.count ∙ zero-add (arity g w); wholes = c.wholes } }

pub flatten-append : (a b : List (List ℕ)) → flatten (a ++ b) ≡ flatten a ++ flatten b
unfolding flatten
flatten-append [] b = refl
flatten-append (x ∷ a) b = simp (append_assoc, flatten-append a b)

pub flatten-set : (us : List (List ℕ)) (i : ℕ) (v : List ℕ) → i < length us → flatten (set us i v) ≡ flatten (take i us) ++ (v ++ flatten (drop (suc i) us))
unfolding flatten
flatten-set us i v h = simp (set_split us i v h, flatten-append)

-- the part i of a term, in its surroundings
pub focus : (a b : List ℕ) (w : ℕ) (us : List (List ℕ)) (i : ℕ) (v : List ℕ) → i < length us →
    a ++ ((w ∷ flatten (set us i v)) ++ b) ≡ (a ++ w ∷ flatten (take i us)) ++ (v ++ (flatten (drop (suc i) us) ++ b))
focus a b w us i v h = simp (flatten-set us i v h, append_assoc)

pub focus-here : (a b : List ℕ) (w : ℕ) (us : List (List ℕ)) (i : ℕ) → i < length us →
    a ++ ((w ∷ flatten us) ++ b) ≡ (a ++ w ∷ flatten (take i us)) ++ (get_or us i [] ++ (flatten (drop (suc i) us) ++ b))
focus-here a b w us i h = rw (set-get_or us i []) at (focus a b w us i (get_or us i []) h)

pub drop_past : (a : List ℕ) (w : ℕ) (b : List ℕ) → drop (suc (length a)) (a ++ w ∷ b) ≡ b
drop_past [] w b = refl
drop_past (x ∷ a) w b = drop_past a w b
