-- Where the arguments of a symbol start and what stands there, told by the words from the symbol on.
use Prim.Native.Nat.{ℕ, suc, ◌+◌, ◌-◌, ◌<◌}
use native.Mathlib.Nat.{zero-add}
use native.Mathlib.Omega.{arith}
use mathlib.Core.Path.{◌≡◌, sym, ap, ◌∙◌}
use mathlib.Core.List.{List, ◌++◌, append_assoc}
use lib.ListN.{length, get_or, drop}
use lib.Seq.{drop-cons, drop-drop, drop-append_seam}
use Rattle.system.specs.Signature.{Signature, Symbol, arity, span, argument}
use Rattle.system.specs.Terms.{Forest, more, Whole}
use Rattle.system.proofs.Forests.{span-zero, span-forest, Split, split}
use Rattle.system.proofs.Spans.{spans-at, argument-hop}
use Rattle.rewriting.proofs.Laws.{next-entry}

module _ (g : Signature) where
  -- ---- where an argument starts

  module _ (t : List ℕ) (p : ℕ) where
    -- behind its symbol
    pub argument-behind : (i : ℕ) → p < argument g t p i
    unfolding argument
    argument-behind i = omega arith

    pub argument-first : argument g t p 0 ≡ suc p
    unfolding argument
    argument-first = omega (arith, span-zero g (drop (suc p) t))

    -- the next one behind this one
    pub argument-next : (i : ℕ) → argument g t p (suc i) ≡ argument g t p i + span g (drop (argument g t p i) t) 1
    argument-next i = argument-hop g t p i ∙ ap (λ k. argument g t p i + k) (spans-at g t (argument g t p i))

    -- behind the last one the subterm ends
    pub argument-end : p < length t → argument g t p (arity g (get_or t p 0)) ≡ p + span g (drop p t) 1
    unfolding argument span
    argument-end h = rw (drop-cons t p 0 h, zero-add (arity g (get_or t p 0))) (omega arith)

    -- ---- what stands there: of the words behind the symbol, the arguments before it, and it

    pub record Argument (i : ℕ) : Type 0 where
      pub before : List ℕ
      pub here : List ℕ
      pub behind : List ℕ
      pub words : drop (suc p) t ≡ before ++ (here ++ behind)
      pub fronts : Forest g (Symbol g) i before
      pub whole : Whole g here

    focused : {i j k : ℕ} {ws : List ℕ} (b : List ℕ) → drop (suc p) t ≡ ws ++ b → (c : Split g (Symbol g) i k ws) → Split g (Symbol g) 1 j c.back → Argument i
    focused b e c d = record {
      before = c.front;
      here = d.front;
      behind = d.back ++ b;
      words = e ∙ ap (λ z. z ++ b) (c.equal ∙ ap (λ z. c.front ++ z) d.equal) ∙ simp append_assoc;
      fronts = c.fronts;
      whole = d.fronts;
    }

    -- a whole term at p has them
    pub argument-of : {u : List ℕ} (b : List ℕ) (i : ℕ) → Whole g u → drop p t ≡ u ++ b → i < arity g (get_or t p 0) → Argument i
    argument-of b i (more {w} {ws} h f) e l =
        let n = next-entry t p w (ws ++ b) e in
        let q = ap (arity g) n.0 in
        let c = split g (Symbol g) f i (suc (arity g w - suc i)) (omega arith) in
        focused b n.1 c (split g (Symbol g) c.backs 1 (arity g w - suc i) (omega arith))

    pub argument-position : {i : ℕ} (x : Argument i) → argument g t p i ≡ suc p + length x.before
    unfolding argument
    argument-position x = rw (x.words, span-forest g (Symbol g) (x.here ++ x.behind) x.fronts)

    pub argument-words : {i : ℕ} (x : Argument i) → drop (argument g t p i) t ≡ x.here ++ x.behind
    argument-words x =
        ap (λ n. drop n t) (argument-position x) ∙ sym (drop-drop (length x.before) (suc p) t) ∙ ap (drop (length x.before)) x.words
        ∙ drop-append_seam x.before (x.here ++ x.behind)
