-- From argument to argument of a symbol, to the one that holds a position: what the loop of `walk::holder` keeps, and its turns.
use Prim.Native.Nat.{ℕ, suc, ◌+◌, ◌-◌, ◌≤◌, ◌<◌}
use native.Mathlib.Omega.{arith}
use mathlib.Core.Path.{◌≡◌, sym, ap, ◌∙◌, subst}
use mathlib.Core.List.{List}
use lib.ListN.{length, get_or, drop}
use Rattle.system.specs.Signature.{signature_of}
use Rattle.reader.specs.declared.book.Book.{Book}
use Rattle.reader.specs.Book.{system_of}
use Rattle.system.specs.Signature.{Signature, arity, span, argument}
use Rattle.system.specs.System.{System}
use Rattle.layout.proofs.Books.{signature}
use Rattle.walks.specs.walk.Descent.{Above, From, Held}
use Rattle.walks.proofs.Arguments.{argument-first, argument-next}
use Rattle.walks.proofs.Descent.{above_within, from_first, from_next, from_last}

-- q lies in the argument that starts here, with so many others before it, or in one behind it; `last` has as many before it
pub record Hopping (s : System) (t : List ℕ) (p q last number start : ℕ) : Type 0 where
  pub from : From s t p q number
  pub here : start ≡ argument s.arities t p number
  pub ends : last + 1 ≡ arity s.arities (get_or t p 0)

-- the symbol's arity is read from the book
module _ (book : Book) {t : List ℕ} {p q : ℕ} (above : Above (system_of book.words.now) t p q) (lower : p < q) where
  abbrev s : System
  s = system_of book.words.now

  abbrev g : Signature
  g = s.arities

  module _ (word : ℕ) (is : word ≡ get_or t p 0) (count : ℕ) (counts : count ≡ arity (signature_of book.words.now) word) where
    known : count ≡ arity g (get_or t p 0)
    known = counts ∙ (λ i. arity (sym (signature book.words.now book.shape book.accepted) i) (is i))

    -- there is one
    pub some-argument : 0 < count
    some-argument = let z = (from_first s above lower).known in omega (arith, known)

    pub hopping-first : Hopping s t p q (count - 1) 0 (p + 1)
    hopping-first =
        let v = from_first s above lower in
        record { from = v; here = omega (arith, argument-first g t p); ends = omega (arith, some-argument, known) }

module _ (s : System) {t : List ℕ} {p q last number start : ℕ} (v : Hopping s t p q last number start) where
  abbrev at : ℕ
  at = argument s.arities t p number

  -- it starts in the term, and not behind q
  pub hopping-bounds : (start ≤ q) × (q < length t)
  hopping-bounds = (let z = v.from.low in omega (arith, v.here), above_within s v.from.above)

  module _ (width : ℕ) (reads : width ≡ span s.arities (drop start t) 1) where
    wide : width ≡ span s.arities (drop at t) 1
    wide = reads ∙ ap (λ a. span s.arities (drop a t) 1) v.here

    -- it ends before q: on to the next
    pub hopping-next : width ≤ q - start → Hopping s t p q last (number + 1) (start + width)
    hopping-next h =
        let b = hopping-bounds in
        let x = from_next s v.from (let e = v.here in omega (arith, wide)) in
        let z : suc number ≡ number + 1 = omega arith in
        record {
          from = subst (From s t p q) z x;
          here = let e = v.here in omega (arith, wide, argument-next s.arities t p number, ap (argument s.arities t p) z);
          ends = v.ends;
        }

    -- it holds q
    pub held-here : q - start < width → Held s t p q (record { number = number; start = start })
    held-here h = let b = hopping-bounds in record { from = v.from; start = v.here; high = let e = v.here in omega (arith, wide) }

  -- it is the last: it holds q, without a read
  pub held-last : last ≤ number → Held s t p q (record { number = number; start = start })
  held-last h = record { from = v.from; start = v.here; high = from_last s v.from (let z = v.from.known in omega (arith, v.ends)) }
