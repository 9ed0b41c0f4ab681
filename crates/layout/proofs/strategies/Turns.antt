-- A loop over the strategies of a book: which strategy each turn has.
use Prim.Native.Nat.{ℕ, ◌+◌, ◌-◌, ◌≤◌, ◌<◌}
use native.Mathlib.Omega.{arith}
use mathlib.Core.Path.{◌≡◌, sym, ap, ◌∙◌}
use mathlib.Core.List.{List, [], ◌∷◌}
use lib.ListN.{length, get_or, drop, length-drop}
use lib.Seq.{drop-cons}
use Rattle.std.specs.Prelude.{Some}
use Rattle.system.specs.Limits.{max_symbols}
use Rattle.system.specs.System.{strategy}
use Rattle.system.proofs.Rules.{strategy-listed}
use Rattle.reader.specs.declared.Shape.{Shape}
use Rattle.reader.specs.Book.{system_of, Accepted}
use Rattle.layout.specs.index.Accepted.{SuffixAt}
use Rattle.layout.specs.declared.strategies.Strategy.{Strategy}
use Rattle.layout.specs.declared.strategies.Strategies.{Strategies}
use Rattle.layout.specs.strategies.Listed.{rest_of, YieldsStrategy}
use Rattle.layout.proofs.Suffixes.{strategy-count, symbols-few}

-- how many are still to come
pub left-few : (s : Strategies) → length (rest_of s) ≤ max_symbols
left-few s =
    let acc = s.book.accepted in
    let n = length-drop (length (system_of s.book.words.now).strategies - s.left) (system_of s.book.words.now).strategies in
    omega (arith, symbols-few _ _ acc, strategy-count _ _ acc, n)

-- the walk over the strategies of b is at symbol f
pub record At (b : List ℕ) (f : ℕ) (s : Strategies) : Type 0 where
  pub book : s.book.words.now ≡ b
  pub number : s.left + f ≡ length (system_of b).strategies

-- a turn of a loop: the walk gave the strategy of symbol f of b, and goes on
pub record Turned (b : List ℕ) (f : ℕ) (x : Strategy) (t : Strategies) : Type 0 where
  pub more : f < length (system_of b).strategies
  pub entries : x.entries.now ≡ strategy (system_of b) f
  pub stands : SuffixAt b f x.at
  pub goes : At b (f + 1) t

pub at-start : {b : List ℕ} {sh : Shape} → Accepted b sh → {s : Strategies} → s.left ≡ sh.symbols → s.book.words.now ≡ b → At b 0 s
at-start {b} {sh} acc l e = record { book = e; number = omega (arith, strategy-count b sh acc) }

module _ {b : List ℕ} {f : ℕ} {s : Strategies} (a : At b f s) where
  number : length (system_of b).strategies - s.left ≡ f
  number = let n = a.number in omega arith

  left-of : (t : Strategies) → length (rest_of t) ≡ t.left
  left-of t =
      let w = t.within in
      let n = strategy-count t.book.words.now _ t.book.accepted in
      rw (length-drop (length (system_of t.book.words.now).strategies - t.left) (system_of t.book.words.now).strategies) (omega arith)

  pub turned : {x : Strategy} {t : Strategies} → YieldsStrategy s (Some x) t → Turned b f x t
  turned {x} {t} h =
      let c : t.left + 1 ≡ s.left = omega (arith, left-of s, left-of t, ap length h.0) in
      let n = a.number in
      let more : f < length (system_of b).strategies = omega arith in
      let e : drop f (system_of b).strategies ≡ x.entries.now ∷ rest_of t = rw (a.book, number) at h.0 in
      let d = drop-cons (system_of b).strategies f [] more in
      record {
        more = more;
        entries = ap (λ l. get_or l 0 []) (sym e ∙ d) ∙ sym (strategy-listed (system_of b) f more);
        stands = record { words = rw (a.book, number, ← h.1) at s.stands };
        goes = record { book = h.2 ∙ a.book; number = omega arith };
      }

  pub ended : rest_of s ≡ [] → f ≡ length (system_of b).strategies
  ended e = let n = a.number in omega (arith, left-of s, ap length e)
