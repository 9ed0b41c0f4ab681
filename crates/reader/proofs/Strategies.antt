-- The arities and strategies of a book, as the reader reads them and as Terms.antt describes them: the two agree.
use Prim.Native.Nat.{ℕ, ◌≤◌, zero-le}
use native.Mathlib.Omega.{arith}
use native.Mathlib.Decide.{dec_lt}
use mathlib.Core.Path.{◌≡◌, refl}
use mathlib.Core.List.{List, []}
use lib.ListN.{length, get_or}
use Rattle.system.specs.Limits.{max_arity, max_entries}
use Rattle.system.specs.Signature.{Signature, arity}
use Rattle.system.specs.System.{System, strategy}
use Rattle.system.specs.Terms.{Member, WellFormed}
use Rattle.reader.specs.Format.{encode_list, encode_strategies}
use Rattle.system.specs.declared.numbers.Fault.TheVariants.{Range, Entry}
use Rattle.reader.specs.Parser.{times, each, number, read_strategy}
use Rattle.system.proofs.BuiltIns.{builtin-narrow, builtin-strategy}
use Rattle.system.proofs.Signatures.{arity-listed, arity-unlisted}
use Rattle.system.proofs.Rules.{strategy-listed, strategy-unlisted}
use Rattle.system.proofs.Members.{member-get_or, member-index}
use Rattle.reader.proofs.Parses.{Reads, reads-iff}
use Rattle.reader.proofs.ParsesMany.{Every, Pairwise, reads-numbers, reads-each, reads-counted}

-- a strategy of a symbol that has arity a
abbrev pub Strategy : ℕ → List ℕ → Type 0
Strategy a es = (length es ≤ max_entries) × ((e : ℕ) → Member e es → e ≤ a)

module _ (ws : List ℕ) where
  pub reads-strategy : (a : ℕ) → Reads ws (read_strategy ws a) encode_list (Strategy a)
  unfolding read_strategy encode_list
  reads-strategy a =
      reads-iff
      (λ es h. (h.1, member-index (λ e. e ≤ a) es (λ k l. (h.2 k l).1)))
      (λ es h. (zero-le, h.0, λ k l. (zero-le, h.1 (get_or es k 0) (member-get_or es k l))))
      (reads-counted length (λ n. times n (number ws Entry 0 a)) (λ n. reads-numbers ws Entry 0 a n) Range 0 max_entries)

  pub reads-strategies : (g : Signature) →
      Reads ws (each (read_strategy ws) g) encode_strategies (λ ess. (length ess ≡ length g) × Pairwise 0 [] Strategy g ess)
  unfolding encode_strategies
  reads-strategies g = reads-each reads-strategy encode_strategies refl (λ es ess. refl) 0 [] g

-- ---- of every word, listed or not

pub narrow-every : (g : Signature) → Every 0 (λ w. (0 ≤ w) × (w ≤ max_arity)) g → (f : ℕ) → arity g f ≤ max_arity
narrow-every g h f = elim (dec_lt f (length g)) [
  | yes l ↦ rw (arity-listed g f l) (h f l).1
  | no l ↦ rw (arity-unlisted g f (omega arith)) (let b = builtin-narrow f in omega arith)
]

pub strategy-every : (s : System) → length s.strategies ≡ length s.arities → Pairwise 0 [] Strategy s.arities s.strategies →
    (f : ℕ) → Strategy (arity s.arities f) (strategy s f)
strategy-every s e h f = elim (dec_lt f (length s.arities)) [
  | yes l ↦ rw (arity-listed s.arities f l, strategy-listed s f (omega arith)) (h f l)
  | no l ↦ rw (arity-unlisted s.arities f (omega arith), strategy-unlisted s f (omega arith)) (builtin-strategy f)
]

pub every-strategy : (s : System) → WellFormed s → Pairwise 0 [] Strategy s.arities s.strategies
every-strategy s w k l =
    let e = strategy-listed s k (let o = w.strategy_count in omega arith) in
    (rw e at (w.strategy_bound k), rw (arity-listed s.arities k l, e) at (w.entry_bound k))
