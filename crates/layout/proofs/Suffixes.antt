-- Where the strategies of an accepted book stand, one after the other.
use Prim.Native.Nat.{ℕ, ◌+◌, ◌≤◌, ◌<◌}
use native.Mathlib.Omega.{arith}
use mathlib.Core.Path.{◌≡◌, sym, ap, subst}
use mathlib.Core.List.{List}
use lib.ListN.{length, get_or}
use Rattle.system.specs.Limits.{max_symbols}
use Rattle.reader.specs.declared.Shape.{Shape}
use Rattle.system.specs.System.{System, strategy}
use Rattle.system.specs.Signature.{signature_of}
use Rattle.system.proofs.Rules.{strategy-listed}
use Rattle.reader.proofs.Located.{Encoded, strategy-at}
use Rattle.reader.specs.Book.{system_of, Accepted}
use Rattle.layout.specs.index.Accepted.{StrategyAt, suffix_from, SuffixAt}
use Rattle.layout.proofs.Books.{well, sections, signature, symbol-count, strategy-index}

module _ (b : List ℕ) (sh : Shape) (acc : Accepted b sh) where
  abbrev s : System
  s = system_of b

  pub strategy-count : length s.strategies ≡ sh.symbols
  strategy-count =
      let m : length s.arities ≡ length (signature_of b) = ap length (signature b sh acc) in
      omega (arith, symbol-count b sh acc, (well b sh acc).strategy_count)

  pub symbols-few : sh.symbols ≤ max_symbols
  symbols-few = let w = well b sh acc in let few = w.symbol_bound in let same = w.strategy_count in omega (arith, strategy-count)

  encoded : (k at : ℕ) → k < sh.symbols → SuffixAt b k at → Encoded b at (strategy s k) (suffix_from s (k + 1))
  encoded k at more so =
      let within : k < length s.strategies = omega (arith, strategy-count) in
      subst (λ es. Encoded b at es (suffix_from s (k + 1))) (sym (strategy-listed s k within)) (strategy-at b at k s.strategies _ within so.words)

  -- the words there are its own
  pub suffix-strategy : (k at : ℕ) → k < sh.symbols → SuffixAt b k at → StrategyAt b k at
  suffix-strategy k at more so =
      let h = encoded k at more so in
      record { fits = (let z = h.fits in omega (arith, h.counted)); entries = rw h.counted h.words }

  pub suffix-start : SuffixAt b 0 sh.strategies
  suffix-start = record { words = rw (strategy-index b sh acc) (sections b sh acc).strategies }

  pub suffix-next : (k at n : ℕ) → k < sh.symbols → SuffixAt b k at → n ≡ get_or b at 0 → SuffixAt b (k + 1) (at + 1 + n)
  suffix-next k at n more so q = let h = encoded k at more so in record { words = rw (q, h.counted) h.rests }
