-- One word of the check of a term, in the terms of a loop over the words.
use Prim.Native.Nat.{ℕ, zero, suc, ◌+◌, ◌-◌, ◌≤◌, ◌<◌}
use native.Mathlib.Omega.{arith}
use native.Mathlib.Numerals.{add-one}
use mathlib.Core.Path.{◌≡◌, ap, ◌∙◌}
use mathlib.Core.Option.{none, some}
use mathlib.Core.Bool.{false}
use mathlib.Core.List.{List, [], ◌∷◌}
use lib.ListN.{length, get_or, drop, drop_of_length-le}
use lib.Seq.{drop-cons}
use Rattle.system.specs.Limits.{term_words}
use Rattle.system.specs.Signature.{Signature, Symbol, is_symbol, arity}
use Rattle.system.specs.TermCheck.{term_fault}
use Rattle.system.proofs.TermChecks.{fault-word, fault-complete, fault-long, fault-unknown, fault-early, fault-end}

module _ (g : Signature) where
  word : (due w : ℕ) (ws : List ℕ) (i : ℕ) → 0 < due → i < term_words → Symbol g w → term_fault g due (w ∷ ws) i ≡ term_fault g (due - 1 + arity g w) ws (suc i)
  word zero w ws i d h e = absurd (omega arith)
  word (suc due) w ws i d h e = fault-word g due w ws i h e ∙ ap (λ n. term_fault g (n + arity g w) ws (suc i)) (omega arith)

  early : (due i : ℕ) → 0 < due → term_fault g due [] i ≡ some i
  early zero i d = absurd (omega arith)
  early (suc due) i d = fault-early g due i

  module _ (t : List ℕ) (due q : ℕ) where
    -- ---- the word at q
    module _ (here : q < length t) where
      pub break-complete : due ≡ 0 → term_fault g due (drop q t) q ≡ some q
      break-complete e = rw (e, drop-cons t q 0 here) (fault-complete g (get_or t q 0) (drop (suc q) t) q)

      pub break-long : term_words ≤ q → term_fault g due (drop q t) q ≡ some q
      break-long h = rw (drop-cons t q 0 here) (fault-long g due (get_or t q 0) (drop (suc q) t) q h)

      pub break-unknown : is_symbol g (get_or t q 0) ≡ false → term_fault g due (drop q t) q ≡ some q
      break-unknown e = rw (drop-cons t q 0 here) (fault-unknown g due (get_or t q 0) (drop (suc q) t) q e)

      pub break-next : 0 < due → q < term_words → Symbol g (get_or t q 0) →
          term_fault g due (drop q t) q ≡ term_fault g (due - 1 + arity g (get_or t q 0)) (drop (q + 1) t) (q + 1)
      break-next d h e = rw (add-one q, drop-cons t q 0 here) (word due (get_or t q 0) (drop (suc q) t) q d h e)

    -- ---- the end
    pub break-short : length t ≤ q → 0 < due → term_fault g due (drop q t) q ≡ some q
    break-short h d = rw (drop_of_length-le t h) (early due q d)

    pub break-none : length t ≤ q → due ≡ 0 → term_fault g due (drop q t) q ≡ none
    break-none h e = rw (e, drop_of_length-le t h) (fault-end g q)
