-- How many words an accepted book has at most: few enough that an index into it is a word itself.
use Prim.Native.Nat.{ℕ, suc, ◌+◌, ◌*◌, ◌≤◌, ◌<◌}
use native.Mathlib.Omega.{arith}
use mathlib.Core.List.{List, [], ◌∷◌, ◌++◌}
use lib.ListN.{length, get_or, length-append}
use Rattle.system.specs.Limits.{max_entries, side_words}
use Rattle.reader.specs.declared.Shape.{Shape}
use Rattle.system.specs.System.{Rule, no_rule}
use Rattle.reader.specs.Format.{encode_list, encode_strategies, encode_rules}
use Rattle.reader.specs.Book.{system_of, Accepted}
use Rattle.system.proofs.Rules.{strategy-listed}
use Rattle.layout.proofs.Books.{well, sections}

strategies-short : (ess : List (List ℕ)) → ((f : ℕ) → f < length ess → length (get_or ess f []) ≤ max_entries) → length (encode_strategies ess) ≤ length ess * (max_entries + 1)
unfolding encode_strategies encode_list
strategies-short [] short = omega arith
strategies-short (es ∷ ess) short =
    let here = short 0 (omega arith) in
    let rest = strategies-short ess (λ f h. short (suc f) (omega arith)) in
    rw (length-append es (encode_strategies ess)) (omega arith)

rules-short : (rs : List Rule) → ((k : ℕ) → k < length rs → (length (get_or rs k no_rule).lhs ≤ side_words) × (length (get_or rs k no_rule).rhs ≤ side_words)) →
    length (encode_rules rs) ≤ length rs * (2 * (side_words + 1))
unfolding encode_rules encode_list
rules-short [] short = omega arith
rules-short (r ∷ rs) short =
    let here = short 0 (omega arith) in
    let rest = rules-short rs (λ k h. short (suc k) (omega arith)) in
    rw (length-append r.lhs (length r.rhs ∷ (r.rhs ++ encode_rules rs)), length-append r.rhs (encode_rules rs)) (omega arith)

pub book-short : (b : List ℕ) (sh : Shape) → Accepted b sh → length b ≤ 65535
book-short b sh acc =
    let s = system_of b in
    let w = well b sh acc in
    let size = (sections b sh acc).size in
    let symbols = w.symbol_bound in
    let same = w.strategy_count in
    let rules = w.rule_bound in
    let entries = strategies-short s.strategies (λ f h. rw (strategy-listed s f h) at (w.strategy_bound f)) in
    let sides = rules-short s.rules (λ k h. let r = w.well_formed_rules k h in (r.short_left, r.short_right)) in
    omega arith
