-- The starred case of the strategy test, computed; and where two symbols fail.
use mathlib.Core.Path.{◌≡◌, refl}
use mathlib.Core.List.{[], ◌∷◌}
use lib.ListN.{set}
use Rattle.system.specs.BuiltIns.{is_built_in, is_binary, is_unary, built_in_arity, built_in_strategy}
use Rattle.system.specs.Signature.{is_symbol, arity, span, argument}
use Rattle.system.specs.System.{strategy}
use Rattle.system.specs.Terms.{occurs}
use Rattle.reader.specs.Parser.{read, read_system, read_rules, read_end, read_rule, read_side, read_words, read_strategy, number, word, learn, side_fault, symbol_fault, variable_fault}
use Rattle.reader.specs.Parser.{outside, each, times}
use Rattle.reader.specs.Cases.{Hold, book_b, early_b}
use Rattle.system.specs.FirstFailing.{first_failing}
use Rattle.matching.specs.StrategyTest.{passes, every, closes, idles, idle_test, held_once, constructs, test_answer}
use Rattle.matching.specs.Cases.{testing, strategy_cases}

pub strategy-cases : Hold strategy_cases
unfolding strategy_cases book_b
    test_answer first_failing passes every closes idles idle_test held_once occurs constructs strategy span argument
    read read_system read_rules read_end read_rule read_side read_words read_strategy number word learn side_fault symbol_fault variable_fault outside each times is_symbol arity
    is_built_in is_binary is_unary built_in_arity built_in_strategy
strategy-cases = refl

-- rest's order 0 1 too (words 14 and 15): head and rest fail, and the lower is told; then rest's alone
pub two-fail : (testing (set (set early_b 14 0) 15 1) ≡ 14 ∷ 2 ∷ 0 ∷ []) × (testing (set (set book_b 14 0) 15 1) ≡ 14 ∷ 3 ∷ 0 ∷ [])
unfolding book_b
    test_answer first_failing passes every closes idles idle_test held_once occurs constructs strategy span argument
    read read_system read_rules read_end read_rule read_side read_words read_strategy number word learn side_fault symbol_fault variable_fault outside each times is_symbol arity
    is_built_in is_binary is_unary built_in_arity built_in_strategy
two-fail = (refl, refl)
