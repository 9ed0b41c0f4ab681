-- The cases of the test by weights, computed: one fact for the whole table.
use mathlib.Core.Path.{refl}
use Rattle.system.specs.BuiltIns.{is_literal, is_built_in, is_binary, is_unary, built_in_arity, smaller}
use Rattle.system.specs.Signature.{is_symbol, arity}
use Rattle.reader.specs.Parser.{read, read_system, read_rules, read_end, read_rule, read_side, read_words, read_strategy, number, word, learn, side_fault, symbol_fault, variable_fault}
use Rattle.reader.specs.Parser.{outside, each, times}
use Rattle.reader.specs.Cases.{Hold, book_b}
use Rattle.system.specs.FirstFailing.{first_failing}
use Rattle.termination.specs.Weights.{built_in_weight, word_weight, weight}
use Rattle.system.specs.Terms.{occurs}
use Rattle.termination.specs.WeightTest.{keeps_at, below, falls, in_range, weighs, system_answer, weights_answer, weight_limit}
use Rattle.termination.specs.Cases.{with_rules, weight_cases}

pub weight-cases : Hold weight_cases
unfolding weight_cases with_rules book_b weights_answer system_answer weighs in_range first_failing falls below keeps_at occurs weight word_weight built_in_weight weight_limit
    read read_system read_rules read_end read_rule read_side read_words read_strategy number word learn side_fault
    symbol_fault variable_fault outside each times is_symbol arity is_literal is_built_in is_binary is_unary built_in_arity smaller
weight-cases = refl
