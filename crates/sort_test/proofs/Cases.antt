-- The cases of the sort test, computed: one fact for the whole table.
use mathlib.Core.Path.{refl}
use Rattle.system.specs.BuiltIns.{is_literal, is_built_in, is_binary, is_unary, built_in_arity}
use Rattle.system.specs.Signature.{is_symbol, arity}
use Rattle.reader.specs.Parser.{read, read_system, read_rules, read_end, read_rule, read_side, read_words, read_strategy, number, word, learn, side_fault, symbol_fault, variable_fault}
use Rattle.reader.specs.Parser.{outside, each, times}
use Rattle.system.specs.TermCheck.{term_fault}
use Rattle.reader.specs.Cases.{Hold, book_b}
use Rattle.system.specs.FirstFailing.{first_failing}
use Rattle.sorts.specs.Sorts.{offset, numbers_from, result_sort, argument_sorts}
use Rattle.sorts.specs.SortCheck.{note, check, unknown, rule_sorts, sorted_rule, sorted_term}
use Rattle.sort_test.specs.SortTest.{all_small, lists, term_test, system_test, sorts_answer}
use Rattle.sort_test.specs.Cases.{with_rules, sort_cases}

pub sort-cases : Hold sort_cases
unfolding sort_cases with_rules book_b sorts_answer system_test lists all_small first_failing sorted_rule rule_sorts sorted_term term_test unknown check note argument_sorts result_sort
    numbers_from offset read read_system read_rules read_end read_rule read_side read_words read_strategy number word learn side_fault
    symbol_fault variable_fault outside each times term_fault is_symbol arity is_literal is_built_in is_binary is_unary built_in_arity
sort-cases = refl
