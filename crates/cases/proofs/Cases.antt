-- All starred cases, computed: one fact for the whole table.
use mathlib.Core.Path.{refl}
use Rattle.buffers.specs.Words.{zeros}
use Rattle.system.specs.BuiltIns.{is_literal, is_built_in, is_binary, is_unary, built_in_arity, built_in_strategy, larger, smaller, square_law}
use Rattle.system.specs.Signature.{is_symbol, arity, span, argument, replace}
use Rattle.system.specs.System.{strategy, instance}
use Rattle.reader.specs.Parser.{read, read_system, read_rules, read_end, read_rule, read_side, read_words, read_strategy, number, word, learn, side_fault, symbol_fault, variable_fault}
use Rattle.reader.specs.Parser.{outside, each, times}
use Rattle.system.specs.TermCheck.{term_fault}
use Rattle.reader.specs.Answers.{term_answer}
use Rattle.reader.specs.Book.{system_of}
use Rattle.system.specs.FirstFailing.{first_failing}
use Rattle.matching.specs.StrategyTest.{passes, every, closes, idles, idle_test, held_once, constructs, test_answer}
use Rattle.matching.specs.Cases.{strategy_cases}
use Rattle.matching.specs.Matching.{same_words, bind, first_match, operation, applied, squared, computed, contraction}
use Rattle.reader.specs.Cases.{Hold, book_b, reader_cases}
use Rattle.rewriting.specs.Evaluation.{has_room, rewrite, follow, at_root, evaluate, evaluation}
use Rattle.evaluation.specs.Expansion.{room, earlier, after_checks, record_after}
use Rattle.rewriting.specs.Trace.{keep}
use Rattle.rewriting.specs.Trace.{in_order}
use Rattle.system.specs.Terms.{among, occurs}
use Rattle.walks.specs.Activity.{flags, pending, active_at}
use Rattle.replay.specs.Replay.{told_by, replay}
use Rattle.cases.specs.Cases.{expanding, recording, following, evaluator_cases, starred, literal_cases, record_cases, square_cases, same_book, repeat_cases, request_cases}

pub starred-cases : Hold starred
unfolding starred reader_cases strategy_cases evaluator_cases test_answer first_failing passes every closes idles idle_test held_once occurs constructs
    expanding book_b zeros after_checks room earlier evaluation evaluate at_root follow rewrite has_room system_of contraction first_match bind same_words instance
    span argument replace strategy read read_system read_rules read_end read_rule read_side read_words read_strategy number word learn side_fault
    symbol_fault variable_fault outside each times term_fault term_answer is_symbol arity is_literal is_built_in is_binary is_unary built_in_arity built_in_strategy
    computed applied operation squared larger smaller square_law
starred-cases = refl

-- and those of the requests
pub request-cases : Hold request_cases
unfolding request_cases literal_cases record_cases square_cases repeat_cases same_book
    test_answer first_failing passes every closes idles idle_test held_once occurs constructs
    expanding recording following book_b zeros after_checks record_after keep in_order replay told_by active_at pending flags among
    room earlier evaluation evaluate at_root follow rewrite has_room system_of contraction first_match bind same_words instance
    span argument replace strategy read read_system read_rules read_end read_rule read_side read_words read_strategy number word learn side_fault
    symbol_fault variable_fault outside each times term_fault term_answer is_symbol arity is_literal is_built_in is_binary is_unary built_in_arity built_in_strategy
    computed applied operation squared larger smaller square_law
request-cases = refl
