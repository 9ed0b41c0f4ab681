-- The starred cases of the reader and of the check of a term, computed: one fact for the whole table.
use mathlib.Core.Path.{refl}
use Rattle.system.specs.BuiltIns.{is_built_in, is_binary, is_unary, built_in_arity}
use Rattle.system.specs.Signature.{is_symbol, arity}
use Rattle.reader.specs.Parser.{read, read_system, read_rules, read_end, read_rule, read_side, read_words, read_strategy, number, word}
use Rattle.reader.specs.Parser.{learn, side_fault, symbol_fault, variable_fault, outside, each, times}
use Rattle.system.specs.TermCheck.{term_fault}
use Rattle.reader.specs.Answers.{term_answer}
use Rattle.reader.specs.Cases.{Hold, book_b, reader_cases}

pub reader-cases : Hold reader_cases
unfolding reader_cases book_b read read_system read_rules read_end read_rule read_side read_words read_strategy number word learn side_fault
    symbol_fault variable_fault outside each times term_fault term_answer is_symbol arity is_built_in is_binary is_unary built_in_arity
reader-cases = refl
