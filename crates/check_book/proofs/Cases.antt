-- What is printed of a book, written out here by hand and computed from the definition: one fact.
use mathlib.Core.Path.{◌≡◌, refl}
use mathlib.Core.List.{[], ◌∷◌}
use lib.ListN.{replicate, set}
use Rattle.system.specs.BuiltIns.{is_built_in, is_binary, is_unary, built_in_arity, built_in_strategy}
use Rattle.system.specs.Signature.{is_symbol, arity, span, argument}
use Rattle.system.specs.System.{strategy}
use Rattle.system.specs.Terms.{occurs}
use Rattle.reader.specs.Parser.{read, read_system, read_rules, read_end, read_rule, read_side, read_words, read_strategy, number, word, learn, side_fault, symbol_fault, variable_fault}
use Rattle.reader.specs.Parser.{outside, each, times}
use Rattle.reader.specs.Cases.{book_b, cut_b, long_b, twice_b, early_b}
use Rattle.system.specs.FirstFailing.{first_failing}
use Rattle.matching.specs.StrategyTest.{passes, every, closes, idles, idle_test, held_once, constructs, test_answer}
use Rattle.printing.specs.Text.{ascii, decimal_in, decimal}
use Rattle.files.specs.Words.{words_of}
use Rattle.files.specs.Files.{absent, bytes, check}
use Rattle.check_book.specs.Verdict.{refusal_line, taken_line, order_line, book_text, text_of, verdict}

pub verdict-cases :
    (verdict absent ≡ ascii "missing\n")
    × (verdict (bytes (replicate 42503 0)) ≡ ascii "long\n")
    × (verdict (bytes (0 ∷ [])) ≡ ascii "odd\n")
    -- "B is taken, place 39", and passes
    × (book_text book_b ≡ ascii "show.book: taken, 39 words\norder test: taken, every name passes\n")
    -- "Head's order 0 1: order test 14 at 2"
    × (book_text early_b
    ≡ ascii "show.book: taken, 39 words\norder test: unsettled at name 2: its order holds no 0, or an entry after the last 0 is not idle\n")
    -- "Word 29 made 32768", 02, F-7: "taken, place 39"; made 32770, after one placeholder, it is above the count
    × (book_text twice_b ≡ ascii "show.book: taken, 39 words\norder test: taken, every name passes\n")
    × (book_text (set book_b 29 32770)
    ≡ ascii "show.book: stray at word 29: a left placeholder is above the count of different ones before it, or a right one is not in the left\n")
    -- "Without its last word: 1 at 38"; "With one word more: 8 at 39"
    × (book_text cut_b ≡ ascii "show.book: short at word 38: a word the book needs is missing\n")
    × (book_text long_b ≡ ascii "show.book: surplus at word 39: words after the last rule\n")
    -- 02, F-2: word 20, the first word of a left side, made level 0
    × (book_text (set book_b 20 16384) ≡ ascii "show.book: builtin at word 20: a left side starts with a level or a built-in word\n")
unfolding check words_of decimal_in decimal refusal_line taken_line order_line book_text text_of book_b
    test_answer first_failing passes every closes idles idle_test held_once occurs constructs strategy span argument
    read read_system read_rules read_end read_rule read_side read_words read_strategy number word learn side_fault symbol_fault variable_fault outside each times is_symbol arity
    is_built_in is_binary is_unary built_in_arity built_in_strategy
verdict-cases = (refl, refl, refl, refl, refl, refl, refl, refl, refl, refl)
