-- The bounds that 01 and 02 set.
use Rattle.std.specs.Prelude.{ℕ}

-- "A word is an unsigned 16-bit number": the largest
abbrev pub max_word : ℕ
max_word = 65535

-- "a count S, 1 to 256, then S argument counts, each 0 to 8"
abbrev pub max_symbols : ℕ
max_symbols = 256

abbrev pub max_arity : ℕ
max_arity = 8

-- "for each name a length 0 to 16"
abbrev pub max_entries : ℕ
max_entries = 16

-- "a count 0 to 128"
abbrev pub max_rules : ℕ
max_rules = 128

-- "a length 1 to 64 and its left side, then a length 1 to 64 and its right side"
abbrev pub side_words : ℕ
side_words = 64

-- "32768 + k, with k from 0 to 15, is placeholder k": where the variables (01: placeholders) start, and how many there are
abbrev pub variable : ℕ
variable = 32768

abbrev pub variables : ℕ
variables = 16

-- the most words of a term ("in 1 to 4,096 words"), and the least of an answer buffer
abbrev pub term_words : ℕ
term_words = 4096

-- the words of a work buffer that are used ("the work buffer becomes 12,288 words"): the term, "beside each word .. the length of the part
-- that starts there", and the counts of begun entries, a row of 4,096 words each
abbrev pub area_words : ℕ
area_words = 12288

-- the deepest level ("from level 64 this is 13")
abbrev pub levels : ℕ
levels = 64

-- the largest step limit (01: allowance), which has 32 bits
abbrev pub max_steps : ℕ
max_steps = 4294967295

-- "a weight from 1 to 1,000" (02, F-6)
abbrev pub max_weight : ℕ
max_weight = 1000

-- "the kind (0 to 63)" (02, F-8)
abbrev pub max_sort : ℕ
max_sort = 63
