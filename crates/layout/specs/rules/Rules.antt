-- Where a rule stands in a book: a length and its left side, then a length and its right side.
use Rattle.std.specs.Prelude.{ℕ, ◌+◌, ◌<◌, List, length, get_or}
use Rattle.reader.specs.Book.{system_of}
use Rattle.layout.specs.index.Accepted.{RulesAt}

-- the index of the first word of each side, how many words each side has, and the index after the rule
pub record RuleSpan : Type 0 where
  pub lhs : ℕ
  pub width : ℕ
  pub rhs : ℕ
  pub size : ℕ
  pub next : ℕ

-- the index of the second length, and the index after the rule
abbrev pub right_length : List ℕ → ℕ → ℕ
right_length ws at = at + 1 + get_or ws at 0

abbrev pub rule_end : List ℕ → ℕ → ℕ
rule_end ws at = right_length ws at + 1 + get_or ws (right_length ws at) 0

-- the rule whose first length stands at `at`
unfoldable pub rule_span : List ℕ → ℕ → RuleSpan
rule_span ws at = record {
  lhs = at + 1;
  width = get_or ws at 0;
  rhs = right_length ws at + 1;
  size = get_or ws (right_length ws at) 0;
  next = rule_end ws at;
}

-- a rule of the book stands at `at`
abbrev pub RuleStands : List ℕ → ℕ → Type 0
RuleStands ws at = (k : ℕ) × (k < length (system_of ws).rules) × RulesAt ws k at
