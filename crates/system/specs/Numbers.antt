-- "The table of numbers": the number of each verdict. What a verdict says stands beside it in src/numbers.rt.
use Rattle.std.specs.Prelude.{ℕ}
use Rattle.system.specs.declared.numbers.Fault.{Fault}
use Rattle.system.specs.declared.numbers.Fault.TheVariants.{Missing, Range, Entry, Unknown, Unbalanced, VariableHead, Unbound, Trailing, BuiltInHead}
use Rattle.system.specs.declared.numbers.Limit.{Limit}
use Rattle.system.specs.declared.numbers.Limit.TheVariants.{Spent, Overlong, Nested, Full}
use Rattle.system.specs.declared.numbers.Verdict.{Verdict}
use Rattle.system.specs.declared.numbers.Verdict.TheVariants.{Taken, Faulty, Broken, Cramped, Stopping}
use Rattle.system.specs.declared.numbers.Verdict.TheVariants.{Unsettled, Untrue, Misweighed, Rising, Missorted, IllRule, IllTerm}

abbrev pub number_of : Verdict → ℕ
number_of Taken = 0
number_of (Faulty Missing) = 1
number_of (Faulty Range) = 2
number_of (Faulty Entry) = 3
number_of (Faulty Unknown) = 4
number_of (Faulty Unbalanced) = 5
number_of (Faulty VariableHead) = 6
number_of (Faulty Unbound) = 7
number_of (Faulty Trailing) = 8
number_of Broken = 9
number_of Cramped = 10
number_of (Stopping Spent) = 11
number_of (Stopping Overlong) = 12
number_of (Stopping Nested) = 13
number_of Unsettled = 14
number_of (Faulty BuiltInHead) = 15
number_of (Stopping Full) = 16
number_of Untrue = 17
number_of Misweighed = 18
number_of Rising = 19
number_of Missorted = 20
number_of IllRule = 21
number_of IllTerm = 22

-- the number of a fault, and of a limit
abbrev pub fault_number : Fault → ℕ
fault_number f = number_of (Faulty f)

abbrev pub limit_number : Limit → ℕ
limit_number l = number_of (Stopping l)
