-- Laws of what is printed of a book, in the terms of the code that puts the text.
use Prim.Native.Nat.{ℕ}
use mathlib.Core.Path.{◌≡◌}
use mathlib.Core.List.{List, ◌++◌, append_assoc}
use Rattle.system.specs.declared.Answer.{Answer}
use Rattle.system.specs.declared.numbers.Fault.{Fault}
use Rattle.system.specs.System.{System}
use Rattle.reader.specs.Parser.{ok, fault, read}
use Rattle.matching.specs.StrategyTest.{test_answer}
use Rattle.check_book.specs.Verdict.{fault_line, taken_line, order_line, book_text}

module _ (page ws : List ℕ) where
  pub by-fault : {f : Fault} {i : ℕ} → read ws ≡ fault f i → page ++ fault_line f i ≡ page ++ book_text ws
  unfolding book_text
  by-fault e = rw (e, book_text)

  pub by-test : {s : System} {i : ℕ} {b : Answer} → read ws ≡ ok s i → b ≡ test_answer ws → page ++ taken_line i ++ order_line b ≡ page ++ book_text ws
  unfolding book_text
  by-test {i = i} e tests = rw (tests, e, book_text) (append_assoc page (taken_line i) (order_line (test_answer ws)))
