-- Safety: the condition of the strategy test (01: the order test), by which a system's strategies miss no rule.
use Rattle.std.specs.Prelude.{ℕ, suc, ◌≤◌, ◌<◌, ◌≡◌, ◌⊎◌, ◌↔◌, List, ◌∷◌, ◌++◌, length, get_or}
use Rattle.system.specs.declared.Answer.{Answer}
use Rattle.system.specs.Numbers.{number_of}
use Rattle.system.specs.declared.numbers.Fault.{Fault}
use Rattle.system.specs.declared.numbers.Verdict.TheVariants.{Taken, Unsettled}
use Rattle.system.specs.Limits.{variable}
use Rattle.system.specs.Signature.{Signature, Symbol, Listed, argument}
use Rattle.system.specs.System.{System, Rule, strategy, head}
use Rattle.system.specs.Rules.{RuleOf}
use Rattle.system.specs.Terms.{Member, occurs}
use Rattle.reader.specs.Book.{system_of}
use Rattle.reader.specs.Parser.{ok, fault, read}
use Rattle.reader.specs.Answers.{answer_of}

-- the first word of the argument with i others before it
abbrev pub argument_word : Signature → List ℕ → ℕ → ℕ
argument_word g t i = get_or t (argument g t 0 i) 0

-- "a placeholder that its left side holds once" (02, F-7), in all its words
pub record HeldOnce (g : Signature) (lhs : List ℕ) (i : ℕ) : Type 0 where
  pub is_variable : variable ≤ argument_word g lhs i
  pub once : occurs (argument_word g lhs i) lhs ≡ 1

-- "An argument is idle if, and only if, it is a placeholder that its left side holds once, in every left side of the name" (02, F-7): the
-- argument of f with i others before it
abbrev pub Idle : System → ℕ → ℕ → Type 0
Idle s f i = (k : ℕ) (r : Rule) → RuleOf s k r → head r.lhs ≡ f → HeldOnce s.arities r.lhs i

-- an entry that is an idle argument
pub data IdleEntry (s : System) (f : ℕ) : ℕ → Type 0 where
  idle : {i : ℕ} → Idle s f i → IdleEntry s f (suc i)

-- "its order holds a 0 and every entry after the last 0 is an idle argument". (Idle entries are not 0, so the 0 named here is the last.)
pub record Guarded (s : System) (f : ℕ) : Type 0 where
  pub before : List ℕ
  pub after : List ℕ
  pub split : strategy s f ≡ before ++ 0 ∷ after
  pub last : (e : ℕ) → Member e after → IdleEntry s f e

-- a constructor: "no left side starts with it"
abbrev pub Constructor : System → ℕ → Type 0
Constructor s f = (k : ℕ) (r : Rule) → RuleOf s k r → head r.lhs ≡ f → ⊥

-- "a name passes if no left side starts with it, or if its order holds a 0 and .."
abbrev pub Passes : System → ℕ → Type 0
Passes s f = Constructor s f ⊎ Guarded s f

-- "All pass", the built-in symbols too
abbrev pub Safe : System → Type 0
Safe s = (f : ℕ) → Symbol s.arities f → Passes s f

-- "the lowest-numbered name that fails" (02, F-1): it does not pass, and every lower one does
pub record FailsFirst (s : System) (f : ℕ) : Type 0 where
  pub symbol : Symbol s.arities f
  pub fails : Passes s f → ⊥
  pub lower : (g : ℕ) → g < f → Passes s g

-- ---- of a book: it is accepted, and its system is safe, or one of its symbols is the first that fails

pub record SafeBook (b : List ℕ) : Type 0 where
  pub accepted : read b ≡ ok (system_of b) (length b)
  pub safe : Safe (system_of b)

pub record UnsafeBook (b : List ℕ) (f : ℕ) : Type 0 where
  pub accepted : read b ≡ ok (system_of b) (length b)
  pub first : FailsFirst (system_of b) f

-- what the test's answer tells of a book
pub record Tells (b : List ℕ) (r : Answer) : Type 0 where
  -- "A book that the reader refuses gets the reader's answer."
  pub refused : (f : Fault) (i : ℕ) → read b ≡ fault f i → r ≡ answer_of (fault f i)
  -- "All pass: 0": exactly for an accepted book whose system is safe
  pub safe : (r.number ≡ number_of Taken) ↔ SafeBook b
  -- 14 at f exactly if f fails and every lower symbol passes: "the lowest-numbered name that fails" (02, F-1)
  pub unsafe : (f : ℕ) → (r ≡ record { number = number_of Unsettled; place = f; steps = 0 }) ↔ UnsafeBook b f
  -- a symbol that is told is listed: the built-in ones pass in every book (02, F-2)
  pub listed : r.number ≡ number_of Unsettled → Listed (system_of b).arities r.place
