-- The check of a term against a book: the book decides first, then the term.
use Prim.Native.Nat.{ℕ}
use native.Mathlib.Omega.{arith}
use mathlib.Core.Path.{◌≡◌, refl, ap}
use mathlib.Core.Option.{Option, none, some}
use mathlib.Core.List.{List}
use Rattle.std.specs.Prelude.{Some, None, Err}
use Rattle.system.specs.declared.numbers.Fault.{Fault}
use Rattle.system.specs.Numbers.{fault_number}
use Rattle.system.specs.System.{System}
use Rattle.reader.specs.declared.Refusal.{Refusal}
use Rattle.reader.specs.declared.scan.Scan.{Scan}
use Rattle.reader.specs.Parser.{ok, fault, read}
use Rattle.system.specs.TermCheck.{term_fault}
use Rattle.reader.specs.Answers.{answer_of, whole_answer, term_answer}
use Rattle.system.specs.Signature.{signature_of}
use Rattle.reader.specs.scan.Sections.{found}
use Rattle.reader.proofs.Located.{read-signature}
use Rattle.reader.proofs.scan.Outcomes.{scan-refused}

module _ (ws t : List ℕ) where
  pub term-refused : {f : Fault} {i : ℕ} → read ws ≡ fault f i → term_answer ws t ≡ answer_of (fault f i)
  unfolding term_answer
  term-refused e = rw (e, term_answer)

  pub term-checked : {x : System} {i : ℕ} → read ws ≡ ok x i → term_answer ws t ≡ whole_answer t (term_fault (signature_of ws) 1 t 0)
  unfolding term_answer
  term-checked e = rw (e, term_answer, read-signature ws e)

-- a refused book decides first
pub scan_refuses : (s : Scan) {r : Refusal} (t : List ℕ) → s.outcome ≡ Err r → term_answer s.words.now t ≡ record { number = fault_number r.fault; place = r.place; steps = 0 }
scan_refuses s t e = term-refused s.words.now t (scan-refused s refl e)

-- which word breaks the term, if one does
pub found-some : {o : Option ℕ} {i : ℕ} → Some i ≡ found o → o ≡ some i
found-some {o = none} e = absurd (let z : ◌≡◌ {A = ℕ} 0 1 = cc in omega arith)
found-some {o = some j} {i} e = let q : j ≡ i = cc in ap some q

pub found-none : {o : Option ℕ} → None ≡ found o → o ≡ none
found-none {o = none} e = refl
found-none {o = some j} e = absurd (let z : ◌≡◌ {A = ℕ} 0 1 = cc in omega arith)
