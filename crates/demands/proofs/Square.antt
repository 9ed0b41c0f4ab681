-- The curve (02, F-4) in the evaluator's own answers: what becomes of curve(level n) over every book, and that it never falls.
use Prim.Native.Nat.{ℕ, suc, ◌+◌, ◌≤◌, ◌<◌}
use native.Mathlib.Nat.{add-sub_cancel_left}
use native.Mathlib.Omega.{arith}
use mathlib.Core.Path.{◌≡◌, refl, sym, ap, ◌∙◌, subst}
use mathlib.Core.Logic.{inl}
use mathlib.Core.Bool.{true}
use mathlib.Core.Option.{some}
use mathlib.Core.List.{List, [], ◌∷◌}
use lib.ListN.{length, get_or}
use Rattle.system.specs.BuiltIns.{literal, literals, square, square_law}
use Rattle.system.specs.Signature.{Signature, Symbol, arity, span, argument, replace}
use Rattle.system.specs.System.{System, strategy}
use Rattle.system.specs.Rules.{square_rule}
use Rattle.system.specs.Terms.{Forest, empty, more, Whole, WellFormed}
use Rattle.reader.specs.Parser.{Parsed, ok, fault, read}
use Rattle.reader.specs.Answers.{answer_of}
use Rattle.reader.specs.Book.{system_of}
use Rattle.system.proofs.BuiltIns.{eager, literal-is, range-builtin, arity-one, arity-none, strategy-eager}
use Rattle.system.proofs.SquareLaw.{square-below, square-rises}
use Rattle.system.proofs.Signatures.{symbol-builtin, arity-unlisted, few-listed}
use Rattle.system.proofs.Rules.{strategy-unlisted}
use Rattle.system.proofs.FaultNumbers.{fault-not-zero}
use Rattle.reader.proofs.Accepts.{read-sound}
use Rattle.matching.specs.Matching.{Contraction, computed_contraction, contraction}
use Rattle.matching.proofs.Computed.{computed-square}
use Rattle.matching.proofs.Firsts.{contraction-computed, first-high}
use Rattle.rewriting.specs.Evaluation.{Limits, Config, Outcome, finished, and_then, unrecorded, has_room, start, stepped, follow, evaluate, evaluation}
use Rattle.rewriting.proofs.Walks.{rewrite-goes, follow-end, follow-fire, follow-open}
use Rattle.rewriting.proofs.Fuel.{evaluate-again}
use Rattle.evaluation.specs.Expansion.{Expansion, expansion, handed_back}
use Rattle.evaluation.proofs.Expanding.{checks}
use Rattle.evaluation.proofs.Handed.{handed}
use Rattle.demands.specs.Square.{square_of, IsSquared, NeverFalls}
use Rattle.demands.proofs.Demand3.{is-handed-back, whole-checked}

-- what comes of it: the level alone, after one step at the first word, by the curve's rule
abbrev squared_run : ℕ → Config
squared_run n = record { term = (literal + square_law n) ∷ []; trace = record { at = 0; number = square_rule } ∷ [] }

-- ---- the words of curve(level n)

-- its argument is the second word
square-argument : (g : Signature) (n : ℕ) → argument g (square_of n) 0 0 ≡ 1
unfolding argument span
square-argument g n = refl

module _ (g : Signature) (few : length g ≤ literal) where
  square-arity : arity g square ≡ 1
  square-arity = arity-unlisted g square (omega arith) ∙ arity-one square (omega arith) (omega arith)

  level-arity : (n : ℕ) → n < literals → arity g (literal + n) ≡ 0
  level-arity n h = arity-unlisted g (literal + n) (omega arith) ∙ arity-none (literal + n) (inl (omega arith))

  square-whole : (n : ℕ) → n < literals → Whole g (square_of n)
  square-whole n h =
      let a = square-arity in
      let b = level-arity n h in
      let level = more {k = 0} (symbol-builtin g (literal + n) (range-builtin (literal + n) (omega arith) (omega arith))) (subst (λ c. Forest g (Symbol g) c []) (omega arith) empty) in
      more {k = 0} (symbol-builtin g square (range-builtin square (omega arith) (omega arith))) (subst (λ c. Forest g (Symbol g) c ((literal + n) ∷ [])) (omega arith) level)

  -- a step at its first word leaves nothing of it
  square-replaced : (n v : ℕ) → replace g (square_of n) 0 (v ∷ []) ≡ v ∷ []
  unfolding replace span
  square-replaced n v = rw square-arity

-- ---- its evaluation

module _ (s : System) (wf : WellFormed s) where
  square-strategy : strategy s square ≡ 1 ∷ 0 ∷ []
  square-strategy = strategy-unlisted s square (omega arith) ∙ strategy-eager square ∙ ap eager (arity-one square (omega arith) (omega arith))

  level-strategy : (n : ℕ) → n < literals → strategy s (literal + n) ≡ []
  level-strategy n h = strategy-unlisted s (literal + n) (omega arith) ∙ strategy-eager (literal + n) ∙ ap eager (arity-none (literal + n) (inl (omega arith)))

  square-contraction : (n : ℕ) → n < literals → contraction s (square_of n) ≡ some (record { number = square_rule; reduct = (literal + square_law n) ∷ [] })
  square-contraction n h =
      contraction-computed s (square_of n) (first-high s wf (square_of n) (omega arith))
      ∙ ap computed_contraction (computed-square (square_of n) (literal-is n h) refl)
      ∙ ap (λ k. some (record { number = square_rule; reduct = (literal + square_law k) ∷ [] })) (add-sub_cancel_left literal n)

  module _ (limits : Limits) where
    -- a level is as it is
    level-rests : (n l p : ℕ) (r : Config) → n < literals → get_or r.term p 0 ≡ literal + n → evaluate s limits (suc l) p r ≡ finished r
    level-rests n l p r h e =
        evaluate-again s limits l p r
        ∙ ap (λ es. follow s limits (evaluate s limits l) (evaluate s limits (suc l)) es p r) (ap (strategy s) e ∙ level-strategy n h)
        ∙ follow-end s limits (evaluate s limits l) (evaluate s limits (suc l)) p r

    -- "level n becomes (n × n + 127) divided by 255, whole part", where a step is allowed and the record, if there is one, has room for it
    pub evaluation-square : 1 ≤ limits.steps → has_room limits.room 0 ≡ true → (n : ℕ) → n < literals →
        evaluation s limits (square_of n) ≡ finished (record { term = (literal + square_law n) ∷ []; trace = record { at = 0; number = square_rule } ∷ [] })
    unfolding evaluation
    evaluation-square some-step room n h =
        evaluate-again s limits 63 0 r
        ∙ ap (λ es. follow s limits inner again es 0 r) square-strategy
        ∙ follow-open s limits inner again 0 (0 ∷ []) 0 r
        ∙ ap (λ p. and_then (inner p r) on) (square-argument s.arities n)
        ∙ ap (λ o. and_then o on) (level-rests n 62 1 r h refl)
        ∙ follow-fire s limits inner again [] 0 r x (square-contraction n h)
        ∙ rewrite-goes s limits 0 r x (omega arith) room (omega (arith, ap length same)) (again 0)
        ∙ ap (again 0) left
        ∙ level-rests (square_law n) 63 0 (squared_run n) (square-below n h) refl
      where
        r : Config
        r = start (square_of n)

        x : Contraction
        x = record { number = square_rule; reduct = (literal + square_law n) ∷ [] }

        inner : ℕ → Config → Outcome
        inner = evaluate s limits 63

        again : ℕ → Config → Outcome
        again = evaluate s limits 64

        on : Config → Outcome
        on r' = follow s limits inner again (0 ∷ []) 0 r'

        same : (stepped s 0 r x).term ≡ (literal + square_law n) ∷ []
        same = square-replaced s.arities (few-listed s wf) n (literal + square_law n)

        left : stepped s 0 r x ≡ squared_run n
        left = λ i. record { term = same i; trace = record { at = 0; number = square_rule } ∷ [] }

-- ---- what the evaluator answers

-- a book that the reader accepts
accepted : (book : List ℕ) → (answer_of (read book)).number ≡ 0 → read book ≡ ok (system_of book) (length book)
unfolding system_of
accepted book e = go (read book) refl e
  where
    go : (o : Parsed System) → read book ≡ o → (answer_of o).number ≡ 0 → read book ≡ ok (system_of book) (length book)
    go (fault f i) q z = absurd (fault-not-zero f z)
    go (ok s i) q z = rw (q, system_of) (ap (ok s) (read-sound book q).2)

module _ (book : List ℕ) (limit : ℕ) where
  module _ (n : ℕ) (h : n < literals) (out work : List ℕ) where
    pub is-squared : IsSquared book n limit out work (expansion book (square_of n) (unrecorded limit) out work)
    unfolding has_room
    is-squared e a b some-step =
        let q = accepted book e in
        let wf = (read-sound book q).0 in
        let w = square-whole (system_of book).arities (few-listed (system_of book) wf) n h in
        let good = whole-checked book (square_of n) q w (omega arith) in
        let run = evaluation-square (system_of book) wf (unrecorded limit) some-step refl n h in
        is-handed-back book (square_of n) (unrecorded limit) out work a b good (squared_run n) run

    -- of an expansion that hands something back
    handed-square : 1 ≤ limit → (x : Expansion) → x ≡ expansion book (square_of n) (unrecorded limit) out work → x.numbers.number ≡ 0 →
        get_or (handed_back x) 0 0 ≡ literal + square_law n
    handed-square some-step x e z =
        let k = handed book (square_of n) (unrecorded limit) out work (sym (ap (λ y. y.numbers.number) e) ∙ z) in
        let c = checks book (square_of n) k.good in
        let z : (answer_of (read book)).number ≡ 0 = ap (λ o. (answer_of o).number) c.accepted in
        ap (λ y. get_or (handed_back y) 0 0) e ∙ ap (λ y. get_or y 0 0) (is-squared z k.room-answer k.room-work some-step).1

  -- "It never falls from one level to the next"
  pub never-falls : 1 ≤ limit → {m n : ℕ} → m < literals → n < literals → (out work again spare : List ℕ) (x y : Expansion) →
      x ≡ expansion book (square_of m) (unrecorded limit) out work → y ≡ expansion book (square_of n) (unrecorded limit) again spare → NeverFalls m n x y
  never-falls some-step {m} {n} h l out work again spare x y e f rises p q =
      let a = handed-square m h out work some-step x e p in
      let b = handed-square n l again spare some-step y f q in
      omega (arith, square-rises rises)
