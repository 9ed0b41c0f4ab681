-- Where the sections of an accepted book lie, and one step through them, in the code's own indices.
use Prim.Native.Nat.{ℕ, suc, ◌+◌, ◌-◌, ◌≤◌, ◌<◌}
use native.Mathlib.Omega.{arith}
use native.Mathlib.Numerals.{add-one}
use mathlib.Core.Path.{◌≡◌, sym, ap, ◌∙◌}
use mathlib.Core.List.{List, [], ◌∷◌, ◌++◌, append_assoc}
use lib.ListN.{length, get_or, take, drop, length-append, length-drop}
use lib.Seq.{take-append_seam, drop-cons}
use Rattle.system.specs.Signature.{Signature}
use Rattle.system.specs.System.{System, Rule, no_rule}
use Rattle.reader.specs.Format.{encode_list, encode_strategies, encode_rules, encode}
use Rattle.system.specs.declared.numbers.Fault.TheVariants.{Range}
use Rattle.reader.specs.Parser.{ok, times, each, number, read_strategy, read}
use Rattle.system.specs.Signature.{signature_of}
use Rattle.reader.proofs.Parsed.{drop_head, drop-front}
use Rattle.reader.proofs.ParsesMany.{reads-numbers}
use Rattle.reader.proofs.Strategies.{reads-strategies}
use Rattle.reader.proofs.Accepts.{read-sound}

-- ---- the signature

pub signature-encode : (s : System) → signature_of (encode s) ≡ s.arities
unfolding signature_of encode encode_list
signature-encode s = take-append_seam s.arities _

pub read-signature : (ws : List ℕ) {s : System} {i : ℕ} → read ws ≡ ok s i → s.arities ≡ signature_of ws
read-signature ws {s} e = sym (signature-encode s) ∙ ap signature_of (sym (read-sound ws e).1)

-- the same while the book is still being read, after its first section
pub numbers-signature : (ws : List ℕ) (n : ℕ) {g : Signature} {j : ℕ} → times n (number ws Range 0 8) 1 ≡ ok g j → get_or ws 0 0 ≡ n →
    (g ≡ signature_of ws) × (j ≡ n + 1) × (length g ≡ n)
unfolding signature_of
numbers-signature ws n {g} {j} e c =
    let b = (reads-numbers ws Range 0 8 n).sound e in
    let l : length g ≡ n = ((reads-numbers ws Range 0 8 n).good e).0 in
    let q = b.ends in
    let t : take (length g) (g ++ drop j ws) ≡ g = take-append_seam g (drop j ws) in
    (sym (rw (c, b.words, ← l) t), omega arith, l)

-- the strategies end where their encoding ends, and there are as many as symbols
pub strategies-end : (ws : List ℕ) (g : Signature) (i : ℕ) {j : ℕ} {ess : List (List ℕ)} → each (read_strategy ws) g i ≡ ok ess j →
    (j ≡ i + length (encode_strategies ess)) × (length ess ≡ length g)
strategies-end ws g i e = (((reads-strategies ws g).sound e).ends, ((reads-strategies ws g).good e).0)

-- ---- the sections of an accepted book

pub record Located (ws : List ℕ) (s : System) : Type 0 where
  pub symbols : get_or ws 0 0 ≡ length s.arities
  pub arities : drop 1 ws ≡ s.arities ++ drop (length s.arities + 1) ws
  pub strategies : drop (length s.arities + 2) ws ≡ encode_strategies s.strategies ++ (length s.rules ∷ encode_rules s.rules)
  pub count : get_or ws (length s.arities + 2 + length (encode_strategies s.strategies)) 0 ≡ length s.rules
  pub rules : drop (length s.arities + 3 + length (encode_strategies s.strategies)) ws ≡ encode_rules s.rules
  -- how many words all that is
  pub size : length ws ≡ length s.arities + 3 + length (encode_strategies s.strategies) + length (encode_rules s.rules)

pub located-encode : (ws : List ℕ) (s : System) → ws ≡ encode s → Located ws s
unfolding encode encode_list
located-encode ws s e =
    let n = length s.arities in
    let o = encode_strategies s.strategies in
    let r = encode_rules s.rules in
    let d₁ = drop_head ws 0 n (s.arities ++ (length s.strategies ∷ (o ++ (length s.rules ∷ r)))) e in
    let d₂ = drop-front ws 1 s.arities (length s.strategies ∷ (o ++ (length s.rules ∷ r))) d₁.2 in
    let d₃ = drop_head ws (1 + n) (length s.strategies) (o ++ (length s.rules ∷ r)) d₂ in
    let i₁ : n + 1 ≡ 1 + n = omega arith in
    let i₂ : n + 2 ≡ suc (1 + n) = omega arith in
    let d₄ : drop (n + 2) ws ≡ o ++ (length s.rules ∷ r) = rw i₂ d₃.2 in
    let d₅ = drop-front ws (n + 2) o (length s.rules ∷ r) d₄ in
    let d₆ = drop_head ws (n + 2 + length o) (length s.rules) r d₅ in
    let i₃ : n + 3 + length o ≡ suc (n + 2 + length o) = omega arith in
    let d₇ : drop (n + 3 + length o) ws ≡ r = rw i₃ d₆.2 in
    let l = d₆.0 in
    let q : length ws - (n + 3 + length o) ≡ length r = sym (length-drop (n + 3 + length o) ws) ∙ ap length d₇ in
    record { symbols = d₁.1; arities = rw i₁ (d₁.2 ∙ ap (λ x. s.arities ++ x) (sym d₂)); strategies = d₄; count = d₆.1; rules = d₇; size = omega arith }

pub located : (ws : List ℕ) {s : System} {i : ℕ} → read ws ≡ ok s i → Located ws s
located ws {s} e = located-encode ws s (read-sound ws e).1

-- ---- one step through a section

-- a list after its length, at an index of ws
pub record Encoded (ws : List ℕ) (at : ℕ) (es rest : List ℕ) : Type 0 where
  pub counted : get_or ws at 0 ≡ length es
  pub words : take (length es) (drop (at + 1) ws) ≡ es
  pub rests : drop (at + 1 + length es) ws ≡ rest
  -- it is all there
  pub fits : at + 1 + length es ≤ length ws

pub encoded : (ws : List ℕ) (at : ℕ) (es rest : List ℕ) → drop at ws ≡ encode_list es ++ rest → Encoded ws at es rest
unfolding encode_list
encoded ws at es rest e =
    let d = drop_head ws at (length es) (es ++ rest) e in
    let e' : drop (at + 1) ws ≡ es ++ rest = rw (add-one at) d.2 in
    let l : length ws - (at + 1) ≡ length es + length rest = sym (length-drop (at + 1) ws) ∙ ap length e' ∙ length-append es rest in
    let b = d.0 in
    record { counted = d.1; words = rw e' (take-append_seam es rest); rests = drop-front ws (at + 1) es rest e'; fits = omega arith }

pub strategy-encoded : (ws : List ℕ) (at : ℕ) (es : List ℕ) (ess : List (List ℕ)) (rest : List ℕ) → drop at ws ≡ encode_strategies (es ∷ ess) ++ rest →
    Encoded ws at es (encode_strategies ess ++ rest)
unfolding encode_strategies
strategy-encoded ws at es ess rest e = encoded ws at es (encode_strategies ess ++ rest) (e ∙ append_assoc (encode_list es) (encode_strategies ess) rest)

-- strategy k of a list of them, and the index of the next
pub strategy-at : (ws : List ℕ) (at k : ℕ) (ess : List (List ℕ)) (rest : List ℕ) → k < length ess → drop at ws ≡ encode_strategies (drop k ess) ++ rest →
    Encoded ws at (get_or ess k []) (encode_strategies (drop (k + 1) ess) ++ rest)
strategy-at ws at k ess rest l e = rw (add-one k) (strategy-encoded ws at (get_or ess k []) (drop (suc k) ess) rest (rw (drop-cons ess k [] l) at e))

-- a rule at an index of ws, and the rules after it
pub record RuleAt (ws : List ℕ) (at : ℕ) (r : Rule) (rs : List Rule) : Type 0 where
  pub left-length : get_or ws at 0 ≡ length r.lhs
  pub left-words : take (length r.lhs) (drop (at + 1) ws) ≡ r.lhs
  pub right-length : get_or ws (at + 1 + length r.lhs) 0 ≡ length r.rhs
  pub right-words : take (length r.rhs) (drop (at + 1 + length r.lhs + 1) ws) ≡ r.rhs
  pub rests : drop (at + 1 + length r.lhs + 1 + length r.rhs) ws ≡ encode_rules rs
  pub fits : at + 1 + length r.lhs + 1 + length r.rhs ≤ length ws

pub rule-encoded : (ws : List ℕ) (at : ℕ) (r : Rule) (rs : List Rule) → drop at ws ≡ encode_rules (r ∷ rs) → RuleAt ws at r rs
unfolding encode_rules
rule-encoded ws at r rs e =
    let l = encoded ws at r.lhs (encode_list r.rhs ++ encode_rules rs) e in
    let m = encoded ws (at + 1 + length r.lhs) r.rhs (encode_rules rs) l.rests in
    record { left-length = l.counted; left-words = l.words; right-length = m.counted; right-words = m.words; rests = m.rests; fits = m.fits }

-- rule k of a list of them, and the index of the next
pub rule-at : (ws : List ℕ) (at k : ℕ) (rs : List Rule) → k < length rs → drop at ws ≡ encode_rules (drop k rs) → RuleAt ws at (get_or rs k no_rule) (drop (k + 1) rs)
rule-at ws at k rs l e = rw (add-one k) (rule-encoded ws at (get_or rs k no_rule) (drop (suc k) rs) (rw (drop-cons rs k no_rule l) at e))
