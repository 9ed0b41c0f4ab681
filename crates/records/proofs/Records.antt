-- Laws of a record: its words, and the buffer that holds them.
use Prim.Native.Nat.{ℕ, suc, ◌+◌, ◌*◌, ◌≤◌}
use native.Mathlib.Omega.{arith}
use mathlib.Core.Path.{◌≡◌, refl, sym, ap, ◌∙◌}
use mathlib.Core.Bool.{Bool, true, false}
use mathlib.Core.List.{List, [], ◌∷◌, ◌++◌, append_assoc}
use lib.ListN.{length, take, drop, set}
use lib.Seq.{take_at, sets-eq, length-sets}
use Rattle.buffers.specs.Words.{over}
use Rattle.buffers.proofs.Over.{over-append, drop-over}
use Rattle.rewriting.specs.Trace.{Pair, Trace, in_order}
use Rattle.rewriting.specs.Trace.{keep}
use Rattle.records.specs.recording.Kept.{kept, paired}

-- ---- the words

in_order_lem : (h : Trace) (ws : List ℕ) → in_order h ws ≡ in_order h [] ++ ws
unfolding in_order
in_order_lem [] ws = refl
in_order_lem (d ∷ h) ws =
    in_order_lem h (d.at ∷ d.number ∷ ws) ∙ sym (ap (λ z. z ++ ws) (in_order_lem h (d.at ∷ d.number ∷ [])) ∙ append_assoc (in_order h []) (d.at ∷ d.number ∷ []) ws)

pub in-order-length : (h : Trace) (ws : List ℕ) → length (in_order h ws) ≡ 2 * length h + length ws
unfolding in_order
in-order-length [] ws = omega arith
in-order-length (d ∷ h) ws = let z = in-order-length h (d.at ∷ d.number ∷ ws) in omega arith

-- one more pair
in-order-next : (d : Pair) (h : Trace) → in_order (d ∷ h) [] ≡ in_order h [] ++ (d.at ∷ d.number ∷ [])
unfolding in_order
in-order-next d h = in_order_lem h (d.at ∷ d.number ∷ [])

-- ---- the buffer

-- the words written over the front of a buffer are its first words
pub written : (out t : List ℕ) (n : ℕ) → length t ≡ n → n ≤ length out → take n (over out 0 t) ≡ t
written out t n e h =
    let k : 0 + length t ≡ length t = omega arith in
    ap (take n) (sets-eq t out 0 (omega arith)) ∙ take_at t (drop (0 + length t) out) n e

-- no pair yet
keep-start : (words : List ℕ) → keep words [] ≡ words
unfolding keep in_order
keep-start words = refl

keep-length : (words : List ℕ) (h : Trace) → length (keep words h) ≡ length words
unfolding keep
keep-length words h = length-sets words 0 (in_order h [])

-- two stores for one more pair
keep-next : (words : List ℕ) (d : Pair) (h : Trace) (k : ℕ) → length h ≡ k →
    keep words (d ∷ h) ≡ set (set (keep words h) (2 * k) d.at) (2 * k + 1) d.number
unfolding keep
keep-next words d h k e =
    let n : 0 + length (in_order h []) ≡ 2 * k = (let z = in-order-length h [] in omega arith) in
    let m : suc (2 * k) ≡ 2 * k + 1 = omega arith in
    ap (over words 0) (in-order-next d h) ∙ over-append words 0 (in_order h []) (d.at ∷ d.number ∷ [])
    ∙ ap (λ z. over (over words 0 (in_order h [])) z (d.at ∷ d.number ∷ [])) n
    ∙ ap (λ z. set (set (over words 0 (in_order h [])) (2 * k) d.at) z d.number) m

-- "cut to its pairs"
pub keep-cut : (words : List ℕ) (h : Trace) → 2 * length h ≤ length words → take (2 * length h) (keep words h) ≡ in_order h []
unfolding keep
keep-cut words h l =
    written words (in_order h []) (2 * length h) (let z = in-order-length h [] in omega arith) l

-- "its other words unchanged"
pub keep-rest : (words : List ℕ) (h : Trace) → drop (2 * length h) (keep words h) ≡ drop (2 * length h) words
unfolding keep
keep-rest words h = drop-over (2 * length h) words 0 (in_order h []) (let z = in-order-length h [] in omega arith)

-- ---- the same, where it is told by a flag whether there is a record

pub paired-told : (b : Bool) (words : List ℕ) (k at number : ℕ) → b ≡ true → paired b words k at number ≡ set (set words (2 * k) at) (2 * k + 1) number
paired-told b words k at number e = rw e

pub paired_none : (b : Bool) (words : List ℕ) (k at number : ℕ) → b ≡ false → paired b words k at number ≡ words
paired_none b words k at number e = rw e

pub kept-start : (b : Bool) (words : List ℕ) → words ≡ kept b words []
kept-start true words = sym (keep-start words)
kept-start false words = refl

pub kept-length : (b : Bool) (words : List ℕ) (h : Trace) → length (kept b words h) ≡ length words
kept-length true words h = keep-length words h
kept-length false words h = refl

pub kept_next : (b : Bool) (words : List ℕ) (d : Pair) (h : Trace) (k : ℕ) → length h ≡ k → paired b (kept b words h) k d.at d.number ≡ kept b words (d ∷ h)
kept_next true words d h k e = sym (keep-next words d h k e)
kept_next false words d h k e = refl
