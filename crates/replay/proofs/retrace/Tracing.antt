-- What is known of a replay at the head of its loop, each way out of a turn, and that the next one starts as this one did.
use Prim.Native.Nat.{min, ℕ, suc, ◌+◌, ◌*◌, ◌-◌, ◌≤◌, ◌<◌}
use native.Mathlib.Omega.{arith}
use mathlib.Core.Path.{◌≡◌, refl, sym, ap, ◌∙◌}
use mathlib.Core.List.{List, [], ◌∷◌, ◌++◌}
use Rattle.std.specs.Prelude.{Result, Ok, Err, MatchResult}
use lib.ListN.{length, get_or, drop, length-drop, get_or-append, drop_of_length-le}
use lib.Seq.{drop-cons, drop-drop, drop_at, get_or-drop}
use Rattle.reader.specs.declared.book.Book.{Book}
use Rattle.system.specs.Signature.{signature_of}
use Rattle.reader.specs.Book.{system_of}
use Rattle.system.specs.Limits.{area_words}
use Rattle.system.specs.System.{System}
use Rattle.system.specs.Terms.{Whole}
use Rattle.rows.specs.declared.gap.Gap.{Gap}
use Rattle.rows.specs.lengths.Written.{Laid}
use Rattle.rewriting.specs.Trace.{Trace}
use Rattle.rewriting.specs.Evaluation.{Config, start}
use Rattle.walks.specs.declared.walk.Finger.{Finger}
use Rattle.replay.specs.declared.retrace.Pair.{Pair}
use Rattle.replay.specs.declared.retrace.Halt.{Halt}
use Rattle.replay.specs.declared.retrace.Halt.TheVariants.{Untrue, Overlong}
use Rattle.replay.specs.Replay.{replay}
use Rattle.walks.specs.walk.Way.{Points}
use Rattle.replay.specs.retrace.Retraces.{Follows, wrong, long, goes, Retraces, ends, mistaken, exceeding}
use Rattle.replay.proofs.Pairs.{replay-end, replay-half, replay-wrong, replay-long, replay-goes}
use Rattle.replay.proofs.retrace.Stepping.{points-start}

-- the record is cut into pairs: behind k of them are left the next one, which may be half, and the rest
pub record Cut (words : List ℕ) (k : ℕ) (left pair rest : List ℕ) : Type 0 where
  pub behind : left ≡ drop (2 * k) words
  pub cut : left ≡ pair ++ rest
  pub many : length pair ≡ min 2 (length left)
  pub some : 0 < length left

module _ {words : List ℕ} {k : ℕ} {left pair rest : List ℕ} (c : Cut words k left pair rest) where
  left-length : length left ≡ length words - 2 * k
  left-length = ap length c.behind ∙ length-drop (2 * k) words

  pub half-left : length pair < 2 → (2 * k < length words) × (length words - 2 * k < 2)
  half-left half = (omega (arith, left-length, c.some), omega (arith, left-length, c.many))

  module _ (whole : 2 ≤ length pair) where
    pub pair-left : 2 ≤ length words - 2 * k
    pair-left = omega (arith, left-length, c.many)

    pair-word : (i : ℕ) → i < 2 → get_or pair i 0 ≡ get_or words (2 * k + i) 0
    pair-word i h = sym (get_or-append pair rest 0 i (omega arith)) ∙ ap (λ y. get_or y i 0) (sym c.cut ∙ c.behind) ∙ get_or-drop (2 * k) words i 0

    pub pair-first : get_or pair 0 0 ≡ get_or words (2 * k) 0
    pair-first = let e : 2 * k + 0 ≡ 2 * k = omega arith in pair-word 0 (omega arith) ∙ ap (λ n. get_or words n 0) e

    pub pair-second : get_or pair 1 0 ≡ get_or words (2 * k + 1) 0
    pair-second = pair-word 1 (omega arith)

    pub pair-rest : rest ≡ drop (2 * (k + 1)) words
    pair-rest =
        let e : 2 * k + 2 ≡ 2 * (k + 1) = omega arith in
        sym (drop_at pair rest 2 (omega (arith, c.many))) ∙ ap (drop 2) (sym c.cut ∙ c.behind) ∙ drop-drop 2 (2 * k) words ∙ ap (λ n. drop n words) e

-- k pairs of the record are followed, and what the rest of it leads to is what the whole record leads to
pub record Tracing (s : System) (t₀ words ws : List ℕ) (f : Finger) (k : ℕ) : Type 0 where
  pub term : List ℕ
  pub trace : Trace
  pub points : Points s term ws f
  pub counted : length trace ≡ k
  pub fits : 2 * k ≤ length words
  pub same : replay s (drop (2 * k) words) (record { term = term; trace = trace }) ≡ replay s words (start t₀)

pub tracing-start : (book : Book) (t₀ words ws : List ℕ) (gap : Gap) → Whole (system_of book.words.now).arities t₀ →
    Laid (signature_of book.words.now) t₀ area_words ws gap → Tracing (system_of book.words.now) t₀ words ws (record { gap = gap; level = 0; at = 0 }) 0
tracing-start book t₀ words ws gap h l = record {
  term = t₀;
  trace = [];
  points = points-start book t₀ ws gap h l;
  counted = refl;
  fits = omega arith;
  same = refl;
}

module _ (s : System) (t₀ words : List ℕ) {ws : List ℕ} {f : Finger} {k : ℕ} (v : Tracing s t₀ words ws f k) where
  abbrev r : Config
  r = record { term = v.term; trace = v.trace }

  -- the record ends
  pub traces-end : length words ≤ 2 * k → (n : ℕ) → n ≡ k → Retraces ws (replay s words (start t₀)) (Ok (record { gap = f.gap; steps = n }))
  traces-end h n e =
      let z = sym v.same ∙ ap (λ y. replay s y r) (drop_of_length-le words {i = 2 * k} h) ∙ replay-end s r in
      rw z (ends _ (e ∙ sym v.counted) (record { lies = v.points.measured.gapped.lies; equal = v.points.term }))

  -- half a pair is left
  pub traces-half : 2 * k < length words → length words - 2 * k < 2 → Retraces ws (replay s words (start t₀)) (Err (record { why = Untrue; steps = k }))
  traces-half h l =
      let d : drop (2 * k) words ≡ get_or words (2 * k) 0 ∷ [] =
      drop-cons words (2 * k) 0 h ∙ ap (λ y. get_or words (2 * k) 0 ∷ y) (drop_of_length-le words {i = suc (2 * k)} (omega arith)) in
      let z = sym v.same ∙ ap (λ y. replay s y r) d ∙ replay-half s (get_or words (2 * k) 0) r in
      rw z (mistaken _ (ap (λ c. record { why = Untrue; steps = c }) (sym v.counted)))

  -- a pair is left
  module _ (room : 2 ≤ length words - 2 * k) (p : Pair) (at : p.at ≡ get_or words (2 * k) 0) (number : p.number ≡ get_or words (2 * k + 1) 0) where
    next : drop (2 * k) words ≡ p.at ∷ p.number ∷ drop (2 * (k + 1)) words
    next =
        let a : 2 * k + 1 ≡ suc (2 * k) = omega arith in
        let b : 2 * (k + 1) ≡ suc (2 * k + 1) = omega arith in
        drop-cons words (2 * k) 0 (omega arith) ∙ ap (λ y. get_or words (2 * k) 0 ∷ drop y words) (sym a)
        ∙ ap (λ y. get_or words (2 * k) 0 ∷ y) (drop-cons words (2 * k + 1) 0 (omega arith))
        ∙ (λ i. sym at i ∷ sym number i ∷ drop (sym b i) words)

    paired : replay s (p.at ∷ p.number ∷ drop (2 * (k + 1)) words) r ≡ replay s words (start t₀)
    paired = ap (λ y. replay s y r) (sym next) ∙ v.same

    -- where it was followed, it goes on or stops there
    abbrev pub Turns : List ℕ → Result Finger Halt → Type 0
    Turns ws' e = MatchResult e (λ f'. Tracing s t₀ words ws' f' (k + 1)) (λ why. Retraces ws' (replay s words (start t₀)) (Err (record { why = why; steps = k })))

    pub turns : (ws' : List ℕ) (e : Result Finger Halt) → Follows s v.term p ws' e → Turns ws' e
    turns ws' _ (wrong e w) =
        let z = sym paired ∙ replay-wrong s p.at p.number (drop (2 * (k + 1)) words) r e in
        rw z (mistaken _ (ap (λ c. record { why = Untrue; steps = c }) (sym v.counted)))
    turns ws' _ (long x e l w) =
        let z = sym paired ∙ replay-long s p.at p.number (drop (2 * (k + 1)) words) r x e l in
        rw z (exceeding _ (ap (λ c. record { why = Overlong; steps = c }) (sym v.counted)))
    turns ws' _ (goes x f' e l q) = record {
      term = _;
      trace = record { at = p.at; number = x.number } ∷ v.trace;
      points = q;
      counted = omega (arith, v.counted);
      fits = omega arith;
      same = sym (replay-goes s p.at p.number (drop (2 * (k + 1)) words) r x e l) ∙ paired;
    }
