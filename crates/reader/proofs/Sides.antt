-- The words of a side, as the reader checks them one by one and as Terms.antt describes them: the two agree.
use Prim.Native.Nat.{ℕ, zero, suc, ◌+◌, ◌-◌, ◌≤◌, ◌<◌}
use native.Mathlib.Omega.{arith}
use native.Mathlib.Decide.{ℕ_discrete}
use mathlib.Core.Path.{◌≡◌, refl, ap, subst, ◌∙◌}
use mathlib.Core.Logic.{◌⊎◌, inl, inr}
use mathlib.Core.Bool.{Bool, true, false}
use mathlib.Core.Option.{none}
use mathlib.Core.List.{List, [], ◌∷◌}
use lib.ListN.{length, get_or}
use Rattle.system.specs.Limits.{variable, variables}
use Rattle.system.specs.Signature.{Signature, Symbol, Listed, arity}
use Rattle.system.specs.Terms.{Forest, empty, more, Word, Member, first, later, Numbered, end, symbol, next, again}
use Rattle.reader.specs.declared.scan.sides.SideRole.{SideRole}
use Rattle.reader.specs.declared.scan.sides.SideRole.TheVariants.{Left, Right}
use Rattle.reader.specs.Parser.{ok, symbol_fault, side_fault, learn, Reading, read_words, word}
use Rattle.system.proofs.Signatures.{symbol-below}
use Rattle.system.proofs.Members.{numbered-le}
use Rattle.reader.proofs.SideWords.{Variable, side-symbol, variable-passes, passes-due, passes-word, passes-symbol}
use Rattle.reader.proofs.SideWords.{head-listed, symbol-listed, symbol-later, symbol-right}
use Rattle.reader.proofs.SideWords.{left-variable, variable-left, right-variable, variable-right, learn-new, learn-old, learn-right}
use Rattle.reader.proofs.Parsed.{ok-value, ok-place, not-fault, then_ok, Between, between_none, between-end, between_join, between_split, between-ok}
use Rattle.reader.proofs.Parses.{Reads, one, reads_word}

-- ---- all words

-- each word passes its check, from `known` variables up to `last`
pub data Taken (g : Signature) (h : SideRole) : Bool → ℕ → ℕ → ℕ → List ℕ → Type 0 where
  done : {start : Bool} {known : ℕ} → Taken g h start zero known known []
  takes : {start : Bool} {due known last w : ℕ} {ws : List ℕ} → side_fault g h start due known w ≡ none →
      Taken g h false (due - 1 + arity g w) (learn h known w) last ws → Taken g h start due known last (w ∷ ws)

-- what is taken is a forest
pub taken-forest : (g : Signature) (h : SideRole) {start : Bool} {due known last : ℕ} {ws : List ℕ} → Taken g h start due known last ws → Forest g (Word g) due ws
taken-forest g h done = empty
taken-forest g h (takes {start} {due} {known} {w} c t) = step due (passes-due g h start due known w c) (passes-word g h start due known w c) (taken-forest g h t)
  where
    word_of : Symbol g w ⊎ Variable h start known w → Word g w
    word_of (inl s) = inl s
    word_of (inr v) = inr v.low

    step : {ws : List ℕ} (due : ℕ) → 0 < due → Symbol g w ⊎ Variable h start known w → Forest g (Word g) (due - 1 + arity g w) ws → Forest g (Word g) due (w ∷ ws)
    step zero l p f = absurd (omega arith)
    step {ws} (suc due) l p f = more (word_of p) (subst (λ n. Forest g (Word g) n ws) (let e : suc due - 1 + arity g w ≡ due + arity g w = omega arith in e) f)

pub taken-cons : (g : Signature) (h : SideRole) (start : Bool) (due : ℕ) {known known' last w : ℕ} {ws : List ℕ} → side_fault g h start (suc due) known w ≡ none →
    learn h known w ≡ known' → Taken g h false (due + arity g w) known' last ws → Taken g h start (suc due) known last (w ∷ ws)
taken-cons g h start due {known} {known'} {last} {w} {ws} c e t =
    let d : suc due - 1 + arity g w ≡ due + arity g w = omega arith in
    takes {last = last} {ws = ws} c (rw (d, e) t)

module _ (g : Signature) (below : length g ≤ variable) where
  -- the left side: its variables are numbered from 0 as they come, and it starts with a listed symbol
  pub taken-numbered : {start : Bool} {due known last : ℕ} {ws : List ℕ} → Taken g Left start due known last ws → Numbered known last ws
  taken-numbered done = end
  taken-numbered (takes {start} {due} {known} {last} {w} {ws} c t) = step (passes-word g Left start due known w c) (taken-numbered t)
    where
      step : Symbol g w ⊎ Variable Left start known w → Numbered (learn Left known w) last ws → Numbered known last (w ∷ ws)
      step (inl s) n = let l = symbol-below g w below s in symbol l (rw (learn-old Left known w (λ e. omega arith)) at n)
      step (inr v) n = elim (ℕ_discrete w (variable + known)) [
        | yes e ↦ next e (rw (learn-new Left known w refl e) at n)
        | no d ↦
            let h = (left-variable start known w v).1 in
            let l = v.low in
            let is : w ≡ variable + (w - variable) = omega arith in
            again {n = known} is (omega arith) (rw (learn-old Left known w d) at n)
      ]

  pub taken-few : {start : Bool} {due known last : ℕ} {ws : List ℕ} → Taken g Left start due known last ws → known ≤ variables → last ≤ variables
  taken-few done l = l
  taken-few (takes {start} {due} {known} {last} {w} {ws} c t) l = taken-few t (step (passes-word g Left start due known w c))
    where
      step : Symbol g w ⊎ Variable Left start known w → learn Left known w ≤ variables
      step (inl s) = rw (learn-old Left known w (λ e. let h = symbol-below g w below s in omega arith)) l
      step (inr v) = elim (ℕ_discrete w (variable + known)) [
        | yes e ↦ rw (learn-new Left known w refl e) (let h = v.high in omega arith)
        | no d ↦ rw (learn-old Left known w d) l
      ]

  pub taken-headed : {due known last : ℕ} {ws : List ℕ} → Taken g Left true (suc due) known last ws → Listed g (get_or ws 0 variable)
  taken-headed {due} (takes {known} {w} c t) = go (passes-word g Left true (suc due) known w c)
    where
      go : Symbol g w ⊎ Variable Left true known w → Listed g w
      go (inl s) = head-listed g w (passes-symbol g Left true (suc due) known w c s)
      go (inr v) = let z : true ≡ false = (left-variable true known w v).0 in let y : ◌≡◌ {A = ℕ} 0 1 = cc in absurd (omega arith)

  -- the right side: each of its words is below the last variable known
  pub taken-known : {start : Bool} {due known last : ℕ} {ws : List ℕ} → Taken g Right start due known last ws → (w : ℕ) → Member w ws → w < variable + known
  taken-known (done {start = start} {known = known}) w x7 = elim x7 [ ]
  taken-known (takes {start} {due} {known} {w = v} c t) w first = go (passes-word g Right start due known v c)
    where
      go : Symbol g v ⊎ Variable Right start known v → v < variable + known
      go (inl s) = let l = symbol-below g v below s in omega arith
      go (inr h) = right-variable start known v h
  taken-known (takes {start} {due} {known} {w = v} c t) w (later s) = rw (learn-right Right known v refl) at (taken-known t w s)

  -- and the other way
  later-word : {A : Type 0} → false ≡ true → A
  later-word e = let z : ◌≡◌ {A = ℕ} 0 1 = cc in absurd (omega arith)

  symbol-of : (w : ℕ) → w < variable → Word g w → Symbol g w
  symbol-of w l (inl s) = s
  symbol-of w l (inr h) = absurd (omega arith)

  -- a variable that is new, or was met before
  variable-taken : (k known v w : ℕ) (start : Bool) → (start ≡ true → Listed g w) → v ≤ known → v < variables → w ≡ variable + v → side_fault g Left start (suc k) known w ≡ none
  variable-taken k known v w true h b few e = absurd (let l = h refl in omega arith)
  variable-taken k known v w false h b few e = variable-passes g Left false (suc k) known w (omega arith) (variable-left known v w b few e)

  pub left-taken : {due known last : ℕ} {ws : List ℕ} → Forest g (Word g) due ws → Numbered known last ws → last ≤ variables →
      (start : Bool) → (start ≡ true → Listed g (get_or ws 0 variable)) → Taken g Left start due known last ws
  left-taken empty end l start h = done
  left-taken (more {k} p f) (symbol {n = known} {w} b m) l start h =
      taken-cons g Left start k (side-symbol g Left start (suc k) known w (omega arith) (symbol-of w b p) ∙ go start h) (learn-old Left known w (λ e. omega arith))
      (left-taken f m l false later-word)
    where
      go : (start : Bool) → (start ≡ true → Listed g w) → symbol_fault g Left start w ≡ none
      go true h = symbol-listed g Left true w (h refl)
      go false h = symbol-later g Left false w refl
  left-taken (more {k} p f) (next {n = known} {w} e m) l start h =
      let q = numbered-le m in
      taken-cons g Left start k (variable-taken k known known w start h (omega arith) (omega arith) e) (learn-new Left known w refl e) (left-taken f m l false later-word)
  left-taken (more {k} p f) (again {n = known} {v} {w} e b m) l start h =
      let q = numbered-le m in
      taken-cons g Left start k (variable-taken k known v w start h (omega arith) (omega arith) e) (learn-old Left known w (λ d. omega arith)) (left-taken f m l false later-word)

  pub right-taken : {due known : ℕ} {ws : List ℕ} → Forest g (Word g) due ws → known ≤ variables → ((w : ℕ) → Member w ws → w < variable + known) →
      (start : Bool) → Taken g Right start due known known ws
  right-taken empty few h start = done
  right-taken {known} (more {w} {k} p f) few h start =
      taken-cons g Right start k (go p) (learn-right Right known w refl) (right-taken f few (λ v s. h v (later s)) false)
    where
      go : Word g w → side_fault g Right start (suc k) known w ≡ none
      go (inl s) = side-symbol g Right start (suc k) known w (omega arith) s ∙ symbol-right g Right start w refl
      go (inr l) = variable-passes g Right start (suc k) known w (omega arith) (variable-right start known w few l (h w first))

-- ---- the reader of a side's words

module _ (ws : List ℕ) (g : Signature) (h : SideRole) where
  words-sound : (n : ℕ) (start : Bool) (due known i : ℕ) {j : ℕ} {r : Reading} → read_words ws g h start n due known i ≡ ok r j → Between ws i j r.words
  unfolding read_words
  words-sound zero start zero known i e = rw (← ok-value e, ← ok-place e) (between_none i)
  words-sound zero start (suc due) known i e = absurd (not-fault e)
  words-sound (suc n) start due known i e =
      let a = then_ok (word ws (side_fault g h start due known) i) _ e in
      let b = then_ok (read_words ws g h false n (due - 1 + arity g a.value) (learn h known a.value) a.place) _ a.goes in
      between-ok (λ r. r.words) b.goes (between_join ((reads_word ws (side_fault g h start due known)).sound a.reads) (words-sound n false _ _ _ b.reads))

  words-good : (n : ℕ) (start : Bool) (due known i : ℕ) {j : ℕ} {r : Reading} → read_words ws g h start n due known i ≡ ok r j →
      (length r.words ≡ n) × Taken g h start due known r.known r.words
  unfolding read_words
  words-good zero start zero known i e = rw (← ok-value e) (refl, done)
  words-good zero start (suc due) known i e = absurd (not-fault e)
  words-good (suc n) start due known i e =
      let a = then_ok (word ws (side_fault g h start due known) i) _ e in
      let b = then_ok (read_words ws g h false n (due - 1 + arity g a.value) (learn h known a.value) a.place) _ a.goes in
      let t = words-good n false _ _ _ b.reads in
      rw (← ok-value b.goes) (ap suc t.0, takes ((reads_word ws (side_fault g h start due known)).good a.reads) t.1)

  words-complete : {start : Bool} {due known last : ℕ} {xs : List ℕ} → Taken g h start due known last xs → (i j : ℕ) → Between ws i j xs →
      read_words ws g h start (length xs) due known i ≡ ok (record { words = xs; known = last }) j
  unfolding read_words
  words-complete (done {known}) i j b = rw (between-end b)
  words-complete (takes {start} {due} {known} {last} {w} {ws = xs} c t) i j b =
      let s = between_split (one w) xs b in
      rw ((reads_word ws (side_fault g h start due known)).complete s.0 c) (rw (words-complete t _ j s.1))

  pub reads-words : (start : Bool) (n due known : ℕ) →
      Reads ws (read_words ws g h start n due known) (λ r. r.words) (λ r. (length r.words ≡ n) × Taken g h start due known r.known r.words)
  reads-words start n due known = record {
    sound = λ {i} e. words-sound n start due known i e;
    good = λ {i} e. words-good n start due known i e;
    complete = λ {i} {j} b t. rw (← t.0) (words-complete t.1 i j b);
  }
