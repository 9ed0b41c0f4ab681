-- What an entry of a symbol's strategy asks for, in the terms of the code.
use Prim.Native.Nat.{ℕ, zero, suc, ◌-◌, ◌≤◌, ◌<◌, min}
use native.Mathlib.Omega.{arith}
use native.Mathlib.Decide.{dec_lt}
use mathlib.Core.Path.{◌≡◌, refl, sym, ap, ◌∙◌, subst}
use mathlib.Core.Bool.{Bool, true, false}
use mathlib.Core.List.{List, []}
use lib.ListN.{length, get_or, take, drop}
use lib.Dec.{eqb}
use Rattle.std.specs.List.{list_any}
use borrow.Author.Tests.{lt-ltb, le-ltb}
use Rattle.reader.specs.declared.Shape.{Shape}
use Rattle.system.specs.BuiltIns.{built_in_arity, built_in_strategy}
use Rattle.system.specs.System.{strategy}
use Rattle.reader.specs.Book.{system_of, Accepted}
use Rattle.system.proofs.BuiltIns.{eager, strategy-eager}
use Rattle.system.proofs.Rules.{strategy-unlisted}
use Rattle.layout.proofs.Suffixes.{strategy-count}
use Rattle.layout.specs.declared.entries.Entry.{Entry}
use Rattle.layout.specs.declared.entries.Entry.TheVariants.{End, Repeated, Rules, Argument}
use Rattle.system.specs.Terms.{among}
use Rattle.layout.specs.entries.Entries.{entry_from, between, entry_of}
use Rattle.layout.proofs.entries.Repeats.{among-any, between-min}

-- ---- what an entry asks for

module _ (es : List ℕ) (f c : ℕ) where
  pub entry_past : length es ≤ c → entry_of es f c ≡ End
  unfolding entry_of
  entry_past h = rw (le-ltb c (length es) h, entry_of)

  -- whether it stood before
  abbrev pub stood : Bool
  stood = among (get_or es c 0) (between es f c)

  module _ (h : c < length es) where
    pub entry-again : stood ≡ true → entry_of es f c ≡ Repeated
    unfolding entry_of
    entry-again b = rw (lt-ltb c (length es) h, b, entry_of)

    entry_here : stood ≡ false → entry_of es f c ≡ entry_from (get_or es c 0)
    unfolding entry_of
    entry_here b = rw (lt-ltb c (length es) h, b, entry_of)

    pub entry-rules : stood ≡ false → get_or es c 0 ≡ 0 → entry_of es f c ≡ Rules
    entry-rules b e = entry_here b ∙ rw e

    pub entry-argument : stood ≡ false → (i : ℕ) → get_or es c 0 ≡ suc i → entry_of es f c ≡ Argument i
    entry-argument b i e = entry_here b ∙ rw e

  -- what it asks for, with what that tells of it
  pub data Asks : Entry → Type 0 where
    end : length es ≤ c → Asks End
    again : c < length es → stood ≡ true → Asks Repeated
    rules : c < length es → stood ≡ false → get_or es c 0 ≡ 0 → Asks Rules
    opens : (i : ℕ) → c < length es → stood ≡ false → get_or es c 0 ≡ suc i → Asks (Argument i)

  pub asks : Asks (entry_of es f c)
  asks = elim (dec_lt c (length es)) [ yes h ↦ go h stood refl (get_or es c 0) refl | no h ↦ subst Asks (sym (entry_past (omega arith))) (end (omega arith)) ]
    where
      go : c < length es → (b : Bool) → stood ≡ b → (e : ℕ) → get_or es c 0 ≡ e → Asks (entry_of es f c)
      go h true b e q = subst Asks (sym (entry-again h b)) (again h b)
      go h false b zero q = subst Asks (sym (entry-rules h b q)) (rules h b q)
      go h false b (suc i) q = subst Asks (sym (entry-argument h b i q)) (opens i h b q)

  pub asked-end : Asks End → length es ≤ c
  asked-end (end h) = h

  pub asked-again : Asks Repeated → (c < length es) × (stood ≡ true)
  asked-again (again h b) = (h, b)

  pub asked-rules : Asks Rules → (c < length es) × (stood ≡ false) × (get_or es c 0 ≡ 0)
  asked-rules (rules h b q) = (h, b, q)

  pub asked-argument : (i : ℕ) → Asks (Argument i) → (c < length es) × (stood ≡ false) × (get_or es c 0 ≡ suc i)
  asked-argument i (opens _ h b q) = (h, b, q)

-- ---- the built-in strategies

-- entry c of one that has n arguments: the argument c, or behind the arguments the rules; and nothing is repeated in it
word : (n c : ℕ) → n ≤ 2 → c < n → get_or (eager n) c 0 ≡ suc c
word (suc zero) zero h l = refl
word (suc (suc n)) zero h l = refl
word (suc (suc n)) (suc zero) h l = refl
word zero c h l = absurd (omega arith)
word (suc zero) (suc c) h l = absurd (omega arith)
word (suc (suc n)) (suc (suc c)) h l = absurd (omega arith)

unrepeated : (n f c : ℕ) → n ≤ 2 → c ≤ n → stood (eager n) f c ≡ false
unfolding among
unrepeated n f c u h = elim (dec_lt f c) [ yes l ↦ go n f c u l h | no l ↦ let z : c - f ≡ 0 = omega arith in rw z ]
  where
    go : (n f c : ℕ) → n ≤ 2 → f < c → c ≤ n → stood (eager n) f c ≡ false
    go (suc zero) zero (suc zero) u l h = refl
    go (suc (suc n)) zero (suc zero) u l h = refl
    go (suc (suc n)) zero (suc (suc zero)) u l h = refl
    go (suc (suc n)) (suc zero) (suc (suc zero)) u l h = refl
    go n f zero u l h = absurd (omega arith)
    go zero f (suc zero) u l h = absurd (omega arith)
    go (suc zero) (suc f) (suc zero) u l h = absurd (omega arith)
    go (suc (suc n)) (suc f) (suc zero) u l h = absurd (omega arith)
    go zero f (suc (suc zero)) u l h = absurd (omega arith)
    go (suc zero) f (suc (suc zero)) u l h = absurd (omega arith)
    go (suc (suc n)) (suc (suc f)) (suc (suc zero)) u l h = absurd (omega arith)
    go n f (suc (suc (suc c))) u l h = absurd (omega arith)

module _ (w f c n : ℕ) (is : n ≡ built_in_arity w) (few : n ≤ 2) where
  as-eager : (e : Entry) → entry_of (eager n) f c ≡ e → e ≡ entry_of (built_in_strategy w) f c
  as-eager e q = sym (ap (λ es. entry_of es f c) (strategy-eager w ∙ sym (ap eager is)) ∙ q)

  pub plain_end : n ≡ 0 → End ≡ entry_of (built_in_strategy w) f c
  plain_end z = as-eager End (ap (λ n. entry_of (eager n) f c) z ∙ entry_past [] f c (omega arith))

  module _ (some : n ≡ 0 → ⊥) where
    length-eager : (n : ℕ) → n ≤ 2 → (n ≡ 0 → ⊥) → length (eager n) ≡ suc n
    length-eager zero h z = absurd (z refl)
    length-eager (suc zero) h z = refl
    length-eager (suc (suc zero)) h z = refl
    length-eager (suc (suc (suc n))) h z = absurd (omega arith)

    pub operator-end : n < c → End ≡ entry_of (built_in_strategy w) f c
    operator-end h = as-eager End (entry_past (eager n) f c (omega (arith, length-eager n few some)))

    pub operator-rules : c ≡ n → Rules ≡ entry_of (built_in_strategy w) f c
    operator-rules e =
        as-eager Rules (entry-rules (eager n) f c (omega (arith, length-eager n few some)) (unrepeated n f c few (omega arith)) (ap (λ i. get_or (eager n) i 0) e ∙ last n few some))
      where
        last : (n : ℕ) → n ≤ 2 → (n ≡ 0 → ⊥) → get_or (eager n) n 0 ≡ 0
        last zero h z = refl
        last (suc zero) h z = refl
        last (suc (suc zero)) h z = refl
        last (suc (suc (suc n))) h z = absurd (omega arith)

    pub operator-argument : c < n → Argument c ≡ entry_of (built_in_strategy w) f c
    operator-argument h =
        as-eager (Argument c) (entry-argument (eager n) f c (omega (arith, length-eager n few some)) (unrepeated n f c few (omega arith)) c (word n c few h))

-- ---- what the entry asks for that the words of the book tell of

-- a word that is not listed has the built-in strategy
pub entry-unlisted : (b : List ℕ) (sh : Shape) → Accepted b sh → (w n f c : ℕ) → n ≡ w → sh.symbols ≤ n → (e : Entry) → e ≡ entry_of (built_in_strategy w) f c →
    e ≡ entry_of (strategy (system_of b) w) f c
entry-unlisted b sh acc w n f c q h e is = is ∙ ap (λ es. entry_of es f c) (sym (strategy-unlisted (system_of b) w (omega (arith, strategy-count b sh acc))))

-- entry c of a strategy, as the code reads it: its word e, and whether e stands among those from f on before it
module _ (es : List ℕ) (f c e : ℕ) (more : c < length es) (word : e ≡ get_or es c 0) {r : Bool}
    (before : r ≡ list_any (eqb e) (take (c - min f c) (drop (min f c) es))) where
  entry-stood : stood es f c ≡ r
  entry-stood = among-any (get_or es c 0) (between es f c) ∙ (λ i. list_any (eqb (sym word i)) (between-min es f c i)) ∙ sym before

  pub entry-repeated : r ≡ true → Repeated ≡ entry_of es f c
  entry-repeated q = sym (entry-again es f c more (entry-stood ∙ q))

  pub entry_read : r ≡ false → {n : ℕ} → n ≡ e → entry_from n ≡ entry_of es f c
  entry_read q is = ap entry_from (is ∙ word) ∙ sym (entry_here es f c more (entry-stood ∙ q))

-- what it asks for, by the code's test
pub from_zero : (e : ℕ) → e ≡ 0 → Rules ≡ entry_from e
from_zero e z = ap entry_from (sym z)

pub from_more : (e : ℕ) → (e ≡ 0 → ⊥) → Argument (e - 1) ≡ entry_from e
from_more zero z = absurd (z refl)
from_more (suc i) z = ap Argument (let q : suc i - 1 ≡ i = omega arith in q)
