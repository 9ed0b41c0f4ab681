-- The machine's states: how each transition leads from one state to the next.
use Prim.Native.Nat.{ℕ, suc, ◌≤◌, ◌<◌}
use native.Mathlib.Omega.{arith}
use mathlib.Core.Path.{◌≡◌, sym, ap, ◌∙◌, subst}
use mathlib.Core.Option.{some}
use mathlib.Core.List.{List, [], ◌∷◌, ◌++◌, append-nil}
use lib.ListN.{length, get_or, drop, length-append}
use Rattle.system.specs.Limits.{term_words}
use Rattle.system.specs.Signature.{Symbol, replace}
use Rattle.system.specs.System.{System}
use Rattle.system.specs.Terms.{Whole, WellFormed}
use Rattle.matching.specs.Matching.{Contraction, contraction, FirstMatch}
use Rattle.rewriting.specs.Machine.{strategy_at, position}
use Rattle.rewriting.specs.Opened.{Opened, base}
use Rattle.machine.specs.advance.Area.{Valid}
use Rattle.system.proofs.Places.{patch, at-replace}
use Rattle.matching.proofs.Firsts.{contraction-at, fired}
use Rattle.rewriting.proofs.Actives.{At, whole-at}
use Rattle.rewriting.proofs.Laws.{position-le}
use Rattle.rewriting.proofs.Done.{whole-within}
use Rattle.rewriting.proofs.Comings.{first-at}
use Rattle.rewriting.proofs.OpenLevels.{opened-at, opened-open, opened-pop, opened-replace}

-- the state that an evaluation starts in
pub valid-start : (s : System) (t : List ℕ) → Whole s.arities t → length t ≤ term_words → Valid s t 0 [] 0
valid-start s t h f = record { whole = h; bounded = f; inside = rw (append-nil t) at (whole-within s [] [] h); room = omega arith; opened = base; begun = omega arith }

module _ (s : System) (wf : WellFormed s) where
  -- a rewrite at a whole subterm leaves a whole term
  pub whole-replaced : (t : List ℕ) (q : ℕ) (a u b : List ℕ) (x : Contraction) → t ≡ a ++ (u ++ b) → q ≡ length a → Whole s.arities t → Whole s.arities u →
      contraction s (drop q t) ≡ some x → Whole s.arities (replace s.arities t q x.reduct)
  whole-replaced t q a u b x e p ht h f =
      rw (e, p, at-replace s.arities (Symbol s.arities) a b x.reduct h)
      (patch s.arities (Symbol s.arities) a b (rw e at ht) h (fired s wf h a b x (sym (contraction-at s wf h a b) ∙ (rw (e, p) at f))).left)

  -- and one that reaches behind the words before it
  pub replaced-inside : (t : List ℕ) (q : ℕ) (a u b : List ℕ) (x : Contraction) → t ≡ a ++ (u ++ b) → q ≡ length a → Whole s.arities u →
      contraction s (drop q t) ≡ some x → q < length (replace s.arities t q x.reduct)
  replaced-inside t q a u b x e p h f =
      rw (e, p, at-replace s.arities (Symbol s.arities) a b x.reduct h)
      (whole-within s a b (fired s wf h a b x (sym (contraction-at s wf h a b) ∙ (rw (e, p) at f))).left)

  module _ (t : List ℕ) (base : ℕ) (cs : List ℕ) (c : ℕ) (v : Valid s t base cs c) where
    abbrev here : ℕ
    here = position s t cs base

    abbrev entries : List ℕ
    entries = strategy_at s t here

    -- the whole subterm at this level
    pub valid-here : At s (λ _. Unit {0}) t here
    valid-here = opened-at s t wf (whole-at s base v.whole v.inside) v.opened

    pub valid-within : here < length t
    valid-within = let x = valid-here in rw x.position (subst (λ y. length x.before < length y) (sym x.equal) (whole-within s x.before x.behind x.whole))

    -- the rule that matches there
    pub valid-first : (x : Contraction) → contraction s (drop here t) ≡ some x → FirstMatch s t here x
    valid-first x f = first-at s wf valid-here x f

    -- a level is left
    pub valid-pop : (ds : List ℕ) (d : ℕ) → cs ≡ ds ++ d ∷ [] → Valid s t base ds d
    valid-pop ds d e =
        let x = opened-pop s t ds d (subst (Opened s t base) e v.opened) in
        record {
          whole = v.whole;
          bounded = v.bounded;
          inside = v.inside;
          room = (let z = v.room in let z' = ap length e ∙ length-append ds (d ∷ []) in omega arith);
          opened = x.0;
          begun = x.1;
        }

    -- one more entry is begun
    pub valid-pass : c < length entries → Valid s t base cs (suc c)
    valid-pass more = record { whole = v.whole; bounded = v.bounded; inside = v.inside; room = v.room; opened = v.opened; begun = more }

    -- an argument is opened
    pub valid-open : c < length entries → (i : ℕ) → get_or entries c 0 ≡ suc i → suc (length cs) < 64 → Valid s t base (cs ++ suc c ∷ []) 0
    valid-open more i e h = record {
      whole = v.whole;
      bounded = v.bounded;
      inside = v.inside;
      room = rw (length-append cs (suc c ∷ [])) (omega arith);
      opened = opened-open s t c i v.opened more e;
      begun = omega arith;
    }

    -- a step
    pub valid-fire : (x : Contraction) → contraction s (drop here t) ≡ some x → length (replace s.arities t here x.reduct) ≤ term_words →
        Valid s (replace s.arities t here x.reduct) base cs 0
    valid-fire x f m =
        let x' = valid-here in
        let o = opened-replace s t x.reduct here v.opened (omega arith) valid-within in
        record {
          whole = whole-replaced t here x'.before x'.here x'.behind x x'.equal x'.position v.whole x'.whole f;
          bounded = m;
          inside = (
              let y = replaced-inside t here x'.before x'.here x'.behind x x'.equal x'.position x'.whole f in
              let z = position-le s t cs base in omega arith
              );
          room = v.room;
          opened = o.0;
          begun = omega arith;
        }
