-- `bind` against `Matches`: what it finds is a substitution by which the rule matches, and it finds one if there is any.
use Prim.Native.Nat.{ℕ, suc, ◌+◌, ◌-◌, ◌≤◌, ◌<◌}
use native.Mathlib.Nat.{not-suc-le-zero, add-sub_cancel_left}
use native.Mathlib.Omega.{arith}
use native.Mathlib.Decide.{ℕ_discrete, dec_lt}
use mathlib.Core.Path.{◌≡◌, refl, sym, ap, ◌∙◌, subst}
use mathlib.Core.Logic.{inl, inr}
use mathlib.Core.Option.{Option, none, some}
use mathlib.Core.List.{List, [], ◌∷◌, ◌++◌, append_assoc, append-nil}
use lib.ListN.{length, get_or, take, drop, length-append, get_or-append}
use lib.Seq.{drop-append_seam, take-append_seam, append_snoc, get_or_at}
use borrow.Author.Tests.{lt-ltb, le-ltb, eq-eqb, ne_eqb}
use Rattle.system.specs.Limits.{variable}
use Rattle.system.specs.Signature.{Signature, Symbol, span, arity}
use Rattle.system.specs.System.{Rule, instance}
use Rattle.system.specs.Terms.{Forest, empty, more, Word, Whole, Member, first, later, Numbered, end, symbol, next, again, WellFormedRule}
use Rattle.matching.specs.Matching.{Matches, bind}
use Rattle.system.proofs.Signatures.{get_or-within, arity-variable, symbol-below}
use Rattle.system.proofs.Forests.{span-forest, join, split, Split, Wholes, wholes-cons, wholes-get_or}
use Rattle.system.proofs.Members.{numbered_below}
use Rattle.system.proofs.Places.{at-subterm}
use Rattle.matching.proofs.SameWords.{same_self, differ_same, same-words}

-- one word of a side
pub instance-nil : (σ : ℕ → List ℕ) → instance σ [] ≡ []
unfolding instance
instance-nil σ = refl

pub instance-symbol : (σ : ℕ → List ℕ) (l : ℕ) (ls : List ℕ) → l < variable → instance σ (l ∷ ls) ≡ l ∷ instance σ ls
unfolding instance
instance-symbol σ l ls h = rw (lt-ltb l variable h)

pub instance-variable : (σ : ℕ → List ℕ) (l n : ℕ) (ls : List ℕ) → l ≡ variable + n → instance σ (l ∷ ls) ≡ σ n ++ instance σ ls
unfolding instance
instance-variable σ l n ls e = rw (e, le-ltb (variable + n) variable (omega arith), add-sub_cancel_left variable n)

pub instance-cong : (σ τ : ℕ → List ℕ) (ls : List ℕ) → ((w n : ℕ) → Member w ls → w ≡ variable + n → σ n ≡ τ n) → instance σ ls ≡ instance τ ls
instance-cong σ τ [] h = rw (instance-nil σ, instance-nil τ)
instance-cong σ τ (w ∷ ws) h =
    let ih = instance-cong σ τ ws (λ w n st e. h w n (later st) e) in
    elim (dec_lt w variable) [
      | yes l ↦ rw (instance-symbol σ w ws l, instance-symbol τ w ws l, ih)
      | no l ↦
          let e : w ≡ variable + (w - variable) = omega arith in
          rw (instance-variable σ w (w - variable) ws e, instance-variable τ w (w - variable) ws e, ih, h w (w - variable) first e)
    ]

-- what has no variables is its own instance
pub instance-ground : (σ : ℕ → List ℕ) (ls : List ℕ) → ((w : ℕ) → Member w ls → w < variable) → instance σ ls ≡ ls
instance-ground σ [] h = instance-nil σ
instance-ground σ (w ∷ ws) h = instance-symbol σ w ws (h w first) ∙ ap (λ r. w ∷ r) (instance-ground σ ws (λ v st. h v (later st)))

abbrev pub chain : Option (List (List ℕ)) → (List (List ℕ) → Option (List (List ℕ))) → Option (List (List ℕ))
chain none on = none
chain (some σ) on = on σ

module _ (g : Signature) where
  pub bind-nil : (ws : List ℕ) (σ : List (List ℕ)) → bind g [] ws σ ≡ some σ
  unfolding bind
  bind-nil ws σ = refl

  pub bind-symbol : (l : ℕ) (ls ws : List ℕ) (σ : List (List ℕ)) → l < variable → bind g (l ∷ ls) (l ∷ ws) σ ≡ bind g ls ws σ
  unfolding bind
  bind-symbol l ls ws σ h = rw (lt-ltb l variable h, bind) (rw (eq-eqb l l refl))

  pub bind-differ : (l w : ℕ) (ls ws : List ℕ) (σ : List (List ℕ)) → l < variable → (l ≡ w → ⊥) → bind g (l ∷ ls) (w ∷ ws) σ ≡ none
  unfolding bind
  bind-differ l w ls ws σ h d = rw (lt-ltb l variable h, bind) (rw (ne_eqb l w d))

  -- a variable that is new, and one that is bound already
  pub bind-new : (l w : ℕ) (ls ws : List ℕ) (σ : List (List ℕ)) → variable ≤ l → length σ ≤ l - variable →
      bind g (l ∷ ls) (w ∷ ws) σ ≡ bind g ls (drop (span g (w ∷ ws) 1) (w ∷ ws)) (σ ++ take (span g (w ∷ ws) 1) (w ∷ ws) ∷ [])
  unfolding bind
  bind-new l w ls ws σ h n = rw (le-ltb l variable h, bind) (rw (le-ltb (l - variable) (length σ) n))

  pub bind-same : (l w : ℕ) (ls ws : List ℕ) (σ : List (List ℕ)) → variable ≤ l → l - variable < length σ →
      get_or σ (l - variable) [] ≡ take (span g (w ∷ ws) 1) (w ∷ ws) → bind g (l ∷ ls) (w ∷ ws) σ ≡ bind g ls (drop (span g (w ∷ ws) 1) (w ∷ ws)) σ
  unfolding bind
  bind-same l w ls ws σ h n e =
      rw (le-ltb l variable h, bind) (rw (lt-ltb (l - variable) (length σ) n) (rw (e, same_self (take (span g (w ∷ ws) 1) (w ∷ ws)))))

  pub bind-other : (l w : ℕ) (ls ws : List ℕ) (σ : List (List ℕ)) → variable ≤ l → l - variable < length σ →
      (get_or σ (l - variable) [] ≡ take (span g (w ∷ ws) 1) (w ∷ ws) → ⊥) → bind g (l ∷ ls) (w ∷ ws) σ ≡ none
  unfolding bind
  bind-other l w ls ws σ h n d =
      rw (le-ltb l variable h, bind) (rw (lt-ltb (l - variable) (length σ) n)
      (rw (differ_same (get_or σ (l - variable) []) (take (span g (w ∷ ws) 1) (w ∷ ws)) d)))

  -- the same before a whole term
  module _ (l : ℕ) (ls ws : List ℕ) (h : variable ≤ l) where
    pub bind-variable : {x : List ℕ} (σ : List (List ℕ)) → length σ ≤ l - variable → Whole g x → bind g (l ∷ ls) (x ++ ws) σ ≡ bind g ls ws (σ ++ x ∷ [])
    bind-variable {x = []} σ n f = elim f [ ]
    bind-variable {x = w ∷ x} σ n f =
        rw (bind-new l w ls (x ++ ws) σ h n, span-forest g (Symbol g) ws f, drop-append_seam (w ∷ x) ws, take-append_seam (w ∷ x) ws)

    pub bind-known : {x : List ℕ} (σ : List (List ℕ)) → l - variable < length σ → Whole g x → get_or σ (l - variable) [] ≡ x → bind g (l ∷ ls) (x ++ ws) σ ≡ bind g ls ws σ
    bind-known {x = []} σ n f e = elim f [ ]
    bind-known {x = w ∷ x} σ n f e =
        bind-same l w ls (x ++ ws) σ h n (e ∙ sym (ap (λ k. take k (w ∷ x ++ ws)) (span-forest g (Symbol g) ws f) ∙ take-append_seam (w ∷ x) ws))
        ∙ ap (λ r. bind g ls r σ) (ap (λ k. drop k (w ∷ x ++ ws)) (span-forest g (Symbol g) ws f) ∙ drop-append_seam (w ∷ x) ws)

    pub bind-unlike : {x : List ℕ} (σ : List (List ℕ)) → l - variable < length σ → Whole g x → (get_or σ (l - variable) [] ≡ x → ⊥) → bind g (l ∷ ls) (x ++ ws) σ ≡ none
    bind-unlike {x = []} σ n f d = elim f [ ]
    bind-unlike {x = w ∷ x} σ n f d =
        bind-other l w ls (x ++ ws) σ h n (λ e. d (e ∙ ap (λ k. take k (w ∷ x ++ ws)) (span-forest g (Symbol g) ws f) ∙ take-append_seam (w ∷ x) ws))

  module _ (few : length g ≤ variable) where
    -- the term that a variable stands for, and the rest
    peel : (l k : ℕ) {u : List ℕ} → variable ≤ l → Forest g (Symbol g) (suc k) u → Split g (Symbol g) 1 (k + arity g l) u
    peel l k h fu = split g (Symbol g) fu 1 (k + arity g l) (omega (arith, arity-variable g l few h))

    -- bind goes through a front of sides and of terms, and then through the rest
    pub bind-append : {k : ℕ} {ls u : List ℕ} (ms b : List ℕ) (σ : List (List ℕ)) → Forest g (Word g) k ls → Forest g (Symbol g) k u →
        bind g (ls ++ ms) (u ++ b) σ ≡ chain (bind g ls u σ) (bind g ms b)
    bind-append ms b σ empty empty = rw (bind-nil [] σ)
    bind-append ms b σ (more {w = l} {k} {ws = ls} (inl h) f) (more {w} {ws} _ fu) =
        let v : l < variable = symbol-below g l few h in
        elim (ℕ_discrete l w) [
          | yes e ↦ rw (← e, bind-symbol l (ls ++ ms) (ws ++ b) σ v, bind-symbol l ls ws σ v) (bind-append ms b σ f (rw (← e) at fu))
          | no d ↦ rw (bind-differ l w (ls ++ ms) (ws ++ b) σ v d, bind-differ l w ls ws σ v d)
        ]
    bind-append ms b σ (more {w = l} {k} {ws = ls} (inr h) f) fu =
        let c = peel l k h fu in
        rw (c.equal, append_assoc c.front c.back b) (elim (dec_lt (l - variable) (length σ)) [
          | no n ↦
              rw (bind-variable l (ls ++ ms) (c.back ++ b) h σ (omega arith) c.fronts, bind-variable l ls c.back h σ (omega arith) c.fronts)
              (bind-append ms b (σ ++ c.front ∷ []) f c.backs)
          | yes n ↦ elim (same-words (get_or σ (l - variable) []) c.front) [
            | yes e ↦
                rw (bind-known l (ls ++ ms) (c.back ++ b) h σ n c.fronts e, bind-known l ls c.back h σ n c.fronts e)
                (bind-append ms b σ f c.backs)
            | no d ↦ rw (bind-unlike l (ls ++ ms) (c.back ++ b) h σ n c.fronts d, bind-unlike l ls c.back h σ n c.fronts d)
          ]
        ])

    -- what bind adds: whole terms, one for each variable, which fill the side to what was matched
    pub record Bound (σ σ' : List (List ℕ)) (m : ℕ) (ls u : List ℕ) : Type 0 where
      pub added : List (List ℕ)
      pub equal : σ' ≡ σ ++ added
      pub count : length σ' ≡ m
      pub wholes : Wholes g (Symbol g) added
      pub filled : instance (λ v. get_or σ' v []) ls ≡ u

    pub bind-sound : {k n m : ℕ} {ls u : List ℕ} (b : List ℕ) (σ σ' : List (List ℕ)) → Forest g (Word g) k ls → Numbered n m ls → Forest g (Symbol g) k u →
        length σ ≡ n → bind g ls (u ++ b) σ ≡ some σ' → Bound σ σ' m ls u
    bind-sound b σ σ' empty end empty c e =
        let q : σ' ≡ σ = cc (bind-nil b σ) in
        record { added = []; equal = q ∙ sym (append-nil σ); count = ap length q ∙ c; wholes = λ i l. absurd (not-suc-le-zero l); filled = instance-nil _ }
    bind-sound b σ σ' (more _ f) (symbol {w = l} {ws = ls} h nb) (more {w} {ws} _ fu) c e =
        elim (ℕ_discrete l w) [
          | yes q ↦
              let d = bind-sound b σ σ' f nb (rw (← q) at fu) c (rw (← q, bind-symbol l ls (ws ++ b) σ h) at e) in
              record {
                added = d.added;
                equal = d.equal;
                count = d.count;
                wholes = d.wholes;
                filled = rw (← q, instance-symbol (λ v. get_or σ' v []) l ls h) (ap (λ r. l ∷ r) d.filled);
              }
          | no d ↦ absurd (let z : ◌≡◌ {A = ℕ} 0 1 = cc (bind-differ l w ls (ws ++ b) σ h d) in omega arith)
        ]
    bind-sound {n} b σ σ' (more {k} _ f) (next {w = l} {ws = ls} q nb) fu c e =
        let v : variable ≤ l = omega arith in
        let x = peel l k v fu in
        let d = bind-sound b (σ ++ x.front ∷ []) σ' f nb x.backs (rw (length-append σ (x.front ∷ [])) (omega arith))
        (rw (x.equal, append_assoc x.front x.back b, bind-variable l ls (x.back ++ b) v σ (omega arith) x.fronts) at e) in
        let q' = d.equal ∙ append_snoc σ x.front d.added in
        record {
          added = x.front ∷ d.added;
          equal = q';
          count = d.count;
          wholes = wholes-cons g (Symbol g) x.front d.added x.fronts d.wholes;
          filled = rw (instance-variable (λ v. get_or σ' v []) l n ls q, d.filled)
              (ap (λ r. r ++ x.back) (ap (λ r. get_or r n []) q' ∙ get_or_at σ x.front d.added [] n c) ∙ sym x.equal);
        }
    bind-sound {n} b σ σ' (more {k} _ f) (again {v = y} {w = l} {ws = ls} q m nb) fu c e =
        let v : variable ≤ l = omega arith in
        let i : l - variable ≡ y = omega arith in
        let h : l - variable < length σ = omega arith in
        let x = peel l k v fu in
        let e' : bind g (l ∷ ls) (x.front ++ (x.back ++ b)) σ ≡ some σ' = rw (x.equal, append_assoc x.front x.back b) at e in
        elim (same-words (get_or σ (l - variable) []) x.front) [
          | no d ↦ absurd (let z : ◌≡◌ {A = ℕ} 0 1 = cc (bind-unlike l ls (x.back ++ b) v σ h x.fronts d) in omega arith)
          | yes s ↦
              let d = bind-sound b σ σ' f nb x.backs c (sym (bind-known l ls (x.back ++ b) v σ h x.fronts s) ∙ e') in
              record {
                added = d.added;
                equal = d.equal;
                count = d.count;
                wholes = d.wholes;
                filled = rw (instance-variable (λ v. get_or σ' v []) l y ls q, d.filled)
                    (ap (λ r. r ++ x.back) (ap (λ r. get_or r y []) d.equal ∙ get_or-append σ d.added [] y (omega arith) ∙ ap (λ j. get_or σ j []) (sym i) ∙ s) ∙ sym x.equal);
              }
        ]

    -- the values found so far are those of a substitution
    abbrev Agrees : List (List ℕ) → (ℕ → List ℕ) → Type 0
    Agrees σ τ = (v : ℕ) → v < length σ → get_or σ v [] ≡ τ v

    agrees-snoc : (σ : List (List ℕ)) (τ : ℕ → List ℕ) (n : ℕ) → length σ ≡ n → Agrees σ τ → Agrees (σ ++ τ n ∷ []) τ
    agrees-snoc σ τ n c h v l =
        elim (dec_lt v (length σ)) [
          | yes m ↦ get_or-append σ (τ n ∷ []) [] v m ∙ h v m
          | no m ↦
              let l' = rw (length-append σ (τ n ∷ [])) at l in
              let q : v ≡ n = omega arith in
              get_or_at σ (τ n) [] [] v (omega arith) ∙ ap τ (sym q)
        ]

    -- a side whose instance stands there is bound
    pub bind-complete : {n m : ℕ} {ls : List ℕ} (b : List ℕ) (σ : List (List ℕ)) (τ : ℕ → List ℕ) → ((v : ℕ) → Whole g (τ v)) → Numbered n m ls →
        length σ ≡ n → Agrees σ τ → (σ' : List (List ℕ)) × (bind g ls (instance τ ls ++ b) σ ≡ some σ')
    bind-complete b σ τ h end c a = (σ, bind-nil _ σ)
    bind-complete b σ τ h (symbol {w} {ws} l nb) c a =
        rw (instance-symbol τ w ws l, bind-symbol w ws (instance τ ws ++ b) σ l) (bind-complete b σ τ h nb c a)
    bind-complete b σ τ h (next {n} {w} {ws} e nb) c a =
        rw (instance-variable τ w n ws e, append_assoc (τ n) (instance τ ws) b, bind-variable w ws (instance τ ws ++ b) (omega arith) σ (omega arith) (h n))
        (bind-complete b (σ ++ τ n ∷ []) τ h nb (rw (length-append σ (τ n ∷ [])) (omega arith)) (agrees-snoc σ τ n c a))
    bind-complete b σ τ h (again {n} {v} {w} {ws} e l nb) c a =
        let i : w - variable ≡ v = omega arith in
        rw (
          instance-variable τ w v ws e,
          append_assoc (τ v) (instance τ ws) b,
          bind-known w ws (instance τ ws ++ b) (omega arith) σ (omega arith) (h v) (ap (λ j. get_or σ j []) i ∙ a v (omega arith)),
        )
        (bind-complete b σ τ h nb c a)

    -- a side filled with whole terms is whole
    pub instance-forest : {k : ℕ} {ls : List ℕ} (τ : ℕ → List ℕ) → ((v : ℕ) → Whole g (τ v)) → Forest g (Word g) k ls → Forest g (Symbol g) k (instance τ ls)
    instance-forest τ h empty = rw (instance-nil τ) empty
    instance-forest τ h (more {w} {ws} (inl l) f) = rw (instance-symbol τ w ws (symbol-below g w few l)) (more l (instance-forest τ h f))
    instance-forest τ h (more {w} {k} {ws} (inr l) f) =
        rw (instance-variable τ w (w - variable) ws (omega arith))
        (subst (λ n. Forest g (Symbol g) n (τ (w - variable) ++ instance τ ws)) (omega (arith, arity-variable g w few l))
        (join g (Symbol g) (h (w - variable)) (instance-forest τ h f)))

    module _ (a b : List ℕ) {u : List ℕ} (whole : Whole g u) {r : Rule} (law : WellFormedRule g r) where
      -- bound: the rule matches, by the values that bind found; its right side is filled with them
      pub matched : (σ : List (List ℕ)) → bind g r.lhs (u ++ b) [] ≡ some σ →
          (m : Matches g (a ++ (u ++ b)) (length a) r) × (instance m.σ r.rhs ≡ instance (λ v. get_or σ v []) r.rhs)
      matched σ e =
          let c = bind-sound b [] σ law.left law.numbered whole refl e in
          let same : (ls : List ℕ) → ((w : ℕ) → Member w ls → w < variable + law.count) → instance (λ v. get_or σ v u) ls ≡ instance (λ v. get_or σ v []) ls
          = λ ls h. instance-cong (λ v. get_or σ v u) (λ v. get_or σ v []) ls
          (λ w n st q. get_or-within σ u [] n (let h' = h w st in let k = c.count in omega arith)) in (
            record {
              σ = λ v. get_or σ v u;
              whole = wholes-get_or g (Symbol g) σ u (subst (Wholes g (Symbol g)) (sym c.equal) c.wholes) whole;
              equal = same r.lhs (λ w st. numbered_below law.numbered st) ∙ c.filled ∙ sym (at-subterm g (Symbol g) a b whole);
            },
            same r.rhs law.known,
          )

      -- not bound: the rule does not match
      pub unmatched : bind g r.lhs (u ++ b) [] ≡ none → Matches g (a ++ (u ++ b)) (length a) r → ⊥
      unmatched e m =
          let c = bind-complete b [] m.σ m.whole law.numbered refl (λ v l. absurd (not-suc-le-zero l)) in
          let q : instance m.σ r.lhs ≡ u = m.equal ∙ at-subterm g (Symbol g) a b whole in
          let q' = c.1 in
          let z : ◌≡◌ {A = ℕ} 0 1 = cc in omega arith
