-- `active_at` decides which positions of a whole term are active.
use Prim.Native.Nat.{ℕ, zero, suc, ◌+◌, ◌-◌, ◌≤◌, ◌<◌}
use native.Mathlib.Nat.{zero-add, suc-add, add-zero, add-suc, le_of_suc-le-suc, not-suc-le-zero}
use native.Mathlib.Omega.{arith}
use native.Mathlib.Decide.{dec_lt}
use mathlib.Core.Path.{◌≡◌, refl, sym, ap, ◌∙◌, subst}
use mathlib.Core.Logic.{◌↔◌}
use mathlib.Core.Bool.{Bool, true, false, ◌&&◌}
use mathlib.Core.List.{List, [], ◌∷◌, ◌++◌, append_assoc}
use lib.ListN.{length, get_or, drop, length-append, replicate, replicate-append-replicate, get_or-append}
use lib.Seq.{drop-cons, drop-append-add, get_or-append-add}
use Rattle.system.specs.Signature.{Signature, arity, span, argument}
use Rattle.system.specs.System.{System, strategy}
use Rattle.system.specs.Terms.{Forest, empty, more, Whole, WellFormed, among}
use Rattle.system.proofs.Forests.{span-zero}
use Rattle.layout.proofs.entries.Repeats.{among-member, member-among}
use Rattle.rewriting.specs.Rewriting.{Active, root, below}
use Rattle.rewriting.proofs.Laws.{next-entry}
use Rattle.rewriting.proofs.Actives.{active-whole, at_parted}
use Rattle.walks.specs.Activity.{flags, pending, front, active_at}
use Rattle.walks.proofs.Arguments.{argument-of, argument-position}

both_true : (b c : Bool) → b && c ≡ true → (b ≡ true) × (c ≡ true)
both_true true c h = (refl, h)
both_true false c h = absurd (let z : ◌≡◌ {A = ℕ} 0 1 = cc in omega arith)

-- ---- the flags of a symbol's arguments

flags-length : (b : Bool) (es : List ℕ) (i k : ℕ) → length (flags b es i k) ≡ k
unfolding flags
flags-length b es i zero = refl
flags-length b es i (suc k) = ap suc (flags-length b es (suc i) k)

flags-at : (b : Bool) (es : List ℕ) (i k j : ℕ) → j < k → get_or (flags b es i k) j false ≡ b && among (suc (i + j)) es
unfolding flags
flags-at b es i zero j h = absurd (not-suc-le-zero h)
flags-at b es i (suc k) zero h = rw (add-zero i)
flags-at b es i (suc k) (suc j) h = rw (add-suc i j, ← suc-add i j) (flags-at b es (suc i) k j (le_of_suc-le-suc h))

flags-false : (es : List ℕ) (i k : ℕ) → flags false es i k ≡ replicate k false
unfolding flags
flags-false es i zero = refl
flags-false es i (suc k) = ap (λ r. false ∷ r) (flags-false es (suc i) k)

module _ (s : System) where
  abbrev g : Signature
  g = s.arities

  -- the flags of the arguments of w, where f is its own
  abbrev below-flags : Bool → ℕ → List Bool
  below-flags f w = flags f (strategy s w) 0 (arity g w)

  argument-flag : (f : Bool) (w j : ℕ) → j < arity g w → get_or (below-flags f w) j false ≡ f && among (suc j) (strategy s w)
  argument-flag f w j h = flags-at f (strategy s w) 0 (arity g w) j h ∙ ap (λ i. f && among (suc i) (strategy s w)) (zero-add j)

  -- ---- `pending`, word by word

  pending-none : (t : List ℕ) (bs : List Bool) → pending s t bs 0 ≡ bs
  unfolding pending
  pending-none [] bs = refl
  pending-none (w ∷ ws) bs = refl

  pending-word : (w : ℕ) (ws : List ℕ) (b : Bool) (bs : List Bool) (q : ℕ) → pending s (w ∷ ws) (b ∷ bs) (suc q) ≡ pending s ws (below-flags b w ++ bs) q
  unfolding pending
  pending-word w ws b bs q = refl

  pending-nil : (bs : List Bool) (q : ℕ) → pending s [] bs (suc q) ≡ []
  unfolding pending
  pending-nil bs q = refl

  pending-empty : (ws : List ℕ) (q : ℕ) → pending s ws [] q ≡ []
  unfolding pending
  pending-empty ws zero = pending-none ws []
  pending-empty [] (suc q) = refl
  pending-empty (w ∷ ws) (suc q) = refl

  -- after m words, and n more
  pub pending-add : (m n : ℕ) (t : List ℕ) (bs : List Bool) → pending s t bs (m + n) ≡ pending s (drop m t) (pending s t bs m) n
  pending-add zero n t bs = rw (zero-add n, pending-none t bs)
  pending-add (suc m) n [] bs = rw (suc-add m n, pending-nil bs (m + n), pending-nil bs m) (sym (pending-empty [] n))
  pending-add (suc m) n (w ∷ ws) [] = rw (pending-empty (w ∷ ws) (suc m + n), pending-empty (w ∷ ws) (suc m)) (sym (pending-empty (drop m ws) n))
  pending-add (suc m) n (w ∷ ws) (b ∷ bs) = rw (suc-add m n, pending-word w ws b bs (m + n), pending-word w ws b bs m) (pending-add m n ws _)

  -- whole subterms are passed with their flags
  pub pending-past : {P : ℕ → Type 0} {k : ℕ} {u : List ℕ} (b : List ℕ) (fs bs : List Bool) → Forest g P k u → k ≤ length fs →
      pending s (u ++ b) (fs ++ bs) (length u) ≡ drop k fs ++ bs
  pending-past b fs bs empty l = pending-none b (fs ++ bs)
  pending-past b [] bs (more h hs) l = absurd (not-suc-le-zero l)
  pending-past b (f ∷ fs) bs (more {w} {k} {ws} h hs) l =
      let ys = below-flags f w in
      let len = flags-length f (strategy s w) 0 (arity g w) in
      let e : k + arity g w ≡ length ys + k = omega arith in
      pending-word w (ws ++ b) f (fs ++ bs) (length ws) ∙ ap (λ z. pending s (ws ++ b) z (length ws)) (sym (append_assoc ys fs bs))
      ∙ pending-past b (ys ++ fs) bs hs (rw (length-append ys fs) (omega arith)) ∙ rw (e, drop-append-add ys fs k)

  -- none of the words of subterms whose flags are false has a true one
  pub pending-false : {P : ℕ → Type 0} {k : ℕ} {u : List ℕ} (b : List ℕ) (bs : List Bool) (j : ℕ) → Forest g P k u → j < length u →
      front (pending s (u ++ b) (replicate k false ++ bs) j) ≡ false
  pending-false b bs j empty l = absurd (not-suc-le-zero l)
  pending-false b bs zero (more {w} {k} {ws} h f) l = ap front (pending-none (w ∷ (ws ++ b)) (false ∷ (replicate k false ++ bs)))
  pending-false b bs (suc j) (more {w} {k} {ws} h f) l =
      let a = arity g w in
      let c : a + k ≡ k + a = omega arith in
      let e : below-flags false w ++ (replicate k false ++ bs) ≡ replicate (k + a) false ++ bs =
      rw (flags-false (strategy s w) 0 a, ← append_assoc (replicate a false) (replicate k false) bs, replicate-append-replicate a k false, c) in
      ap front (pending-word w (ws ++ b) false (replicate k false ++ bs) j) ∙ ap (λ z. front (pending s (ws ++ b) z j)) e
      ∙ pending-false b bs j f (le_of_suc-le-suc l)

  -- ---- sound: each subterm that is pending with a true flag is active

  module _ (t : List ℕ) where
    -- the flags bs tell of active positions, where p words are passed and ws are left
    abbrev Tells : ℕ → List ℕ → List Bool → Type 0
    Tells p ws bs = (j : ℕ) → get_or bs j false ≡ true → Active s t (p + span g ws j)

    tells-word : (p w : ℕ) (ws : List ℕ) (b : Bool) (bs : List Bool) → drop p t ≡ w ∷ ws → Tells p (w ∷ ws) (b ∷ bs) → Tells (suc p) ws (below-flags b w ++ bs)
    unfolding span argument
    tells-word p w ws b bs e h j q =
        let n = next-entry t p w ws e in
        let fs = below-flags b w in
        let len = flags-length b (strategy s w) 0 (arity g w) in
        elim (dec_lt j (arity g w)) [
          | yes l ↦
              let c = both_true b _ (sym (argument-flag b w j l) ∙ sym (get_or-append fs bs false j (omega arith)) ∙ q) in
              let act : Active s t p = rw (add-zero p) at (h 0 c.0) in
              rw n.1 at (below j act (rw n.0 (among-member (suc j) (strategy s w) c.1)))
          | no l ↦
              let k = j - arity g w in
              let x : k + arity g w ≡ j = omega arith in
              let y : length fs + k ≡ j = omega arith in
              subst (Active s t) (rw x (omega arith)) (h (suc k) (sym (get_or-append-add fs bs k false) ∙ rw y q))
        ]

    front-get_or : (bs : List Bool) → front bs ≡ true → get_or bs 0 false ≡ true
    front-get_or [] h = h
    front-get_or (b ∷ bs) h = h

    sound : (q p : ℕ) (ws : List ℕ) (bs : List Bool) → drop p t ≡ ws → Tells p ws bs → front (pending s ws bs q) ≡ true → Active s t (p + q)
    sound zero p ws bs e h f = rw (span-zero g ws) at (h 0 (front-get_or bs (rw (pending-none ws bs) at f)))
    sound (suc q) p [] bs e h f = absurd (let z : ◌≡◌ {A = ℕ} 0 1 = cc (pending-nil bs q) in omega arith)
    sound (suc q) p (w ∷ ws) [] e h f = absurd (let z : ◌≡◌ {A = ℕ} 0 1 = cc (pending-empty (w ∷ ws) (suc q)) in omega arith)
    sound (suc q) p (w ∷ ws) (b ∷ bs) e h f =
        subst (Active s t) (let z : suc p + q ≡ p + suc q = omega arith in z)
        (sound q (suc p) ws (below-flags b w ++ bs) (next-entry t p w ws e).1 (tells-word p w ws b bs e h) (rw (pending-word w ws b bs q) at f))

    -- whatever the words are
    pub active_at-sound : (q : ℕ) → active_at s t q ≡ true → Active s t q
    unfolding active_at
    active_at-sound q f = subst (Active s t) (zero-add q) (sound q 0 t (true ∷ []) refl start f)
      where
        start : Tells 0 t (true ∷ [])
        start zero h = rw (span-zero g t) root
        start (suc j) h = absurd (let z : ◌≡◌ {A = ℕ} 0 1 = cc in omega arith)

  -- ---- complete, over whole terms: the flag of an argument of the subterm at p

  pub argument-pending : (t b : List ℕ) {u : List ℕ} (p i : ℕ) (bs₀ : List Bool) (f : Bool) (bs : List Bool) → Whole g u → drop p t ≡ u ++ b → i < arity g (get_or t p 0) →
      pending s t bs₀ p ≡ f ∷ bs → (bs' : List Bool) × (pending s t bs₀ (argument g t p i) ≡ (f && among (suc i) (strategy s (get_or t p 0))) ∷ bs')
  argument-pending t b p i bs₀ f bs (more {w} {ws} h hs) e l r =
      let n = next-entry t p w (ws ++ b) e in
      let x = argument-of g t p b i (more {k = 0} h hs) e l in
      let m = length x.before in
      let fs = below-flags f w in
      let len = flags-length f (strategy s w) 0 (arity g w) in
      let l' : i < arity g w = rw n.0 at l in
      let past : pending s t bs₀ (argument g t p i) ≡ drop i fs ++ bs =
      ap (pending s t bs₀) (argument-position g t p x ∙ (let z : suc p + m ≡ p + suc m = omega arith in z)) ∙ pending-add p (suc m) t bs₀
      ∙ rw (e, r, pending-word w (ws ++ b) f bs m, ← n.1, x.words) (pending-past (x.here ++ x.behind) fs bs x.fronts (omega arith)) in
      (drop (suc i) fs ++ bs, past ∙ rw (drop-cons fs i false (omega arith), argument-flag f w i l', n.0))

  module _ (wf : WellFormed s) {t : List ℕ} (h : Whole g t) where
    pub active-pending : {q : ℕ} → Active s t q → (bs : List Bool) × (pending s t (true ∷ []) q ≡ true ∷ bs)
    active-pending root = ([], pending-none t (true ∷ []))
    active-pending (below {p} i act st) =
        let c = active-pending act in
        let x = active-whole s wf h act in
        let v = argument-pending t x.behind p i (true ∷ []) true c.0 x.whole (at_parted s x) (wf.entry_bound (get_or t p 0) (suc i) st) c.1 in
        (v.0, v.1 ∙ ap (λ z. z ∷ v.0) (member-among st))

    pub active_at-complete : (q : ℕ) → Active s t q → active_at s t q ≡ true
    unfolding active_at
    active_at-complete q act = ap front (active-pending act).1

    -- `active_at` decides `Active`
    pub active_at-decides : (q : ℕ) → (active_at s t q ≡ true) ↔ Active s t q
    active_at-decides q = (active_at-sound t q, active_at-complete q)
