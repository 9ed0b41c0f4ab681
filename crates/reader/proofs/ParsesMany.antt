-- Parsers of lists, from parsers of their elements: the same n times, for each of a list, and a count before as many.
use Prim.Native.Nat.{ℕ, zero, suc, ◌≤◌, ◌<◌}
use native.Mathlib.Omega.{arith}
use native.Mathlib.Nat.{not-suc-le-zero, le_of_suc-le-suc}
use mathlib.Core.Path.{◌≡◌, refl, sym, ap, ◌∙◌}
use mathlib.Core.List.{List, [], ◌∷◌, ◌++◌}
use lib.ListN.{length, get_or}
use Rattle.system.specs.declared.numbers.Fault.{Fault}
use Rattle.reader.specs.Parser.{ok, fault, Parser, ◌>>=◌, and_then, times, each, number}
use Rattle.reader.proofs.Parsed.{Between, then_ok, between-end, between_join, between_none, between_split, fault-then, ok-then, ok-place, ok-value}
use Rattle.reader.proofs.Parses.{Reads, one, reads-number}

-- ---- the same n times

-- P holds of each of a list
abbrev pub Every : {A : Type 0} → A → (A → Type 0) → List A → Type 0
Every d P xs = (k : ℕ) → k < length xs → P (get_or xs k d)

pub every-cons : {A : Type 0} (d : A) (P : A → Type 0) (x : A) (xs : List A) → P x → Every d P xs → Every d P (x ∷ xs)
every-cons d P x xs h hs zero l = h
every-cons d P x xs h hs (suc k) l = hs k (le_of_suc-le-suc l)

-- the first of n + 1, and the others
pub record Times {A : Type 0} (n : ℕ) (p : Parser A) (i j : ℕ) (xs : List A) : Type 0 where
  pub head : A
  pub tail : List A
  pub place : ℕ
  pub equal : xs ≡ head ∷ tail
  pub first : p i ≡ ok head place
  pub others : times n p place ≡ ok tail j

module _ {A : Type 0} (p : Parser A) where
  pub times_none : {i j : ℕ} {xs : List A} → times zero p i ≡ ok xs j → (xs ≡ []) × (j ≡ i)
  unfolding times
  times_none e = (sym (ok-value e), sym (ok-place e))

  pub none-times : (i : ℕ) → times zero p i ≡ ok [] i
  unfolding times
  none-times i = refl

  pub times-some : (n : ℕ) {i j : ℕ} {xs : List A} → times (suc n) p i ≡ ok xs j → Times n p i j xs
  unfolding times
  times-some n {i} e =
      let a = then_ok (p i) _ e in
      let b = then_ok (times n p a.place) _ a.goes in
      record { head = a.value; tail = b.value; place = a.place; equal = sym (ok-value b.goes); first = a.reads; others = b.reads ∙ ap (λ k. ok b.value k) (ok-place b.goes) }

  -- the first is read: the others decide; it is refused: so is all
  pub times-step : (n : ℕ) {i j : ℕ} {x : A} → p i ≡ ok x j → times (suc n) p i ≡ and_then (times n p j) (λ xs k. ok (x ∷ xs) k)
  unfolding times
  times-step n a = ok-then a _

  pub times-fault : (n : ℕ) {i j : ℕ} {f : Fault} → p i ≡ fault f j → times (suc n) p i ≡ fault f j
  unfolding times
  times-fault n a = fault-then a _

  pub times-cons : (n : ℕ) {i j k : ℕ} {x : A} {xs : List A} → p i ≡ ok x j → times n p j ≡ ok xs k → times (suc n) p i ≡ ok (x ∷ xs) k
  times-cons n a b = times-step n a ∙ ok-then b _

-- what a parser of a list reads, from what the parser of its elements reads
module _ {A : Type 0} {ws : List ℕ} {p : Parser A} {enc : A → List ℕ} {Good : A → Type 0} (r : Reads ws p enc Good)
    (encs : List A → List ℕ) (nil : encs [] ≡ []) (cons : (x : A) (xs : List A) → encs (x ∷ xs) ≡ enc x ++ encs xs) (d : A) where
  times-sound : (n : ℕ) {i j : ℕ} {xs : List A} → times n p i ≡ ok xs j → Between ws i j (encs xs)
  times-sound zero {i} {j} {xs} e = let t = times_none p e in rw (t.0, t.1, nil) (between_none i)
  times-sound (suc n) {i} {j} {xs} e =
      let t = times-some p n e in
      rw (t.equal, cons t.head t.tail) (between_join (r.sound t.first) (times-sound n t.others))

  times-good : (n i : ℕ) {j : ℕ} {xs : List A} → times n p i ≡ ok xs j → (length xs ≡ n) × Every d Good xs
  times-good zero i e = let t = times_none p e in (rw t.0, rw t.0 (λ k l. absurd (not-suc-le-zero l)))
  times-good (suc n) i e =
      let t = times-some p n e in
      let h = times-good n t.place t.others in
      (rw t.equal (ap suc h.0), rw t.equal (every-cons d Good t.head t.tail (r.good t.first) h.1))

  times-complete : (n : ℕ) (xs : List A) {i j : ℕ} → Between ws i j (encs xs) → length xs ≡ n → Every d Good xs → times n p i ≡ ok xs j
  times-complete zero [] {i} {j} b l h = rw (between-end (rw nil at b)) (none-times p j)
  times-complete zero (x ∷ xs) b l h = absurd (omega arith)
  times-complete (suc n) [] b l h = absurd (omega arith)
  times-complete (suc n) (x ∷ xs) {i} {j} b l h =
      let s = between_split (enc x) (encs xs) (rw (cons x xs) at b) in
      times-cons p n (r.complete s.0 (h 0 (omega arith))) (times-complete n xs s.1 (omega arith) (λ k m. h (suc k) (omega arith)))

  pub reads_times : (n : ℕ) → Reads ws (times n p) encs (λ xs. (length xs ≡ n) × Every d Good xs)
  reads_times n = record { sound = times-sound n; good = λ {i} e. times-good n i e; complete = λ {x} b h. times-complete n x b h.0 h.1 }

-- n numbers
pub reads-numbers : (ws : List ℕ) (f : Fault) (low high n : ℕ) →
    Reads ws (times n (number ws f low high)) (λ xs. xs) (λ xs. (length xs ≡ n) × Every 0 (λ w. (low ≤ w) × (w ≤ high)) xs)
reads-numbers ws f low high n = reads_times (reads-number ws f low high) (λ xs. xs) refl (λ x xs. refl) 0 n

-- ---- for each of a list

pub record Each {A B : Type 0} (p : A → Parser B) (a : A) (more : List A) (i j : ℕ) (xs : List B) : Type 0 where
  pub head : B
  pub tail : List B
  pub place : ℕ
  pub equal : xs ≡ head ∷ tail
  pub first : p a i ≡ ok head place
  pub others : each p more place ≡ ok tail j

module _ {A B : Type 0} (p : A → Parser B) where
  pub none_each : (i : ℕ) → each p [] i ≡ ok [] i
  unfolding each
  none_each i = refl

  pub each_none : {i j : ℕ} {xs : List B} → each p [] i ≡ ok xs j → (xs ≡ []) × (j ≡ i)
  unfolding each
  each_none e = (sym (ok-value e), sym (ok-place e))

  pub each-some : (a : A) (more : List A) {i j : ℕ} {xs : List B} → each p (a ∷ more) i ≡ ok xs j → Each p a more i j xs
  unfolding each
  each-some a more {i} e =
      let t = then_ok (p a i) _ e in
      let u = then_ok (each p more t.place) _ t.goes in
      record {
        head = t.value;
        tail = u.value;
        place = t.place;
        equal = sym (ok-value u.goes);
        first = t.reads;
        others = u.reads ∙ ap (λ k. ok u.value k) (ok-place u.goes);
      }

  pub each_step : (a : A) (more : List A) {i j : ℕ} {x : B} → p a i ≡ ok x j → each p (a ∷ more) i ≡ and_then (each p more j) (λ xs k. ok (x ∷ xs) k)
  unfolding each
  each_step a more h = ok-then h _

  pub each-fault : (a : A) (more : List A) {i j : ℕ} {f : Fault} → p a i ≡ fault f j → each p (a ∷ more) i ≡ fault f j
  unfolding each
  each-fault a more h = fault-then h _

  pub each-cons : (a : A) (more : List A) {i j k : ℕ} {x : B} {xs : List B} → p a i ≡ ok x j → each p more j ≡ ok xs k → each p (a ∷ more) i ≡ ok (x ∷ xs) k
  each-cons a more h hs = each_step a more h ∙ ok-then hs _

-- P holds of the elements of two lists at each index
abbrev pub Pairwise : {A B : Type 0} → A → B → (A → B → Type 0) → List A → List B → Type 0
Pairwise a b P xs ys = (k : ℕ) → k < length xs → P (get_or xs k a) (get_or ys k b)

pub pairwise_cons : {A B : Type 0} (a : A) (b : B) (P : A → B → Type 0) (x : A) (xs : List A) (y : B) (ys : List B) →
    P x y → Pairwise a b P xs ys → Pairwise a b P (x ∷ xs) (y ∷ ys)
pairwise_cons a b P x xs y ys h hs zero l = h
pairwise_cons a b P x xs y ys h hs (suc k) l = hs k (le_of_suc-le-suc l)

module _ {A B : Type 0} {ws : List ℕ} {p : A → Parser B} {enc : B → List ℕ} {Good : A → B → Type 0} (r : (a : A) → Reads ws (p a) enc (Good a))
    (encs : List B → List ℕ) (nil : encs [] ≡ []) (cons : (x : B) (xs : List B) → encs (x ∷ xs) ≡ enc x ++ encs xs) (da : A) (db : B) where
  each-sound : (more : List A) {i j : ℕ} {xs : List B} → each p more i ≡ ok xs j → Between ws i j (encs xs)
  each-sound [] {i} e = let t = each_none p e in rw (t.0, t.1, nil) (between_none i)
  each-sound (a ∷ more) e =
      let t = each-some p a more e in
      rw (t.equal, cons t.head t.tail) (between_join ((r a).sound t.first) (each-sound more t.others))

  each-good : (more : List A) (i : ℕ) {j : ℕ} {xs : List B} → each p more i ≡ ok xs j → (length xs ≡ length more) × Pairwise da db Good more xs
  each-good [] i e = let t = each_none p e in (rw t.0, λ k l. absurd (not-suc-le-zero l))
  each-good (a ∷ more) i e =
      let t = each-some p a more e in
      let h = each-good more t.place t.others in
      (rw t.equal (ap suc h.0), rw t.equal (pairwise_cons da db Good a more t.head t.tail ((r a).good t.first) h.1))

  each-complete : (more : List A) (xs : List B) {i j : ℕ} → Between ws i j (encs xs) → length xs ≡ length more → Pairwise da db Good more xs → each p more i ≡ ok xs j
  each-complete [] [] {i} {j} b l h = rw (between-end (rw nil at b)) (none_each p j)
  each-complete [] (x ∷ xs) b l h = absurd (omega arith)
  each-complete (a ∷ more) [] b l h = absurd (omega arith)
  each-complete (a ∷ more) (x ∷ xs) {i} {j} b l h =
      let s = between_split (enc x) (encs xs) (rw (cons x xs) at b) in
      each-cons p a more ((r a).complete s.0 (h 0 (omega arith))) (each-complete more xs s.1 (omega arith) (λ k m. h (suc k) (omega arith)))

  pub reads-each : (more : List A) → Reads ws (each p more) encs (λ xs. (length xs ≡ length more) × Pairwise da db Good more xs)
  reads-each more = record { sound = each-sound more; good = λ {i} e. each-good more i e; complete = λ {x} b h. each-complete more x b h.0 h.1 }

-- ---- a count, then as many

module _ {A : Type 0} {ws : List ℕ} (size : A → ℕ) (q : ℕ → Parser A) {enc : A → List ℕ} {Good : A → Type 0}
    (r : (n : ℕ) → Reads ws (q n) enc (λ x. (size x ≡ n) × Good x)) (f : Fault) (low high : ℕ) where
  pub reads-counted : Reads ws (◌>>=◌ (number ws f low high) q) (λ x. size x ∷ enc x) (λ x. (low ≤ size x) × (size x ≤ high) × Good x)
  reads-counted = record { sound = between; good = λ {i} e. fine i e; complete = takes }
    where
      c : Reads ws (number ws f low high) one (λ w. (low ≤ w) × (w ≤ high))
      c = reads-number ws f low high

      between : {i j : ℕ} {x : A} → (◌>>=◌ (number ws f low high) q) i ≡ ok x j → Between ws i j (size x ∷ enc x)
      between {i} {j} {x} e =
          let t = then_ok (number ws f low high i) q e in
          let u = ((r t.value).good t.goes).0 in
          rw u (between_join (c.sound t.reads) ((r t.value).sound t.goes))

      fine : (i : ℕ) {j : ℕ} {x : A} → (◌>>=◌ (number ws f low high) q) i ≡ ok x j → (low ≤ size x) × (size x ≤ high) × Good x
      fine i e =
          let t = then_ok (number ws f low high i) q e in
          let u = (r t.value).good t.goes in
          let b = c.good t.reads in
          let v = u.0 in
          (omega arith, omega arith, u.1)

      takes : {i j : ℕ} {x : A} → Between ws i j (size x ∷ enc x) → (low ≤ size x) × (size x ≤ high) × Good x → (◌>>=◌ (number ws f low high) q) i ≡ ok x j
      takes {x} b h =
          let s = between_split (one (size x)) (enc x) b in
          rw (c.complete s.0 (h.0, h.1)) ((r (size x)).complete s.1 (refl, h.2))
