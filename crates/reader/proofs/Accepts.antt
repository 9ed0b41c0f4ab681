-- The reader accepts the books that 01 describes and no others: it gives the system s exactly if s is well formed and the words are
-- the encoding of s.
use Prim.Native.Nat.{ℕ, ◌≤◌, zero-le}
use native.Mathlib.Omega.{arith}
use mathlib.Core.Path.{◌≡◌, refl, sym, ap, ◌∙◌}
use mathlib.Core.Logic.{◌↔◌}
use mathlib.Core.Bool.{Bool, true, false}
use mathlib.Core.List.{List, [], ◌∷◌, ◌++◌, append_assoc, append-nil}
use lib.ListN.{length, get_or, drop_of_length-le}
use lib.Seq.{drop-length}
use lib.Dec.{ltb}
use borrow.Author.Tests.{le-ltb, ltb-false}
use Rattle.system.specs.Limits.{variable, max_arity, max_rules, max_symbols, side_words}
use Rattle.system.specs.Signature.{Signature, Listed}
use Rattle.system.specs.System.{System, Rule, no_rule}
use Rattle.system.specs.Terms.{WellFormedRule, WellFormed}
use Rattle.reader.specs.Format.{encode_list, encode_strategies, encode_rules, encode}
use Rattle.reader.specs.declared.scan.sides.SideRole.{SideRole}
use Rattle.reader.specs.declared.scan.sides.SideRole.TheVariants.{Left, Right}
use Rattle.system.specs.declared.numbers.Fault.TheVariants.{Range}
use Rattle.reader.specs.Answers.{answer_of}
use Rattle.reader.specs.Parser.{Parsed, ok, fault, times, each, number, Reading, read_words, read_strategy, read_side, read_rule, read_rules, read_end, read_system, read}
use Rattle.system.proofs.Signatures.{symbol-lt, arity-listed}
use Rattle.system.proofs.Forests.{forest-length}
use Rattle.reader.proofs.Strategies.{reads-strategies, narrow-every, strategy-every, every-strategy}
use Rattle.reader.proofs.Parsed.{ok-value, ok-place, not-fault, then_ok, Between, between_join, between_split, between-ok}
use Rattle.reader.proofs.Parses.{Reads, one, reads-number}
use Rattle.reader.proofs.ParsesMany.{Every, reads-numbers, reads_times, reads-counted}
use Rattle.system.proofs.FaultNumbers.{number-positive}
use Rattle.reader.proofs.Sides.{Taken, reads-words, taken-forest, taken-numbered, taken-few, taken-headed, taken-known, left-taken, right-taken}

-- ---- rules

-- a side that was read
abbrev pub TakenSide : Signature → SideRole → ℕ → Reading → Type 0
TakenSide g h known r = (1 ≤ length r.words) × (length r.words ≤ side_words) × Taken g h true 1 known r.known r.words

abbrev pub encode_rule : Rule → List ℕ
encode_rule r = encode_list r.lhs ++ encode_list r.rhs

pub encode-rule : (r : Rule) (rs : List Rule) → encode_rules (r ∷ rs) ≡ encode_rule r ++ encode_rules rs
unfolding encode_rules
encode-rule r rs = sym (append_assoc (encode_list r.lhs) (encode_list r.rhs) (encode_rules rs))

encode-none : encode_rules [] ≡ []
unfolding encode_rules
encode-none = refl

-- a rule that may stand in a book: well formed, and its left side starts with a listed symbol
abbrev pub Own : Signature → Rule → Type 0
Own g r = WellFormedRule g r × Listed g (get_or r.lhs 0 variable)

-- the rules after their count, up to the end
pub record Rules (ws : List ℕ) (g : Signature) (i j : ℕ) (rs : List Rule) : Type 0 where
  pub stand : Between ws i j (length rs ∷ encode_rules rs)
  pub few : length rs ≤ max_rules
  pub own : Every no_rule (Own g) rs
  pub ends : length ws ≤ j

module _ (ws : List ℕ) (g : Signature) where
  pub reads-side : (h : SideRole) (known : ℕ) → Reads ws (read_side ws g h known) (λ r. encode_list r.words) (TakenSide g h known)
  unfolding read_side encode_list
  reads-side h known =
      reads-counted (λ r. length r.words) (λ n. read_words ws g h true n 1 known) (λ n. reads-words ws g h true n 1 known) Range 1 side_words

  module _ (below : length g ≤ variable) where
    pub reads-rule : Reads ws (read_rule ws g) encode_rule (Own g)
    unfolding read_rule
    reads-rule = record { sound = λ {i} e. between i e; good = λ {i} e. fine i e; complete = λ {i} {j} {x} b h. takes-rule i j x b h }
      where
        between : (i : ℕ) {j : ℕ} {x : Rule} → read_rule ws g i ≡ ok x j → Between ws i j (encode_rule x)
        between i e =
            let a = then_ok (read_side ws g Left 0 i) _ e in
            let b = then_ok (read_side ws g Right a.value.known a.place) _ a.goes in
            between-ok encode_rule b.goes (between_join ((reads-side Left 0).sound a.reads) ((reads-side Right a.value.known).sound b.reads))

        fine : (i : ℕ) {j : ℕ} {x : Rule} → read_rule ws g i ≡ ok x j → Own g x
        fine i e =
            let a = then_ok (read_side ws g Left 0 i) _ e in
            let b = then_ok (read_side ws g Right a.value.known a.place) _ a.goes in
            let l = (reads-side Left 0).good a.reads in
            let r = (reads-side Right a.value.known).good b.reads in
            let own = taken-headed g below l.2 in
            rw (← ok-value b.goes) (
              record {
                count = a.value.known;
                variable_bound = taken-few g below l.2 zero-le;
                headed = symbol-lt g _ own;
                left = taken-forest g Left l.2;
                right = taken-forest g Right r.2;
                short_left = l.1;
                short_right = r.1;
                numbered = taken-numbered g below l.2;
                known = taken-known g below r.2;
              },
              own,
            )

        takes-rule : (i j : ℕ) (x : Rule) → Between ws i j (encode_rule x) → Own g x → read_rule ws g i ≡ ok x j
        takes-rule i j x b own =
            let h = own.0 in
            let s = between_split (encode_list x.lhs) (encode_list x.rhs) b in
            let l = left-taken g below h.left h.numbered h.variable_bound true (λ _. own.1) in
            let r = right-taken g below h.right h.variable_bound h.known true in
            let a = (reads-side Left 0).complete {x = record { words = x.lhs; known = h.count }} s.0 (forest-length h.left, h.short_left, l) in
            let c = (reads-side Right h.count).complete {x = record { words = x.rhs; known = h.count }} s.1 (forest-length h.right, h.short_right, r) in
            rw a (rw c)

    reads-rules : (n : ℕ) → Reads ws (times n (read_rule ws g)) encode_rules (λ rs. (length rs ≡ n) × Every no_rule (Own g) rs)
    reads-rules n = reads_times reads-rule encode_rules encode-none encode-rule no_rule n

    ends_at : {i j : ℕ} {u : Unit {0}} → read_end ws i ≡ ok u j → (length ws ≤ i) × (i ≡ j)
    unfolding read_end
    ends_at {i} {j} e = go (ltb i (length ws)) refl
      where
        go : (b : Bool) → ltb i (length ws) ≡ b → (length ws ≤ i) × (i ≡ j)
        go true t = absurd (not-fault (rw (t, read_end) at e))
        go false t = (ltb-false i (length ws) t, ok-place (rw (t, read_end) at e))

    at-end : (i : ℕ) → length ws ≤ i → read_end ws i ≡ ok tt i
    unfolding read_end
    at-end i l = rw (le-ltb i (length ws) l, read_end)

    counted-rules : {i n k j : ℕ} {rs : List Rule} → number ws Range 0 max_rules i ≡ ok n k → times n (read_rule ws g) k ≡ ok rs j → length ws ≤ j → Rules ws g i j rs
    counted-rules {n} {j} {rs} c t l =
        let h = (reads-rules n).good t in
        let b = ((reads-number ws Range 0 max_rules).good c).1 in
        let e = h.0 in
        record { stand = rw e (between_join ((reads-number ws Range 0 max_rules).sound c) ((reads-rules n).sound t)); few = omega arith; own = h.1; ends = l }

    same-rules : {i k j : ℕ} {rs rs' : List Rule} → ok rs k ≡ ok rs' j → Rules ws g i k rs → Rules ws g i j rs'
    same-rules e h = rw (← ok-value e, ← ok-place e) h

    pub rules-read : (i : ℕ) {j : ℕ} {rs : List Rule} → read_rules ws g i ≡ ok rs j → Rules ws g i j rs
    unfolding read_rules
    rules-read i e =
        let a = then_ok (number ws Range 0 max_rules i) _ e in
        let b = then_ok (times a.value (read_rule ws g) a.place) _ a.goes in
        let c = then_ok (read_end ws b.place) _ b.goes in
        let d = ends_at c.reads in
        same-rules (ap (λ k. ok b.value k) d.1 ∙ c.goes) (counted-rules a.reads b.reads d.0)

    pub read-rules : (i j : ℕ) (rs : List Rule) → Rules ws g i j rs → read_rules ws g i ≡ ok rs j
    unfolding read_rules
    read-rules i j rs h =
        let s = between_split (one (length rs)) (encode_rules rs) h.stand in
        let c = (reads-number ws Range 0 max_rules).complete s.0 (zero-le, h.few) in
        let t = (reads-rules (length rs)).complete s.1 (refl, h.own) in
        rw c (rw t (rw (at-end j h.ends)))

-- ---- the whole book

-- the encoding of a well-formed system stands in ws, and nothing after it
pub record ReadAs (ws : List ℕ) (j : ℕ) (s : System) : Type 0 where
  pub well : WellFormed s
  pub stands : Between ws 0 j (encode s)
  pub ends : length ws ≤ j

-- the arities and strategies by index, as the lists are read
module _ (ws : List ℕ) where
  joined : {n a b m c d j : ℕ} {g : Signature} {ess : List (List ℕ)} {rs : List Rule} → number ws Range 1 max_symbols 0 ≡ ok n a → times n (number ws Range 0 max_arity) a ≡ ok g b →
      number ws Range n n b ≡ ok m c → each (read_strategy ws) g c ≡ ok ess d → read_rules ws g d ≡ ok rs j → ReadAs ws j (record { arities = g; strategies = ess; rules = rs })
  unfolding encode encode_list
  joined {n} {a} {b} {m} {c} {d} {j} {g} {ess} {rs} count symbol_bound again strategy_count rules =
      let s : System = record { arities = g; strategies = ess; rules = rs } in
      let bn = (reads-number ws Range 1 max_symbols).good count in
      let bg = (reads-numbers ws Range 0 max_arity n).good symbol_bound in
      let bm = (reads-number ws Range n n).good again in
      let bs = (reads-strategies ws g).good strategy_count in
      let lg : length g ≡ n = bg.0 in
      let ls : length ess ≡ length g = bs.0 in
      let lm : m ≡ length ess = omega arith in
      let st = strategy-every s ls bs.1 in
      let rr = rules-read ws g (omega arith) d rules in
      record {
        well = record {
          some_symbols = omega arith;
          symbol_bound = omega arith;
          arity_bound = narrow-every g bg.1;
          strategy_count = ls;
          strategy_bound = λ f. (st f).0;
          entry_bound = λ f e. (st f).1 e;
          rule_bound = rr.few;
          well_formed_rules = λ k l. (rr.own k l).0;
          own_rules = λ k l. (rr.own k l).1;
        };
        stands = rw (← lm, lg) (between_join ((reads-number ws Range 1 max_symbols).sound count) (between_join ((reads-numbers ws Range 0 max_arity n).sound symbol_bound)
            (between_join ((reads-number ws Range n n).sound again) (between_join ((reads-strategies ws g).sound strategy_count) rr.stand))));
        ends = rr.ends;
      }

  same-system : {k j : ℕ} {s s' : System} → ok s k ≡ ok s' j → ReadAs ws k s → ReadAs ws j s'
  same-system e h = rw (← ok-value e, ← ok-place e) h

  pub system-read : {j : ℕ} {s : System} → read ws ≡ ok s j → ReadAs ws j s
  unfolding read read_system
  system-read e =
      let a = then_ok (number ws Range 1 max_symbols 0) _ e in
      let b = then_ok (times a.value (number ws Range 0 max_arity) a.place) _ a.goes in
      let c = then_ok (number ws Range a.value a.value b.place) _ b.goes in
      let d = then_ok (each (read_strategy ws) b.value c.place) _ c.goes in
      let r = then_ok (read_rules ws b.value d.place) _ d.goes in
      same-system r.goes (joined a.reads b.reads c.reads d.reads r.reads)

  pub read-system : (j : ℕ) (s : System) → ReadAs ws j s → read ws ≡ ok s j
  unfolding read read_system encode encode_list
  read-system j s h =
      let g = s.arities in
      let w = h.well in
      let symbol_bound : length g ≤ max_symbols = w.symbol_bound in
      let e₁ = between_split (one (length g)) _ h.stands in
      let e₂ = between_split g _ e₁.1 in
      let e₃ = between_split (one (length s.strategies)) _ e₂.1 in
      let e₄ = between_split (encode_strategies s.strategies) _ e₃.1 in
      let a = (reads-number ws Range 1 max_symbols).complete e₁.0 (w.some_symbols, symbol_bound) in
      let b = (reads-numbers ws Range 0 max_arity (length g)).complete e₂.0 (refl, λ k l. (zero-le, rw (arity-listed g k l) at (w.arity_bound k))) in
      let c = (reads-number ws Range (length g) (length g)).complete e₃.0 (let o = w.strategy_count in omega arith) in
      let d = (reads-strategies ws g).complete e₄.0 (w.strategy_count, every-strategy s w) in
      let r = read-rules ws g (omega arith) _ j s.rules (record { stand = e₄.1; few = w.rule_bound; own = λ k l. (w.well_formed_rules k l, w.own_rules k l); ends = h.ends }) in
      rw a (rw b (rw c (rw d (rw r))))

  accepted-words : {j : ℕ} {s : System} → ReadAs ws j s → (ws ≡ encode s) × (j ≡ length ws)
  accepted-words {j} {s} h =
      let e : ws ≡ encode s = h.stands.words ∙ ap (λ r. encode s ++ r) (drop_of_length-le ws h.ends) ∙ append-nil (encode s) in
      let l : length ws ≡ length (encode s) = ap length e in
      let q = h.stands.ends in
      (e, omega arith)

-- the encoding of a well-formed system is read as that system, up to its end
pub read-complete : (s : System) → WellFormed s → read (encode s) ≡ ok s (length (encode s))
read-complete s w =
    read-system (encode s) (length (encode s)) s (record {
      well = w;
      stands = record { words = sym (ap (λ r. encode s ++ r) (drop-length (encode s)) ∙ append-nil (encode s)); ends = omega arith };
      ends = omega arith;
    })

-- what is read is well formed, its encoding is the whole book, and the index reached is the book's length
pub read-sound : (ws : List ℕ) {s : System} {i : ℕ} → read ws ≡ ok s i → WellFormed s × (ws ≡ encode s) × (i ≡ length ws)
read-sound ws e =
    let h = system-read ws e in
    let p = accepted-words ws h in
    (h.well, p.0, p.1)

-- THE READER: it accepts the encodings of well-formed systems and nothing else
pub accepts : (ws : List ℕ) (s : System) → (read ws ≡ ok s (length ws)) ↔ (WellFormed s × (ws ≡ encode s))
accepts ws s = (λ e. let h = read-sound ws e in (h.0, h.1), λ h. rw h.1 (read-complete s h.0))

-- the same of the answer: it is 0 for the encodings of well-formed systems and for nothing else
pub accepts-answer : (ws : List ℕ) → ((answer_of (read ws)).number ≡ 0) ↔ ((s : System) × WellFormed s × (ws ≡ encode s))
accepts-answer ws = (go (read ws) refl, λ h. rw (h.2, read-complete h.0 h.1))
  where
    go : (o : Parsed System) → read ws ≡ o → (answer_of o).number ≡ 0 → (s : System) × WellFormed s × (ws ≡ encode s)
    go (ok s i) q e = let h = read-sound ws q in (s, h.0, h.1)
    go (fault f i) q e = absurd (let p = number-positive f in omega arith)

-- so no two well-formed systems have the same encoding
pub encode_injective : (s t : System) → WellFormed s → WellFormed t → encode s ≡ encode t → s ≡ t
encode_injective s t v w e = ok-value (sym (read-complete s v) ∙ ap read e ∙ read-complete t w)
