-- The search in the rows: what the loop over the words of a left side keeps, its turns, and the ways out of both loops.
use Prim.Native.Nat.{ℕ, ◌+◌, ◌-◌, ◌≤◌, ◌<◌}
use native.Mathlib.Nat.{add-zero}
use native.Mathlib.Omega.{arith}
use mathlib.Core.Path.{◌≡◌, refl, sym, ap, ◌∙◌, subst}
use mathlib.Core.List.{List, ◌++◌, append-nil}
use lib.ListN.{length, get_or, take, drop, length-drop, take-append-drop, drop_of_length-le}
use lib.Seq.{sets-eq}
use Rattle.buffers.specs.Words.{over, zeros}
use Rattle.buffers.proofs.Zeros.{length-zeros}
use Rattle.reader.specs.declared.Shape.{Shape}
use Rattle.system.specs.Limits.{variable, variables}
use Rattle.system.specs.System.{rule, head}
use Rattle.system.proofs.Signatures.{few-symbols}
use Rattle.system.proofs.Forests.{forest-length}
use Rattle.system.proofs.Rules.{listed-head}
use Rattle.system.specs.BuiltIns.{literal}
use Rattle.system.specs.Signature.{signature_of}
use Rattle.reader.specs.Book.{system_of, Accepted}
use Rattle.layout.specs.index.Accepted.{RulesAt}
use Rattle.layout.specs.rules.Rules.{RuleSpan, rule_span}
use Rattle.layout.proofs.Books.{Turn, well}
use Rattle.matching.specs.declared.Match.{Match}
use Rattle.std.specs.Prelude.{Option, Some, None, IfSome}
use Rattle.layout.specs.index.Index.{RuleNumber}
use Rattle.redexes.specs.declared.search.Redex.{Redex}
use Rattle.redexes.specs.declared.search.Redex.TheVariants.{Listed}
use Rattle.matching.proofs.SameWords.{part_length, part-word}
use Rattle.matching.specs.declared.FirstRule.{FirstRule}
use Rattle.matching.specs.Matching.{computed}
use Rattle.matching.specs.Bindings.{no_bindings, consumed, taken, with_binding, computed_rule, match_of}
use Rattle.redexes.proofs.search.Binds.{symbol-bound}
use Rattle.redexes.specs.search.Redexes.{binding_words, bound_in, some_words, redex_for, redex_of, Bound}
use Rattle.redexes.proofs.search.SomeWords.{some_words-some, some-from_words, none-from_words}
use Rattle.matching.proofs.Sources.{not-computed, match_low, match-words}
use Rattle.matching.proofs.rules.MatchSteps.{consumed-same, taken-symbol}
use Rattle.matching.proofs.rules.Searches.{Walked, walk-starts, walk_ends, walk-stops, walk-fits, walk-goes}
use Rattle.matching.proofs.rules.Lists.{Fails, Along, other-fails, along-ends, along-here}

-- ---- the words that hold the bindings

all-clear : (bs : List ℕ) → length bs ≡ binding_words → over bs 0 (zeros binding_words) ≡ zeros binding_words
all-clear bs e =
    let n = length-zeros binding_words in
    sets-eq (zeros binding_words) bs 0 (omega arith)
    ∙ ap (λ l. zeros binding_words ++ l) (drop_of_length-le bs {i = 0 + length (zeros binding_words)} (omega arith))
    ∙ append-nil (zeros binding_words)

clear-starts : take variables (zeros binding_words) ≡ no_bindings.starts
unfolding zeros no_bindings
clear-starts = refl

clear-lengths : drop variables (zeros binding_words) ≡ no_bindings.lengths
unfolding zeros no_bindings
clear-lengths = refl

-- ---- the loops

-- the search has come to rule k, and found none yet
pub record Searching (b : List ℕ) (sh : Shape) (ws bs : List ℕ) (found : Option Redex) (next : Option ℕ) : Type 0 where
  pub sized : length bs ≡ binding_words
  pub none_found : found ≡ None
  pub k : ℕ
  pub number : RuleNumber sh.rules k next
  pub along : Along b sh ws k

module _ {b : List ℕ} {sh : Shape} {ws bs : List ℕ} {found : Option Redex} {next : Option ℕ} (v : Searching b sh ws bs found next) where
  -- this rule is to be tried
  pub tries : {k : ℕ} → next ≡ Some k → (k < sh.rules) × Along b sh ws k
  tries {k} is =
      let n = subst (RuleNumber sh.rules v.k) is v.number in
      (n.1, subst (Along b sh ws) (sym n.0) v.along)

  -- none is left
  pub no_rule_left : next ≡ None → sh.rules ≤ v.k
  no_rule_left is = let n = subst (RuleNumber sh.rules v.k) is v.number in omega arith

-- how many rules are left, by the one that is next
abbrev pub rules_left : ℕ → Option ℕ → ℕ
rules_left rules None = 0
rules_left rules (Some k) = rules - k

pub fewer-left : {rules k : ℕ} (n : ℕ) (next : Option ℕ) → k < rules → RuleNumber rules n next → IfSome next (λ n. k < n) → rules_left rules next < rules - k
fewer-left n None more is later = omega arith
fewer-left n (Some m) more is later = omega (arith, is.1, later)

-- the first j words of the left side of rule k have taken the words of the term t from p to q
pub record Trying (b t : List ℕ) (p k width : ℕ) (bs : List ℕ) (j q : ℕ) : Type 0 where
  pub onward : p ≤ q
  pub sized : length bs ≡ binding_words
  pub walked : Walked b (drop p t) k width j (q - p) (bound_in bs).starts (bound_in bs).lengths

module _ {b : List ℕ} {sh : Shape} {of at : ℕ} {r : RuleSpan} (turn : Turn b sh of at r) (t : List ℕ) (p : ℕ) where
  pub try-starts : (bs : List ℕ) {bs' : List ℕ} → length bs ≡ binding_words → bs' ≡ over bs 0 (zeros binding_words) → Trying b t p of r.width bs' 0 p
  try-starts bs e c =
      let z : 0 ≡ p - p = omega arith in
      let is = c ∙ all-clear bs e in
      rw is
      (record {
        onward = omega arith;
        sized = length-zeros binding_words;
        walked = rw (clear-starts, clear-lengths) (subst (λ q. Walked b (drop p t) of r.width 0 q no_bindings.starts no_bindings.lengths) z (walk-starts turn (drop p t)));
      })

  -- word l of the left side, number j
  module _ {width j q : ℕ} {bs : List ℕ} (wide : width ≡ r.width) (v : Trying b t p of width bs j q) (here : j < width)
      {l : ℕ} (word : l ≡ get_or b (r.lhs + j) 0) where
    walked : Walked b (drop p t) of r.width j (q - p) (bound_in bs).starts (bound_in bs).lengths
    walked = subst (λ w. Walked b (drop p t) of w j (q - p) (bound_in bs).starts (bound_in bs).lengths) wide v.walked

    here' : j < r.width
    here' = omega arith

    takes-it : taken (signature_of b) (drop p t) (get_or b (r.lhs + j) 0) (q - p) (bound_in bs) ≡ taken (signature_of b) (drop p t) l (q - p) (bound_in bs)
    takes-it = ap (λ l. taken (signature_of b) (drop p t) l (q - p) (bound_in bs)) (sym word)

    -- an unequal word
    pub try-fails : None ≡ some_words (taken (signature_of b) (drop p t) l (q - p) (bound_in bs)) → Fails b (drop p t) of
    try-fails e = walk-stops turn walked here' (takes-it ∙ none-from_words e)

    -- a word that is matched
    module _ {n : ℕ} (takes : Some n ≡ some_words (taken (signature_of b) (drop p t) l (q - p) (bound_in bs))) where
      took : n ≡ taken (signature_of b) (drop p t) (get_or b (r.lhs + j) 0) (q - p) (bound_in bs)
      took = (some-from_words takes).0 ∙ sym takes-it

      much : n ≡ 0 → ⊥
      much = (some-from_words takes).1

      pub try-fits : p ≤ length t → q + n ≤ length t
      try-fits h =
          let o = v.onward in
          let f = walk-fits turn walked here' took much in
          let d = length-drop p t in
          omega arith

      pub try-goes : {bs' : List ℕ} → length bs' ≡ binding_words → bound_in bs' ≡ with_binding l (q - p) n (bound_in bs) →
          Trying b t p of width bs' (j + 1) (q + n)
      try-goes {bs'} e is =
          let o = v.onward in
          let z : q - p + n ≡ q + n - p = omega arith in
          let bound = ap (λ l. with_binding l (q - p) n (bound_in bs)) (sym word) ∙ sym is in
          record {
            onward = omega arith;
            sized = e;
            walked = subst (λ w. Walked b (drop p t) of w (j + 1) (q + n - p) (bound_in bs').starts (bound_in bs').lengths) (sym wide)
                (subst (λ q. Walked b (drop p t) of r.width (j + 1) q (bound_in bs').starts (bound_in bs').lengths) z (walk-goes turn walked here' took much bound));
          }

-- ---- the first word of a left side, which is a symbol

module _ {b : List ℕ} {sh : Shape} {of at : ℕ} {r : RuleSpan} (turn : Turn b sh of at r) (t : List ℕ) (p : ℕ) where
  pub first_some : 0 < r.width
  first_some = let z = forest-length ((well b sh turn.accepted).well_formed_rules of turn.more).left in omega (arith, turn.here.width)

  own : get_or b r.lhs 0 ≡ head (rule (system_of b) of).lhs
  own = ap (λ i. get_or b i 0) (sym (add-zero r.lhs)) ∙ turn.here.word 0 first_some

  symbol : get_or b r.lhs 0 < variable
  symbol =
      let w = well b sh turn.accepted in
      omega (arith, own, few-symbols (system_of b) w, listed-head (system_of b) w of turn.more)

  pub first-fails : (head (rule (system_of b) of).lhs ≡ head (drop p t) → ⊥) → Fails b (drop p t) of
  first-fails d = other-fails turn.accepted (drop p t) of turn.more d

  -- the others are to be matched
  pub first_goes : head (rule (system_of b) of).lhs ≡ head (drop p t) → p < length t → (bs : List ℕ) {bs' : List ℕ} → length bs ≡ binding_words →
      bs' ≡ over bs 0 (zeros binding_words) → {width : ℕ} → width ≡ r.width → Trying b t p of width bs' 1 (p + 1)
  first_goes e h bs {bs'} sized c wide =
      let v = try-starts turn t p bs sized c in
      let l = get_or b (r.lhs + 0) 0 in
      let is : l ≡ get_or b r.lhs 0 = ap (λ i. get_or b i 0) (add-zero r.lhs) in
      let z : p - p ≡ 0 = omega arith in
      let low : l < variable = (let x = symbol in omega arith) in
      let much : 0 < length (drop p t) = (let n = length-drop p t in omega arith) in
      let takes : 1 ≡ taken (signature_of b) (drop p t) l (p - p) (bound_in bs') =
      sym (taken-symbol (signature_of b) (drop p t) l (p - p) (bound_in bs') low ∙ ap (λ i. consumed (signature_of b) l (drop i (drop p t))) z
      ∙ consumed-same (signature_of b) l (drop p t) much low (is ∙ own ∙ e)) in
      subst (λ w. Trying b t p of w bs' 1 (p + 1)) (sym wide) (try-goes turn t p refl v first_some refl (some_words-some takes (λ x. omega arith)) v.sized (symbol-bound bs' refl low (p - p) 1))

  -- the other words of the left side, as the code goes through them
  module _ {lhs : List ℕ} (is : lhs ≡ (rule (system_of b) of).lhs) where
    pub others-wide : length (take (length lhs - 1) (drop 1 lhs)) + 1 ≡ r.width
    others-wide =
        let n = first_some in
        let e = ap length is in
        omega (arith, turn.here.width, part_length lhs 1 (length lhs - 1) (omega arith))

    pub others-word : (i : ℕ) → i < length (take (length lhs - 1) (drop 1 lhs)) → get_or (take (length lhs - 1) (drop 1 lhs)) i 0 ≡ get_or b (r.lhs + (i + 1)) 0
    others-word i h =
        let e = ap length is in
        let w = others-wide in
        let z : 1 + i ≡ i + 1 = omega arith in
        part-word lhs 1 (length lhs - 1) i (omega (arith, turn.here.width)) ∙ ap (λ k. get_or lhs k 0) z ∙ ap (λ l. get_or l (i + 1) 0) is
        ∙ sym (turn.here.word (i + 1) (omega arith))

-- ---- what is found, and what is bound then

abbrev handed : Match → Option Redex
handed m = redex_for m.rule

abbrev pub Tells : List ℕ → List ℕ → Option Redex → List ℕ → Type 0
Tells b ws x bs = (x ≡ redex_of (system_of b) ws) × Bound (match_of (system_of b) ws) bs

module _ {b : List ℕ} {sh : Shape} (acc : Accepted b sh) (t : List ℕ) (p : ℕ) {bs : List ℕ} where
  -- among the built-in rules
  pub finds-computed : {f : Option FirstRule} → f ≡ computed_rule (computed (drop p t)) → literal ≤ get_or (drop p t) 0 0 → Tells b (drop p t) (redex_for f) bs
  finds-computed e h =
      let m = match-words b sh acc (drop p t) e h in
      (ap handed m, λ k rhs size f. absurd (not-computed b sh acc (drop p t) (computed (drop p t)) (sym e ∙ ap (λ y. y.rule) m ∙ f)))

  -- among the listed ones: none, or this one
  module _ (low : get_or (drop p t) 0 0 < literal) {of : ℕ} (a : Along b sh (drop p t) of) where
    pub finds-nothing : sh.rules ≤ of → Tells b (drop p t) None bs
    finds-nothing h =
        let m = sym (along-ends acc (drop p t) a h) ∙ match_low b sh acc (drop p t) low in
        (ap handed m, λ k rhs size f. absurd (let n = ap (λ y. y.rule) m in let z : ◌≡◌ {A = ℕ} 0 1 = cc in omega arith))

    pub finds-rule : {at : ℕ} {r : RuleSpan} (turn : Turn b sh of at r) → RulesAt b of at → r ≡ rule_span b at →
        {width j q : ℕ} → width ≡ r.width → Trying b t p of width bs j q → width ≤ j → Tells b (drop p t) (Some (Listed of)) bs
    finds-rule {r} turn rest e {j} {q} wide v done =
        let w = subst (λ w. Walked b (drop p t) of w j (q - p) (bound_in bs).starts (bound_in bs).lengths) wide v.walked in
        let m = along-here acc (drop p t) a turn.inside rest e (bound_in bs) (walk_ends turn w (omega arith)) ∙ match_low b sh acc (drop p t) low in
        (ap handed m, λ _ _ _ _. sym (take-append-drop variables bs) ∙ ap (λ y. y.starts ++ y.lengths) m)
