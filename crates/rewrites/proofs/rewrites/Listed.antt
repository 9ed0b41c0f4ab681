-- A rewrite by a listed rule: the front of the redex is replaced by the front of the right side, and what both sides end with stays.
use Prim.Native.Nat.{ℕ, ◌+◌, ◌-◌, ◌≤◌, ◌<◌}
use native.Mathlib.Omega.{arith}
use mathlib.Core.Path.{◌≡◌, sym, ap, ◌∙◌, subst}
use mathlib.Core.Option.{some}
use mathlib.Core.List.{List, ◌++◌, append_assoc}
use lib.ListN.{length, get_or, take, drop, take-append-drop}
use lib.Seq.{drop-drop, drop_at}
use Rattle.system.specs.Limits.{variable}
use Rattle.system.specs.Signature.{Signature, replace}
use Rattle.system.specs.System.{System, instance, rule}
use Rattle.system.specs.Terms.{Member, WellFormedRule, Whole}
use Rattle.system.specs.Signature.{signature_of}
use Rattle.reader.specs.declared.Shape.{Shape}
use Rattle.reader.specs.Book.{system_of, Accepted}
use Rattle.system.proofs.Members.{member-front}
use Rattle.layout.proofs.Books.{signature, rule-count}
use Rattle.rows.specs.declared.gap.Gap.{Gap}
use Rattle.rows.specs.Rows.{term_in}
use Rattle.matching.specs.declared.Match.{Match}
use Rattle.std.specs.Prelude.{Some}
use Rattle.redexes.specs.declared.search.Redex.{Redex}
use Rattle.redexes.specs.declared.search.Redex.TheVariants.{Listed}
use Rattle.redexes.proofs.search.Found.{redex-listed}
use Rattle.matching.specs.declared.FirstRule.TheVariants.{First}
use Rattle.matching.specs.Matching.{Contraction, contraction}
use Rattle.matching.specs.Bindings.{value, bindings_of}
use Rattle.matching.specs.rules.Searches.{reduct_length}
use Rattle.matching.proofs.Matched.{instance-cong}
use Rattle.matching.proofs.Words.{instance-append}
use Rattle.matching.proofs.Splits.{match-whole, match-contracts, match-inside, match-law, match-known, match-split, match-fits, split-redex, split-front, split-length}
use Rattle.reducts.specs.declared.putting.Subterm.{Subterm}
use Rattle.sides.specs.sides.Sides.{Sided, stretches_in}
use Rattle.reducts.specs.putting.Replaced.{filling, Filled, Puttable, spliced}
use Rattle.rewrites.specs.rewrites.Rewritten.{Contracts, Reducible, rewritten}
use Rattle.rewrites.proofs.rewrites.Redexes.{measured, redex-here, redex-parted, words, small, width-here, ends, redex-behind, found, found_here}
use Rattle.rewrites.proofs.rewrites.Redexes.{starts-are, lengths-are, starts-many, lengths-many, filling-is}

module _ {book ws : List ℕ} {shape : Shape} {gap : Gap} {u : Subterm} {m : Redex} {bs : List ℕ} (acc : Accepted book shape) (asked : Reducible book ws gap u m bs)
    {k rhs size : ℕ} (F : (found acc asked).rule ≡ Some (First k rhs size)) where
  abbrev s : System
  s = system_of book

  abbrev g : Signature
  g = s.arities

  abbrev t : List ℕ
  t = term_in ws gap

  abbrev left : List ℕ
  left = (rule s k).lhs

  abbrev right : List ℕ
  right = (rule s k).rhs

  abbrev here : List ℕ
  here = (redex-here acc asked).here

  abbrev behind : List ℕ
  behind = (redex-here acc asked).behind

  abbrev M : Match
  M = found acc asked

  whole : Whole g here
  whole = (redex-here acc asked).whole

  -- what the variables stand for
  abbrev σ : ℕ → List ℕ
  σ = value (here ++ behind) (bindings_of M)

  pub listed-inside : k < length s.rules
  listed-inside = match-inside book shape acc behind whole M (found_here acc asked) F

  law : WellFormedRule g (rule s k)
  law = match-law book shape acc behind whole M (found_here acc asked) F

  pub listed-contracts : contraction s (drop u.at t) ≡ some (record { number = k; reduct = instance σ right })
  listed-contracts = ap (contraction s) (redex-parted acc asked) ∙ match-contracts book shape acc behind whole M (found_here acc asked) F

  -- a part of the right side is one too
  pub right-sided : (side : List ℕ) → length side ≤ length right → ((j : ℕ) → j < length side → Member (get_or side j 0) right) → Sided side
  right-sided side l h = record {
    small = (let z = law.short_right in omega arith);
    known = λ j i. (let z = law.known (get_or side j 0) (h j i) in let y = law.variable_bound in omega arith);
  }

  -- ---- both sides end alike, from these words on

  module _ (i j : ℕ) (alike : drop i left ≡ drop j right) where
    abbrev side : List ℕ
    side = take j right

    abbrev kept : ℕ
    kept = reduct_length (stretches_in bs).lengths (drop j right)

    -- the words that are replaced
    abbrev front : Subterm
    front = record { level = u.level; at = u.at; width = u.width - kept }

    kept-is : kept ≡ reduct_length M.lengths (drop i left)
    kept-is = (λ x. reduct_length (lengths-are acc asked F x) (sym alike x))

    pub front-width : u.width ≡ reduct_length M.lengths (take i left) + kept
    front-width =
        width-here acc asked ∙ split-length book shape acc behind whole M (found_here acc asked) F i
        ∙ ap (λ y. reduct_length M.lengths (take i left) + y) (sym kept-is)

    front-is : u.width - kept ≡ reduct_length M.lengths (take i left)
    front-is = omega (arith, front-width)

    side-member : (v : ℕ) → Member (variable + v) side → Member (variable + v) left
    side-member v h =
        match-known book shape acc behind whole M (found_here acc asked) F v
        (subst (Member (variable + v)) (take-append-drop j right) (member-front (drop j right) h))

    pub side-filled : (v : ℕ) → Member (variable + v) side → Filled (signature_of book) t front (stretches_in bs) v
    side-filled v h =
        let l = side-member v h in
        let fits = match-fits book shape acc behind whole M (found_here acc asked) F v in
        let split = match-split book shape acc behind whole M (found_here acc asked) F i v in
        let es = ap (λ y. get_or y v 0) (starts-are acc asked F) in
        let el = ap (λ y. get_or y v 0) (lengths-are acc asked F) in
        record {
          whole = subst (λ y. Whole y (filling t front (stretches_in bs) v)) (signature book shape acc)
              (subst (Whole g) (sym (filling-is acc asked F v)) (match-whole book shape acc behind whole M (found_here acc asked) F v l));
          within = omega (arith, fits, es, el, width-here acc asked, ends acc asked);
          parted = rw (es, el, front-is) split;
        }

    pub side-puttable : Sided side → Puttable (signature_of book) side ws gap front (stretches_in bs)
    side-puttable sided = record {
      total = asked.total;
      measured = measured acc asked;
      within = omega (arith, ends acc asked, words acc asked);
      around = omega (arith, ends acc asked, words acc asked, small acc asked, asked.around);
      sided = sided;
      starts = starts-many acc asked;
      lengths = lengths-many acc asked;
      filled = side-filled;
    }

    -- the term then is the rewrite
    reduct-is : instance σ right ≡ instance (filling t u (stretches_in bs)) side ++ instance σ (drop i left)
    reduct-is =
        ap (instance σ) (sym (take-append-drop j right)) ∙ instance-append σ side (drop j right)
        ∙ (λ x. instance-cong σ (filling t u (stretches_in bs)) side (λ w n h e. sym (filling-is acc asked F n)) x ++ instance σ (sym alike x))

    rest-is : instance σ (drop i left) ++ behind ≡ drop (u.at + (u.width - kept)) t
    rest-is =
        let w = u.width - kept in
        let h = split-redex book shape acc behind whole M (found_here acc asked) F i in
        let n : length (instance σ (take i left)) ≡ w = split-front book shape acc behind whole M (found_here acc asked) F i ∙ sym front-is in
        sym (sym (drop-drop w u.at t) ∙ ap (drop w) (redex-parted acc asked ∙ ap (λ y. y ++ behind) h ∙ append_assoc (instance σ (take i left)) (instance σ (drop i left)) behind)
        ∙ drop_at (instance σ (take i left)) (instance σ (drop i left) ++ behind) w n)

    pub side-rewritten : (x : Contraction) → Contracts book ws gap u x → spliced side t front (stretches_in bs) ≡ rewritten s ws gap u x
    unfolding replace
    side-rewritten x c =
        let z : record { number = k; reduct = instance σ right } ≡ x = cc (listed-contracts) in
        let v = instance (filling t u (stretches_in bs)) side in
        append_assoc (take u.at t) v (drop (u.at + (u.width - kept)) t)
        ∙ ap (λ y. take u.at t ++ (v ++ y)) (sym rest-is)
        ∙ ap (λ y. take u.at t ++ y) (sym (append_assoc v (instance σ (drop i left)) behind) ∙ ap (λ y. y ++ behind) (sym reduct-is))
        ∙ (λ i. take u.at t ++ ((z i).reduct ++ sym (redex-behind acc asked) i))
        ∙ ap (λ y. take u.at t ++ (x.reduct ++ drop (u.at + y) t)) asked.wide

-- ---- the rule itself

module _ {book ws : List ℕ} {shape : Shape} {gap : Gap} {u : Subterm} {m : Redex} {bs : List ℕ} (acc : Accepted book shape) (asked : Reducible book ws gap u m bs) {k : ℕ} (is : m ≡ Listed k) where
  pub listed-rule : (rhs : ℕ) × (size : ℕ) × ((found acc asked).rule ≡ Some (First k rhs size))
  listed-rule = redex-listed book shape acc (drop u.at (term_in ws gap)) (asked.match ∙ ap Some is)

  pub listed-more : k < shape.rules
  listed-more = let h = listed-inside acc asked listed-rule.2 in omega (arith, rule-count book shape acc)
