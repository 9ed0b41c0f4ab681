-- What is handed back as an argument is a whole term, and it is empty exactly where there is no such argument.
use Prim.Native.Nat.{ℕ, suc, ◌-◌, ◌<◌}
use native.Mathlib.Omega.{arith}
use native.Mathlib.Decide.{dec_lt, ℕ_discrete}
use mathlib.Core.Path.{◌≡◌, sym, ap, ◌∙◌, subst}
use mathlib.Core.Logic.{◌⊎◌, inl, inr, ◌↔◌}
use mathlib.Core.Option.{none}
use mathlib.Core.List.{List, [], ◌∷◌, ◌++◌, append-nil, flatten}
use lib.ListN.{length, get_or, take, drop}
use Rattle.system.specs.Signature.{Signature, Symbol, arity, argument, subterm}
use Rattle.system.specs.System.{head}
use Rattle.system.specs.Terms.{Whole}
use Rattle.reader.specs.Answers.{HasArgument, term_answer, argument_at, part_of}
use Rattle.system.specs.Signature.{signature_of}
use Rattle.system.proofs.Forests.{focus-here, Node, as-node, forest-length}
use Rattle.system.proofs.Places.{at-subterm, root-argument}
use Rattle.system.proofs.TermChecks.{fault-whole}
use Rattle.terms.proofs.Answering.{checked, argument-refused, argument-zero, argument-beyond, argument-there}

-- ---- in a term

module _ (g : Signature) where
  node-argument : (w : ℕ) (us : List (List ℕ)) → Node g w us → (k : ℕ) → k < length us → subterm g (w ∷ flatten us) (argument g (w ∷ flatten us) 0 k) ≡ get_or us k []
  node-argument w us d k l =
      let front = w ∷ flatten (take k us) in
      let e = sym (append-nil (w ∷ flatten us)) ∙ focus-here [] [] w us k l in
      ap (λ p. subterm g (w ∷ flatten us) p) (root-argument g (Symbol g) w us k l d.wholes)
      ∙ ap (λ t. subterm g t (length front)) e
      ∙ at-subterm g (Symbol g) front (flatten (drop (suc k) us) ++ []) (d.wholes k l)

  -- each argument of a whole term is a whole term
  pub argument-whole : (t : List ℕ) → Whole g t → (k : ℕ) → k < arity g (head t) → Whole g (subterm g t (argument g t 0 k))
  argument-whole t f k l =
      let n = as-node g f in
      let w = n.symbol in
      let us = n.parts in
      let l' : k < length us = rw n.node.count (rw n.equal at l) in
      subst (λ u. Whole g (subterm g u (argument g u 0 k))) (sym n.equal) (rw (node-argument w us n.node k l') (n.node.wholes k l'))

-- ---- of the caller's term

module _ (ws t : List ℕ) (i : ℕ) where
  there-or-none : HasArgument ws t i ⊎ (argument_at ws t i ≡ none)
  there-or-none =
      elim (ℕ_discrete (term_answer ws t).number 0) [
        | no n ↦ inr (argument-refused ws t i n)
        | yes n ↦ elim (ℕ_discrete i 0) [
          | yes z ↦ inr (argument-zero ws t (checked ws t n) i z)
          | no z ↦ elim (dec_lt (arity (signature_of ws) (head t)) i) [
            | yes b ↦ inr (argument-beyond ws t (checked ws t n) i (omega arith) b)
            | no b ↦ inl (record { accepted = n; least = omega arith; most = omega arith })
          ]
        ]
      ]

  -- the part that is handed back is a whole term
  pub part-whole : HasArgument ws t i → Whole (signature_of ws) (part_of ws t (argument_at ws t i))
  unfolding argument
  part-whole h =
      let c = checked ws t h.accepted in
      let w = (fault-whole (signature_of ws) t c.whole).0 in
      let l = h.least in
      let m = h.most in
      rw (argument-there ws t c i l m) (argument-whole (signature_of ws) t w (i - 1) (omega arith))

  -- "The part is empty exactly when book or cue would be refused, or i is not 1 up to the argument count."
  pub part-empty : (part_of ws t (argument_at ws t i) ≡ []) ↔ (HasArgument ws t i → ⊥)
  part-empty = (λ e h. let l = forest-length (part-whole h) in let z = ap length e in omega arith, go there-or-none)
    where
      go : HasArgument ws t i ⊎ (argument_at ws t i ≡ none) → (HasArgument ws t i → ⊥) → part_of ws t (argument_at ws t i) ≡ []
      go (inl h) n = absurd (n h)
      go (inr e) n = rw e
