-- Words put one by one at the end of the row, the last first: what the loop of `lengths::lay` keeps, and its turns.
use Prim.Native.Nat.{ℕ, ◌≤◌}
use mathlib.Core.Path.{◌≡◌, refl, sym, ap, ◌∙◌, subst}
use mathlib.Core.List.{List, [], ◌∷◌, ◌++◌, append-nil}
use lib.ListN.{length, drop}
use lib.Seq.{drop-length}
use Rattle.buffers.specs.moves.Fronts.{Front, Turn}
use Rattle.buffers.proofs.Fronts.{front-all}
use Rattle.system.specs.Limits.{term_words}
use Rattle.system.specs.Signature.{Signature}
use Rattle.rows.specs.Rows.{counts_at}
use Rattle.rows.specs.gap.Gaps.{behind, even}
use Rattle.rows.specs.lengths.Written.{Written, Laid}
use Rattle.rows.proofs.lengths.Writes.{onward-end, even-end, onward-behind, onward-term, written_none, written_then}

-- words put at the end of the row
abbrev Ended : Signature → List ℕ → List ℕ → ℕ → List ℕ → Type 0
Ended g ws ws' at new = Written g ws (even term_words) term_words ws' at new

-- all words of the term but those that are left are
pub record Pushing (g : Signature) (ws term left ws' : List ℕ) (at : ℕ) : Type 0 where
  pub front : Front left term
  pub written : Ended g ws ws' at (drop (length left) term)

module _ (g : Signature) (ws term : List ℕ) (room : counts_at ≤ length ws) where
  pub pushing-first : {left : List ℕ} → left ≡ term → Pushing g ws term left ws term_words
  pushing-first e = subst (λ left. Pushing g ws term left ws term_words) (sym e) (record {
    front = front-all term;
    written = subst (Ended g ws ws term_words) (sym (drop-length term)) (written_none (onward-end ws room));
  })

  module _ {left ws' : List ℕ} {at : ℕ} (v : Pushing g ws term left ws' at) where
    -- no word is left
    pub pushing-last : length left ≡ 0 → Laid g term (length ws) ws' (behind at)
    pushing-last e =
        let all : drop (length left) term ≡ term = ap (λ n. drop n term) e in
        record {
          measured = onward-behind v.written.onward;
          words = onward-term v.written.onward ∙ v.written.words ∙ (λ i. all i ++ even-end ws room i) ∙ append-nil term;
          front = refl;
          total = v.written.total;
        }

    module _ {left' : List ℕ} {w : ℕ} (t : Turn left left' term w) where
      pub pushing-next : {ws'' : List ℕ} {at' : ℕ} → Written g ws' (even term_words) at ws'' at' (w ∷ []) → Pushing g ws term left' ws'' at'
      pushing-next {ws''} {at'} u = record { front = t.next; written = subst (Ended g ws ws'' at') (sym t.split) (written_then v.written u) }
