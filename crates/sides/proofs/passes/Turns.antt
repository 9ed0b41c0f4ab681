-- A turn of a pass over a side, as the loop of `passes::write` has it: of a symbol, and of a variable.
use Prim.Native.Nat.{ℕ, ◌+◌, ◌-◌, ◌≤◌, ◌<◌}
use native.Mathlib.Omega.{arith}
use mathlib.Core.Path.{◌≡◌, sym, ap, ◌∙◌, subst}
use mathlib.Core.List.{List}
use lib.ListN.{length, get_or}
use Rattle.buffers.specs.moves.Fronts.{Front, Turn}
use Rattle.buffers.proofs.Fronts.{turn-inside, turn-read}
use Rattle.system.specs.Limits.{variable, variables}
use Rattle.redexes.specs.search.Redexes.{binding_words}
use Rattle.sides.specs.declared.writing.Source.{Source}
use Rattle.sides.specs.writing.Reduct.{stretch_at}
use Rattle.sides.specs.passes.Tasks.{Task, task, Fillable, AtSymbol, AtVariable}
use Rattle.sides.proofs.Bindings.{binding-words, start-told, length-told}

module _ {t : Task} (q : Fillable t) {rest rest' : List ℕ} {w : ℕ} (f : Front rest t.side) (k : Turn rest rest' t.side w) (v : ℕ) (is : v ≡ w) where
  pub at-symbol : v < variable → AtSymbol t rest rest' w
  at-symbol h = record { turn = k; symbol = omega arith }

  -- which variable it is, where the word is one
  pub variable-known : v - variable < variables
  variable-known = let z = q.sided.known (length rest') (turn-inside f k) in let y = turn-read f k 0 in omega arith

module _ (bindings : List ℕ) {side ws : List ℕ} {back : ℕ} {source : Source} (q : Fillable (task side ws back bindings source)) where
  pub bindings-long : length bindings ≡ binding_words
  bindings-long = binding-words bindings q.lengths

  pub at-variable : {rest rest' : List ℕ} {w : ℕ} → Front rest side → Turn rest rest' side w → (v : ℕ) → v ≡ w → variable ≤ v →
      {i from n : ℕ} → i ≡ get_or bindings (v - variable) 0 → from ≡ stretch_at source i → n ≡ get_or bindings (variables + (v - variable)) 0 →
      AtVariable (task side ws back bindings source) rest rest' from n
  at-variable {rest} {rest'} f k v is h starts stands long = record {
    word = v;
    turn = subst (Turn rest rest' side) (sym is) k;
    named = h;
    start = stands ∙ ap (stretch_at source) (starts ∙ start-told bindings (v - variable) (variable-known q f k v is));
    long = long ∙ length-told bindings (v - variable);
  }
