-- Three words tell which built-in rule there is.
use native.Mathlib.Omega.{arith}
use mathlib.Core.Path.{refl, sym, ap, ◌∙◌}
use mathlib.Core.List.{[], ◌∷◌}
use lib.ListN.{drop}
use Rattle.rows.specs.Rows.{term_in}
use Rattle.matching.specs.Matching.{computed}
use Rattle.matching.specs.Bindings.{computed_rule}
use Rattle.matching.proofs.Computed.{computed-words}
use Rattle.redexes.proofs.search.Taking.{word-from}
use Rattle.redexes.proofs.search.computed_at.Goals as goal

pub returns : goal.returns
returns c =
    let a = c.args in
    let t = term_in a.area.now a.gap in
    c.computed.ensures
    ∙ ap computed_rule
    ((λ i. computed (
    word-from t a.p 0 a.p (omega arith) c.requires.2 i
    ∷ word-from t a.p 1 _ refl c.word_or_none.ensures i
    ∷ word-from t a.p 2 _ refl c.word_or_none-2.ensures i
    ∷ []
    )) ∙ sym (computed-words (drop a.p t)))
