-- `walk::inside` meets its contract.
use mathlib.Core.Path.{◌∙◌}
use Rattle.rows.specs.Rows.{term_in}
use Rattle.rows.proofs.lengths.Measures.{measured-length}
use Rattle.walks.proofs.walk.Insides.{within-before, within-read}
use Rattle.walks.proofs.walk.inside.Goals as goal

pub returns-else-at-q : goal.returns-else-at-q
returns-else-at-q c = let a = c.args in λ g m. within-before g (term_in a.area.now a.gap) a.at a.q c.if-at-q.false

pub returns-then-at-q : goal.returns-then-at-q
returns-then-at-q c =
    let a = c.args in
    λ g m. within-read g (term_in a.area.now a.gap) a.at a.q c.if-at-q.true c.length_at.result (c.length_at.ensures.0 ∙ measured-length m a.at)
