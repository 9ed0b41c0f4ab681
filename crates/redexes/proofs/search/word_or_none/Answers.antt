-- A word of the term, or none.
use native.Mathlib.Omega.{arith}
use mathlib.Core.Path.{sym}
use lib.ListN.{get_or-eq_default}
use Rattle.rows.specs.Rows.{term_in}
use Rattle.rows.proofs.lengths.Measures.{words-length}
use Rattle.redexes.proofs.search.word_or_none.Goals as goal

pub returns-then-words-q : goal.returns-then-words-q
returns-then-words-q c =
    let a = c.args in
    let n = words-length c.requires in
    let is = c.words.ensures in
    sym (get_or-eq_default (term_in a.area.now a.gap) 0 {n = a.q} (let h = c.if-words-q.true in omega arith))
