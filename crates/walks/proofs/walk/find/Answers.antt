-- `walk::find` meets its contract.
use native.Mathlib.Omega.{arith}
use Rattle.reader.specs.Book.{system_of}
use Rattle.layout.proofs.Books.{well}
use Rattle.rows.specs.Rows.{term_in}
use Rattle.walks.specs.walk.Way.{Over}
use Rattle.walks.proofs.walk.Descending.{over-in}
use Rattle.walks.proofs.walk.Finding.{found-behind, found_in}
use Rattle.walks.proofs.walk.find.Goals as goal
use Rattle.walks.proofs.walk.find.Goals.{After-climb-over}

-- the finger goes up to where its subterm holds the position
over : (c : After-climb-over) → let a = c.args in Over (system_of a.index.now.book.words.now) (term_in a.area.now a.f.gap) a.area.now c.climb-over.result a.q
over c =
    let a = c.args in
    c.climb-over.ensures (system_of a.index.now.book.words.now) (well a.index.now.book.words.now a.index.now.book.shape a.index.now.book.accepted) c.requires

-- ---- the goals

pub returns-then-words-q : goal.returns-then-words-q
returns-then-words-q c =
    let a = c.args in
    found-behind a.index.now.book c.requires a.q (let l = c.if-words-q.true in omega (arith, c.words.ensures))

pub climb-over-requires : goal.climb-over-requires
climb-over-requires c =
    let a = c.args in (
      (system_of a.index.now.book.words.now, well a.index.now.book.words.now a.index.now.book.shape a.index.now.book.accepted, c.requires),
      let l = c.if-words-q.false in omega (arith, c.words.ensures),
    )

pub descend-requires : goal.descend-requires
descend-requires c =
    (over-in c.args.index.now.book (over (goal.at.descend-requires c).After-climb-over))

pub returns : goal.returns
returns c =
    found_in c.args.index.now.book (over (goal.at.returns c).After-climb-over).points _ _ _ c.descend.ensures
