-- `check_bytes` meets its contract.
use native.Mathlib.Omega.{arith}
use lib.ListN.{length-take}
use Rattle.files.proofs.words.Loads.{Loaded, loaded}
use Rattle.check_book.proofs.report.check_bytes.Goals as goal
use Rattle.check_book.proofs.report.check_bytes.Given.{Over}
use Rattle.check_book.proofs.report.check_bytes.Goals.{After-load-n}

-- the book's words
book_loaded : (g : Over) (c : After-load-n g) → Loaded c.args.book.now c.load-n.result c.load-n.new.words
book_loaded g c = loaded c.args.book.now _ c.load-n.new.words c.load-n.result c.requires.fits c.load-n.ensures.count c.load-n.ensures.loaded

pub slice_bounds-words-end : goal.slice_bounds-words-end
slice_bounds-words-end g c = (book_loaded g (goal.at.slice_bounds-words-end g c).After-load-n).fits

pub slice_bounds-check_words-end : goal.slice_bounds-check_words-end
slice_bounds-check_words-end g c =
    let f = (book_loaded g (goal.at.slice_bounds-check_words-end g c).After-load-n).fits in
    simp length-take (omega arith)

pub returns : goal.returns
returns g c = rw (book_loaded g (goal.at.returns g c).After-load-n).words at c.check_words.ensures
