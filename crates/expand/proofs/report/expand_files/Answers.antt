-- `expand_files` meets its contract.
use native.Mathlib.Omega.{arith}
use lib.ListN.{length-take}
use Rattle.files.proofs.words.Loads.{Loaded, loaded}
use Rattle.expand.proofs.report.Reports.{text_words}
use Rattle.expand.proofs.report.expand_files.Given.{Over}
use Rattle.expand.proofs.report.expand_files.Goals as goal
use Rattle.expand.proofs.report.expand_files.Goals.{After-load-n, After-load-m}

-- the book's words, and the cue file's
book_loaded : (g : Over) (c : After-load-n g) → Loaded c.args.book.now c.load-n.result c.load-n.new.words
book_loaded g c = loaded c.args.book.now _ c.load-n.new.words c.load-n.result c.requires.book_fits c.load-n.ensures.count c.load-n.ensures.loaded

cue_loaded : (g : Over) (c : After-load-m g) → Loaded c.args.cue.now c.load-m.result c.load-m.new.words
cue_loaded g c = loaded c.args.cue.now _ c.load-m.new.words c.load-m.result (omega (arith, c.requires.cue_fits)) c.load-m.ensures.count c.load-m.ensures.loaded

pub slice_bounds-term-end : goal.slice_bounds-term-end
slice_bounds-term-end g c = (cue_loaded g (goal.at.slice_bounds-term-end g c).After-load-m).fits

pub slice_bounds-t-14-end : goal.slice_bounds-t-14-end
slice_bounds-t-14-end g c =
    let f = (cue_loaded g (goal.at.slice_bounds-t-14-end g c).After-load-m).fits in
    simp length-take (omega arith)

pub slice_bounds-words-end : goal.slice_bounds-words-end
slice_bounds-words-end g c = (book_loaded g (goal.at.slice_bounds-words-end g c).After-load-n).fits

pub slice_bounds-expand_cue-end : goal.slice_bounds-expand_cue-end
slice_bounds-expand_cue-end g c =
    let f = (book_loaded g (goal.at.slice_bounds-expand_cue-end g c).After-load-n).fits in
    simp length-take (omega arith)

pub returns-in-len1-up : goal.returns-in-len1-up
returns-in-len1-up g c =
    let b = (book_loaded g (goal.at.returns-in-len1-up g c).After-load-n).words in
    let l = (cue_loaded g (goal.at.returns-in-len1-up g c).After-load-m).words in
    text_words c.args.page.now _ _ _ _ c.from.result b l c.in-len1-up.len_at_least c.from.ensures c.expand_cue.ensures
